-- A binary heap of words in the front of a list: its order, its content, and where an entry comes to stand after how many looks.
use Rattle.std.specs.Prelude.{◌≡◌, ℕ, zero, suc, ◌+◌, ◌-◌, ◌*◌, ◌/◌, ◌%◌, ◌<◌, ◌≤◌, if◌then◌else◌, List, take, sum_by, nat_lt, slice_index, slice_index_or, slice_set}

-- an entry as one word: the level in its high half, the cell's number in its low half
abbrev pub word : ℕ → ℕ → ℕ
word level cell = level * 4294967296 + cell

abbrev pub level_of : ℕ → ℕ
level_of w = w / 4294967296

abbrev pub cell_of : ℕ → ℕ
cell_of w = w % 4294967296

-- the place of the parent of place i
abbrev pub parent_of : ℕ → ℕ
parent_of i = (i - 1) / 2

-- of the first n entries none is less than its parent
abbrev pub Heap : List ℕ → ℕ → Type 0
Heap xs n = (k : ℕ) → 0 < k → k < n → slice_index xs (parent_of k) ≤ slice_index xs k

-- x is at most each of the first n entries
abbrev pub Least : ℕ → List ℕ → ℕ → Type 0
Least x xs n = (k : ℕ) → k < n → x ≤ slice_index xs k

-- the first m entries of ys are the first n of xs and x, in some order: whatever number g gives to each entry, the sums agree
abbrev pub Gains : List ℕ → ℕ → ℕ → List ℕ → ℕ → Type 0
Gains xs n x ys m = (g : ℕ → ℕ) → sum_by g (take m ys) ≡ sum_by g (take n xs) + g x

-- from the n-th entry on ys is as xs
abbrev pub Rest : List ℕ → ℕ → List ℕ → Type 0
Rest xs n ys = (k : ℕ) → n ≤ k → slice_index ys k ≡ slice_index xs k

-- what a sift leaves: the list, and the number of looks
pub record Sifted : Type 0 where
  pub entries : List ℕ
  pub looks : ℕ

abbrev pub sifted : List ℕ → ℕ → Sifted
sifted xs k = record { entries = xs; looks = k }

-- x comes to stand at place i after k looks
abbrev pub placed : List ℕ → ℕ → ℕ → ℕ → Sifted
placed xs i x k = sifted (slice_set xs i x) k

-- place i is free and x goes up from there, past each parent that is greater; k looks are made, and f more are allowed
unfoldable pub rise : ℕ → List ℕ → ℕ → ℕ → ℕ → Sifted
rise zero xs i x k = placed xs i x k
rise (suc f) xs i x k =
    let above = slice_index_or xs (parent_of i) 0 in
    if nat_lt 0 i
    then (if nat_lt x above then rise f (slice_set xs i above) (parent_of i) x (k + 1) else placed xs i x (k + 1))
    else placed xs i x k

-- the place of the lesser child of place i among the first n, the left one of equals
abbrev pub lesser : List ℕ → ℕ → ℕ → ℕ
lesser xs n i =
    let left = 2 * i + 1 in
    let right = 2 * i + 2 in
    if nat_lt right n then (if nat_lt (slice_index xs right) (slice_index xs left) then right else left) else left

-- place i is free and x goes down from there among the first n, past each lesser child that is less; k and f as above
unfoldable pub sink : ℕ → List ℕ → ℕ → ℕ → ℕ → ℕ → Sifted
sink zero xs n i x k = placed xs i x k
sink (suc f) xs n i x k =
    let child = lesser xs n i in
    let below = slice_index_or xs child 0 in
    if nat_lt (2 * i + 1) n
    then (if nat_lt below x then sink f (slice_set xs i below) n child x (k + 1) else placed xs i x (k + 1))
    else placed xs i x k

-- a push of x to n entries: x goes up from place n; n looks always suffice
abbrev pub pushed : List ℕ → ℕ → ℕ → Sifted
pushed xs n x = rise n xs n x 0

-- a pop from n entries: the last goes down from the first place among the others; as many looks as there are others always suffice
abbrev pub popped : List ℕ → ℕ → Sifted
popped xs n = sink (n - 1) xs (n - 1) 0 (slice_index xs (n - 1)) 0
