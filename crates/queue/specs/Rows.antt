-- Rows of pushes and pops, and what is promised of each row.
use Rattle.std.specs.Prelude.{◌≡◌, ℕ, zero, suc, ◌+◌, ◌-◌, ◌<◌, ◌≤◌, if◌then◌else◌, ◌&&◌, List, [], ◌∷◌, length, take, sum_by, nat_le, nat_lt, slice_index}
use Rattle.queue.specs.Heap.{Heap, pushed, popped}

-- the list after pushes of all words of a list to its first n
abbrev pub pushed_all : List ℕ → ℕ → List ℕ → List ℕ
pushed_all xs n [] = xs
pushed_all xs n (w ∷ words) = pushed_all (pushed xs n w).entries (n + 1) words

-- what pops give out until none of the first n entries is left
abbrev pub popped_all : List ℕ → ℕ → List ℕ
popped_all xs zero = []
popped_all xs (suc n) = slice_index xs 0 ∷ popped_all (popped xs (suc n)).entries n

-- no entry is less than one before it
abbrev pub Ascending : List ℕ → Type 0
Ascending xs = (i j : ℕ) → i ≤ j → j < length xs → slice_index xs i ≤ slice_index xs j

-- the same entries in some order
abbrev pub Same : List ℕ → List ℕ → Type 0
Same xs ys = (g : ℕ → ℕ) → sum_by g xs ≡ sum_by g ys

-- words pushed into a list that has room for them, and popped until none is left, come out in ascending order
abbrev pub Sorts : Type 0
Sorts = (room words : List ℕ) → length words ≤ length room →
    let out = popped_all (pushed_all room 0 words) (length words) in Ascending out × Same out words

-- an operation on a heap
pub data Operation : Type 0 where
  Push : ℕ → Operation
  Pop : Operation

-- a row of operations so far: the list, how many of its first entries are in the heap, which were put in, and which were given out
pub record Row : Type 0 where
  pub entries : List ℕ
  pub count : ℕ
  pub taken : List ℕ
  pub given : List ℕ

-- one operation more; a push to a full list, and a pop of nothing, change nothing
unfoldable pub operated : Row → Operation → Row
operated r (Push x) =
    if nat_lt r.count (length r.entries)
    then record r { entries = (pushed r.entries r.count x).entries; count = r.count + 1; taken = x ∷ r.taken }
    else r
operated r Pop =
    if nat_lt 0 r.count && nat_le r.count (length r.entries)
    then record r { entries = (popped r.entries r.count).entries; count = r.count - 1; given = slice_index r.entries 0 ∷ r.given }
    else r

abbrev pub operated_all : Row → List Operation → Row
operated_all r [] = r
operated_all r (o ∷ os) = operated_all (operated r o) os

-- a row of operations on the first n entries of a list
abbrev pub begun : List ℕ → ℕ → Row
begun xs n = record { entries = xs; count = n; taken = []; given = [] }

abbrev pub row : List ℕ → ℕ → List Operation → Row
row xs n os = operated_all (begun xs n) os

-- what is in at the end and what was given out is what was in at the start and what was put in
abbrev pub LosesNothing : Type 0
LosesNothing = (xs : List ℕ) (n : ℕ) (os : List Operation) (g : ℕ → ℕ) →
    let r = row xs n os in sum_by g (take r.count r.entries) + sum_by g r.given ≡ sum_by g (take n xs) + sum_by g r.taken

-- a heap is one after every row
abbrev pub KeepsOrder : Type 0
KeepsOrder = (xs : List ℕ) (n : ℕ) (os : List Operation) → Heap xs n → Heap (row xs n os).entries (row xs n os).count

-- the words that a row pushes
abbrev pub pushes : List Operation → List ℕ
pushes [] = []
pushes (Push x ∷ os) = x ∷ pushes os
pushes (Pop ∷ os) = pushes os

-- where there is room for all, each word that is pushed is put in
abbrev pub RefusesNone : Type 0
RefusesNone = (xs : List ℕ) (n : ℕ) (os : List Operation) → n + length (pushes os) ≤ length xs → Same (row xs n os).taken (pushes os)
