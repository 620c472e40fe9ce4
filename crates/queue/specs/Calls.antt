-- What a push and a pop answer, and what they leave in the lent slice.
use Rattle.std.specs.Prelude.{◌≡◌, ℕ, ◌<◌, ◌≤◌, Bool, ◌&&◌, ◌||◌, ◌⊎◌, List, length, Option, MatchOption, ◌==◌, nat_lt, slice_index}
use Rattle.queue.specs.Heap.{word, level_of, cell_of, sifted, pushed, popped}
use Rattle.queue.specs.declared.Entry.{Entry}
use Rattle.queue.specs.declared.Popped.{Popped}

-- the word of an entry
abbrev pub word_of : Entry → ℕ
word_of e = word e.level.0 e.cell.0

-- w is the word of e, and e is what w says
pub record Coded (e : Entry) (w : ℕ) : Type 0 where
  pub word : w ≡ word_of e
  pub level : e.level.0 ≡ level_of w
  pub cell : e.cell.0 ≡ cell_of w

-- of two words: the one has the lower level, or the same level and the lower number
abbrev pub earlier : ℕ → ℕ → Bool
earlier a b = nat_lt (level_of a) (level_of b) || (level_of a == level_of b && nat_lt (cell_of a) (cell_of b))

-- words stand in the order of their entries
abbrev pub WordsInOrder : Type 0
WordsInOrder = (a b : ℕ) → nat_lt a b ≡ earlier a b

-- of the first n entries e has the lowest level, and of those with this level the lowest number
abbrev pub Lowest : Entry → List ℕ → ℕ → Type 0
Lowest e xs n = (k : ℕ) → k < n → let w = slice_index xs k in (e.level.0 < level_of w) ⊎ ((e.level.0 ≡ level_of w) × (e.cell.0 ≤ cell_of w))

-- a push to the first n entries of xs, after which the list is ys: the number of looks; or no answer where the list is full, and nothing is changed
abbrev pub Pushes : List ℕ → ℕ → Entry → List ℕ → Option ℕ → Type 0
Pushes xs n e ys answer = MatchOption answer ((length xs ≤ n) × (ys ≡ xs)) (λ looks. (n < length xs) × (sifted ys looks ≡ pushed xs n (word_of e)))

-- p is popped from the first n entries of xs, after which the list is ys: it is the first of them
pub record Takes (xs : List ℕ) (n : ℕ) (ys : List ℕ) (p : Popped) : Type 0 where
  pub some : 0 < n
  pub within : n ≤ length xs
  pub first : word_of p.entry ≡ slice_index xs 0
  pub after : sifted ys p.looks ≡ popped xs n

-- a pop; or no answer where there is no entry, or the list is shorter than n, and nothing is changed
abbrev pub Pops : List ℕ → ℕ → List ℕ → Option Popped → Type 0
Pops xs n ys answer = MatchOption answer (((n ≡ 0) ⊎ (length xs < n)) × (ys ≡ xs)) (Takes xs n ys)
