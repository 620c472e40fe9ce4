-- What is proved of numbers and rows in a text, in words that are not the program's.
use Rattle.std.specs.Prelude.{◌≡◌, ℕ, ◌+◌, ◌<◌, ◌≤◌, min, cond, List, [], ◌∷◌, ◌++◌, length, Some, codes, decimal, slice_index}
use Rattle.std.specs.List.{AllByRecursion}
use Rattle.changes.specs.declared.asked.Change.{Change}
use Rattle.changes.specs.declared.asked.Change.TheVariants.{Height, Rain, Drain}
use Rattle.changes.specs.declared.asked.Asked.{Asked}
use Rattle.changes.specs.Text.{written, largest, number_of, row_of}

-- a word of one digit or more and nothing but digits, from `0` to `9`; n is what they write, or the largest number
pub record Numeral (word : List ℕ) (n : ℕ) : Type 0 where
  pub some : 0 < length word
  pub digits : (k : ℕ) → k < length word → (48 ≤ slice_index word k) × (slice_index word k ≤ 57)
  pub value : n ≡ min (written word) largest

-- A WORD IS A NUMBER exactly if it is such a word, and that number
abbrev pub NumbersAreDecimal : Type 0
NumbersAreDecimal = (word : List ℕ) (n : ℕ) → (number_of word ≡ Some n → Numeral word n) × (Numeral word n → number_of word ≡ Some n)

-- A NUMBER THAT IS WRITTEN OUT reads back, if it is not above the largest
abbrev pub WrittenNumbersReadBack : Type 0
WrittenNumbersReadBack = (n : ℕ) → n ≤ largest → number_of (decimal n) ≡ Some n

-- a name and two numbers as a line
abbrev pub line_with : List ℕ → ℕ → ℕ → List ℕ
line_with name c v = name ++ (codes " " ++ (decimal c ++ (codes " " ++ decimal v)))

-- a change as a line
abbrev pub line_of : Change → List ℕ
line_of (Height c v) = line_with (codes "height") c.0 v.0
line_of (Rain c v) = line_with (codes "rain") c.0 v.0
line_of (Drain c set) = line_with (codes "drain") c.0 (cond set 1 0)

-- changes as a text, one to a line
abbrev pub text_of : List Change → List ℕ
text_of [] = []
text_of (x ∷ xs) = line_of x ++ (codes "\n" ++ text_of xs)

-- a change without a number above the largest
abbrev pub Small : Change → Type 0
Small (Height c v) = (c.0 ≤ largest) × (v.0 ≤ largest)
Small (Rain c v) = (c.0 ≤ largest) × (v.0 ≤ largest)
Small (Drain c set) = c.0 ≤ largest

-- changes asked for by the lines from n on
abbrev pub asked_at : ℕ → List Change → List Asked
asked_at n [] = []
asked_at n (x ∷ xs) = record { line = n; change = Some x } ∷ asked_at (n + 1) xs

-- A ROW THAT IS WRITTEN OUT reads back, change by change
abbrev pub WrittenRowsReadBack : Type 0
WrittenRowsReadBack = (row : List Change) → AllByRecursion Small row → row_of (text_of row) ≡ asked_at 1 row
