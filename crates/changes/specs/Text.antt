-- The text of a row of changes: its lines and words, the numbers in it, and what each line asks for.
use Rattle.std.specs.Prelude.{ℕ, ◌+◌, ◌-◌, ◌*◌, ◌^◌, min, Bool, cond, ◌&&◌, ◌||◌, List, [], ◌∷◌, ◌++◌, length, take, Some, None, codes, Option, ◌==◌, nat_le, nat_lt, slice_index}
use Rattle.std.specs.List.{slice_split}
use Rattle.std.specs.Str.{all_ascii_digits, bytes_eq}
use Rattle.changes.specs.declared.asked.Change.{Change}
use Rattle.changes.specs.declared.asked.Change.TheVariants.{Height, Rain, Drain}
use Rattle.changes.specs.declared.asked.Asked.{Asked}

-- the pieces of a text, cut at each byte `mark`, which is in none of them
abbrev pub pieces : ℕ → List ℕ → List (List ℕ)
pieces mark xs = slice_split (λ x. x == mark) xs

-- lines are parted by a newline, and words by one space
abbrev pub lines : List ℕ → List (List ℕ)
lines xs = pieces 10 xs

abbrev pub words : List ℕ → List (List ℕ)
words xs = pieces 32 xs

-- a line without the carriage return at its end
abbrev pub chomped : List ℕ → List ℕ
chomped xs = cond (slice_index xs (length xs - 1) == 13) (take (length xs - 1) xs) xs

-- the number that digits write: each counts ten times as much as the one after it
abbrev pub written : List ℕ → ℕ
written [] = 0
written (b ∷ bs) = (b - 48) * 10 ^ length bs + written bs

-- the largest number that is told from larger ones
abbrev pub largest : ℕ
largest = 4294967295

-- a word that is one digit or more, and nothing but digits, is the number that they write; any larger one is the largest
abbrev pub number_of : List ℕ → Option ℕ
number_of word = cond (nat_lt 0 (length word) && all_ascii_digits word) (Some (min (written word) largest)) None

-- the change that a name and two numbers ask for: a height, a rain, or a drain mark, whose number is 0 or 1
abbrev pub change_named : List ℕ → ℕ → ℕ → Option Change
change_named name c v =
    cond (bytes_eq name (codes "height")) (Some (Height (record { 0 = c }) (record { 0 = v })))
    (cond (bytes_eq name (codes "rain")) (Some (Rain (record { 0 = c }) (record { 0 = v })))
    (cond (bytes_eq name (codes "drain") && nat_le v 1) (Some (Drain (record { 0 = c }) (v == 1))) None))

-- the same, if both words are numbers
abbrev pub change_read : List ℕ → Option ℕ → Option ℕ → Option Change
change_read name None v = None
change_read name (Some c) None = None
change_read name (Some c) (Some v) = change_named name c v

-- a change is three words: a name, a cell and a value
abbrev pub change_of : List (List ℕ) → Option Change
change_of [] = None
change_of (a ∷ []) = None
change_of (a ∷ b ∷ []) = None
change_of (a ∷ b ∷ c ∷ []) = change_read a (number_of b) (number_of c)
change_of (a ∷ b ∷ c ∷ d ∷ more) = None

-- a blank line, or one that begins with `#`
abbrev pub passed_over : List ℕ → Bool
passed_over xs = length xs == 0 || slice_index xs 0 == 35

-- what line n asks for: nothing if it is passed over, else its change, if it is one
abbrev pub asked_by : ℕ → List ℕ → List Asked
asked_by n xs = cond (passed_over (chomped xs)) [] (record { line = n; change = change_of (words (chomped xs)) } ∷ [])

-- what lines ask for, of which the first is line n
abbrev pub asked_from : ℕ → List (List ℕ) → List Asked
asked_from n [] = []
asked_from n (xs ∷ more) = asked_by n xs ++ asked_from (n + 1) more

-- WHAT A TEXT ASKS FOR, line after line; lines are numbered from 1
abbrev pub row_of : List ℕ → List Asked
row_of text = asked_from 1 (lines text)
