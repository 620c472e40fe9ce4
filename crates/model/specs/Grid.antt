-- A grid of cells numbered along rows: rows and columns, neighbours, the border.
use Rattle.std.specs.Prelude.{ℕ, ◌+◌, ◌-◌, ◌*◌, ◌/◌, ◌%◌, Bool, false, cond, ◌&&◌, ◌||◌, List, [], ◌∷◌, ◌++◌, Some, None, Option, ◌==◌, nat_le, nat_lt}
use Rattle.std.specs.Option.{option_to_list}
use Rattle.model.specs.declared.steps.Step.{Step}

-- the row and the column of cell c, where rows have w cells
abbrev pub row : ℕ → ℕ → ℕ
row w c = c / w

abbrev pub column : ℕ → ℕ → ℕ
column w c = c % w

-- the cell at row r and column x
abbrev pub cell_at : ℕ → ℕ → ℕ → ℕ
cell_at w r x = r * w + x

-- how far two numbers lie apart
abbrev pub apart : ℕ → ℕ → ℕ
apart a b = (a - b) + (b - a)

-- two cells share a side: their rows and columns differ by one in all
abbrev pub adjacent : ℕ → ℕ → ℕ → Bool
adjacent w c d = apart (row w c) (row w d) + apart (column w c) (column w d) == 1

-- a cell of the first or last row, or of the first or last column
abbrev pub border : ℕ → ℕ → ℕ → Bool
border w h c = (row w c == 0 || row w c + 1 == h) || (column w c == 0 || column w c + 1 == w)

-- so much less and so much more than n, if that is from 0 to limit - 1
abbrev pub moved : ℕ → ℕ → ℕ → ℕ → Option ℕ
moved limit less more n = cond (nat_le less (n + more) && nat_lt (n + more - less) limit) (Some (n + more - less)) None

-- the cell at a row and a column that may be missing
abbrev pub cell_at_both : ℕ → Option ℕ → Option ℕ → Option ℕ
cell_at_both w None x = None
cell_at_both w (Some r) None = None
cell_at_both w (Some r) (Some x) = Some (cell_at w r x)

-- the cell that a step leads to from c, if it stays on a grid of w columns and h rows
abbrev pub stepped : ℕ → ℕ → Step → ℕ → Option ℕ
stepped w h s c = cell_at_both w (moved h s.up s.down (row w c)) (moved w s.left s.right (column w c))

-- the steps over the four sides of a cell: up, left, right, down
abbrev pub four_sides : List Step
four_sides =
    record { up = 1; left = 0; right = 0; down = 0 } ∷ record { up = 0; left = 1; right = 0; down = 0 } ∷
    record { up = 0; left = 0; right = 1; down = 0 } ∷ record { up = 0; left = 0; right = 0; down = 1 } ∷ []

-- the cells that a table of steps leads to from c, in the table's order
abbrev pub neighbours : ℕ → ℕ → List Step → ℕ → List ℕ
neighbours w h [] c = []
neighbours w h (s ∷ steps) c = option_to_list (stepped w h s c) ++ neighbours w h steps c

-- d is one of the list
abbrev pub among : ℕ → List ℕ → Bool
among d [] = false
among d (x ∷ xs) = d == x || among d xs
