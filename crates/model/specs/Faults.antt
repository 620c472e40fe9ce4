-- The first fault of a model file, read front to back, field after field.
use Rattle.std.specs.Prelude.{ℕ, zero, suc, ◌+◌, Bool, cond, ◌||◌, List, length, Some, None, Option, ◌==◌, nat_lt}
use Rattle.model.specs.declared.refusal.Side.TheVariants.{Columns, Rows}
use Rattle.model.specs.declared.refusal.Refusal.{Refusal}
use Rattle.model.specs.declared.refusal.Refusal.TheVariants.{Length, Size, Value}
use Rattle.model.specs.Limits.{max_side, max_height, max_rain, head_bytes}
use Rattle.model.specs.Bytes.{columns, rows, count, start, cell_part, height_in, rain_in, mark_in}

-- the first of two faults
abbrev pub or_else : Option Refusal → Option Refusal → Option Refusal
or_else None b = b
or_else (Some a) b = Some a

-- a number of columns or rows that is out of range
abbrev pub bad_size : ℕ → Bool
bad_size n = n == 0 || nat_lt max_side n

-- the fault of the two sizes
abbrev pub size_fault : ℕ → ℕ → Option Refusal
size_fault w h = cond (bad_size w) (Some (Size Columns)) (cond (bad_size h) (Some (Size Rows)) None)

-- the fault of a file's first four bytes: they are not all there, or a size
abbrev pub head_fault : List ℕ → Option Refusal
head_fault bs = cond (nat_lt (length bs) head_bytes) (Some (Length (length bs))) (size_fault (columns bs) (rows bs))

-- the fault of a field that begins at a place: it is not wholly there, or it is above the most that it may be
abbrev pub field_fault : Option ℕ → ℕ → ℕ → ℕ → Option Refusal
field_fault None most at end = Some (Length end)
field_fault (Some v) most at end = cond (nat_lt most v) (Some (Value at)) None

-- the first fault of cell c: of its height, its rain, its drain mark
abbrev pub cell_fault : List ℕ → ℕ → Option Refusal
cell_fault bs c =
    or_else (field_fault (height_in (cell_part bs c)) max_height (start c) (length bs))
    (or_else (field_fault (rain_in (cell_part bs c)) max_rain (start c + 4) (length bs))
    (field_fault (mark_in (cell_part bs c)) 1 (start c + 8) (length bs)))

-- the first fault of the k cells from cell c on
unfoldable pub cells_fault : List ℕ → ℕ → ℕ → Option Refusal
cells_fault bs c zero = None
cells_fault bs c (suc k) = or_else (cell_fault bs c) (cells_fault bs (suc c) k)

-- bytes that go on past the last cell
abbrev pub end_fault : List ℕ → Option Refusal
end_fault bs = cond (nat_lt (start (count bs)) (length bs)) (Some (Length (start (count bs)))) None

-- THE FIRST FAULT OF A FILE, if it has one: of its head, of a cell, or of its end
abbrev pub fault : List ℕ → Option Refusal
fault bs = or_else (head_fault bs) (or_else (cells_fault bs 0 (count bs)) (end_fault bs))
