-- The number and the place that are reported for each refusal.
use Rattle.std.specs.Prelude.{ℕ, List, ◌++◌, codes, decimal}
use Rattle.model.specs.declared.refusal.Side.{Side}
use Rattle.model.specs.declared.refusal.Side.TheVariants.{Columns, Rows}
use Rattle.model.specs.declared.refusal.Lent.{Lent}
use Rattle.model.specs.declared.refusal.Lent.TheVariants.{Levels, Flow, Amounts, Work}
use Rattle.model.specs.declared.refusal.Refusal.{Refusal}
use Rattle.model.specs.declared.refusal.Refusal.TheVariants.{Length, Size, Value, Short, Change, Table, Level, Sends, Amount}

-- 1 to 9, by what was refused
abbrev pub number : Refusal → ℕ
number (Length at) = 1
number (Size side) = 2
number (Value at) = 3
number (Short lent) = 4
number (Change k) = 5
number (Table len) = 6
number (Level c) = 7
number (Sends c) = 8
number (Amount c) = 9

-- where each of the two sizes stands in the file
abbrev pub size_place : Side → ℕ
size_place Columns = 0
size_place Rows = 2

-- the order in which the lent slices are passed
abbrev pub slice_place : Lent → ℕ
slice_place Levels = 0
slice_place Flow = 1
slice_place Amounts = 2
slice_place Work = 3

-- a byte of the file, a size, a slice, a change, a length or a cell
abbrev pub place : Refusal → ℕ
place (Length at) = at
place (Size side) = size_place side
place (Value at) = at
place (Short lent) = slice_place lent
place (Change k) = k
place (Table len) = len
place (Level c) = c.0
place (Sends c) = c.0
place (Amount c) = c.0

-- how a refusal is printed, in decimal numbers
abbrev pub refused_text : Refusal → List ℕ
refused_text r = codes "refused " ++ (decimal (number r) ++ (codes " at " ++ decimal (place r)))
