-- What the code's cells and grids mean.
use Rattle.std.specs.Prelude.{◌≡◌, ℕ, ◌*◌, cond, ◌&&◌, List, Some, None, Option, nat_lt}
use Rattle.model.specs.declared.units.Cell.{Cell}
use Rattle.model.specs.declared.steps.Step.{Step}
use Rattle.model.specs.declared.grid.Grid.{Grid}
use Rattle.model.specs.declared.grid.Position.{Position}
use Rattle.model.specs.Bytes.{columns, rows, count}
use Rattle.model.specs.Grid.{row, column, cell_at, stepped}

-- a cell's number
abbrev pub number : Cell → ℕ
number c = c.0

-- a value, if a file has the cell
abbrev pub if_cell : List ℕ → Cell → ℕ → Option ℕ
if_cell bs c v = cond (nat_lt c.0 (count bs)) (Some v) None

-- a grid of the size that a file says
pub record Sized (g : Grid) (bs : List ℕ) : Type 0 where
  pub w : g.w ≡ columns bs
  pub h : g.h ≡ rows bs

-- the number of a grid's cells
abbrev pub cells : Grid → ℕ
cells g = g.w * g.h

-- where a cell lies, if there is such a cell
abbrev pub position_of : Grid → Cell → Option Position
position_of g c = cond (nat_lt c.0 (cells g)) (Some (record { row = row g.w c.0; column = column g.w c.0 })) None

-- the cell at a position, if there is one
abbrev pub cell_of : Grid → Position → Option Cell
cell_of g p = cond (nat_lt p.row g.h && nat_lt p.column g.w) (Some (record { 0 = cell_at g.w p.row p.column })) None

-- the cell that a step leads to from a cell, if there are both
abbrev pub neighbour : Grid → Step → Cell → Option ℕ
neighbour g s c = cond (nat_lt c.0 (cells g)) (stepped g.w g.h s c.0) None

-- the same in the grid of a file
abbrev pub neighbour_in : List ℕ → Step → Cell → Option ℕ
neighbour_in bs s c = cond (nat_lt c.0 (count bs)) (stepped (columns bs) (rows bs) s c.0) None
