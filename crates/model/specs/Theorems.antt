-- What holds of every grid and every model, in words of their own.
use Rattle.std.specs.Prelude.{◌≡◌, ℕ, ◌*◌, ◌<◌, ◌≤◌, ◌&&◌, nat_lt}
use Rattle.model.specs.Land.{Out}
use Rattle.model.specs.Grid.{row, column, cell_at, adjacent, four_sides, neighbours, among}
use Rattle.model.specs.Terrain.{Terrain, land_of}

-- a cell lies at a row and a column of the grid, and its number is that of the cell there
pub record Placed (w h c : ℕ) : Type 0 where
  pub tall : row w c < h
  pub wide : column w c < w
  pub back : cell_at w (row w c) (column w c) ≡ c

-- the cell at a row and a column is a cell of the grid and lies there
pub record Numbered (w h r x : ℕ) : Type 0 where
  pub cell : cell_at w r x < w * h
  pub row : row w (cell_at w r x) ≡ r
  pub column : column w (cell_at w r x) ≡ x

-- CELL NUMBERS, ROWS AND COLUMNS are each other's inverse
abbrev pub NumbersAndPositions : Type 0
NumbersAndPositions = ((w h c : ℕ) → c < w * h → Placed w h c) × ((w h r x : ℕ) → r < h → x < w → Numbered w h r x)

-- THE NEIGHBOURS of a cell are exactly the cells that share a side with it
abbrev pub NeighboursShareASide : Type 0
NeighboursShareASide = (w h c d : ℕ) → among d (neighbours w h four_sides c) ≡ (nat_lt d (w * h) && adjacent w c d)

-- NEXT TO EACH OTHER goes both ways
abbrev pub AdjacentBothWays : Type 0
AdjacentBothWays = (w c d : ℕ) → adjacent w c d ≡ adjacent w d c

-- EVERY CELL HAS A WAY OFF THE LAND, and one that goes no higher than the highest cell
abbrev pub EveryCellHasAWay : Type 0
EveryCellHasAWay = (t : Terrain) (top : ℕ) → ((c : ℕ) → c < t.w * t.h → t.height c ≤ top) → (c : ℕ) → c < t.w * t.h → Out (land_of t) top c
