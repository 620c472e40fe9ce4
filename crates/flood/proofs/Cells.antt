-- Cells of a grid by row and column.
use Rattle.std.proofs.Common.{◌≡◌, ℕ, zero, suc, ◌*◌, ◌<◌, arith}
use Rattle.std.proofs.lemmas.Nat.{div-mul-add, mod-mul-add, div_below, mod_below, div-add-mod'}
use Rattle.model.specs.Grid.{row, column, cell_at}

-- cell c lies in row r and column x
pub record Coordinates (w c r x : ℕ) : Type 0 where
  pub in_row : row w c ≡ r
  pub in_column : column w c ≡ x

-- the row and the column of a cell are on the grid
pub record Inside (w h c : ℕ) : Type 0 where
  pub is : cell_at w (row w c) (column w c) ≡ c
  pub low : row w c < h
  pub left : column w c < w

wide : (w h c : ℕ) → c < w * h → 0 < w
wide zero h c a = absurd (omega arith)
wide (suc w) h c a = omega arith

pub lies : (w h c : ℕ) → c < w * h → Inside w h c
lies w h c a = let p = wide w h c a in record { is = div-add-mod' c w; low = div_below c w h p (omega arith); left = mod_below c w p }

pub at : (w r x : ℕ) → x < w → Coordinates w (cell_at w r x) r x
at w r x a = record { in_row = div-mul-add r w x a; in_column = mod-mul-add r w x a }
