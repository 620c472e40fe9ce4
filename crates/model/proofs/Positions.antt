-- Rows and columns, neighbours, and a way off the land along a row.
use Rattle.std.proofs.Common.{◌≡◌, ℕ, zero, suc, ◌+◌, ◌*◌, ◌<◌, ◌≤◌, Bool, true, ◌||◌, refl, arith}
use Rattle.std.proofs.lemmas.Bool.Decides.{nat_tests}
use Rattle.std.proofs.lemmas.Nat.{mul-add-lt, div-mul-add, mod-mul-add, div_below, mod_below, div-add-mod'}
use Rattle.model.specs.Land.{Out, here, on}
use Rattle.model.specs.Grid.{row, column, cell_at, adjacent, border}
use Rattle.model.specs.Terrain.{Terrain, land_of}
use Rattle.model.specs.Theorems.{Placed, Numbered, NumbersAndPositions, AdjacentBothWays, EveryCellHasAWay}

some_column : (w h c : ℕ) → c < w * h → 0 < w
some_column zero h c a = absurd (omega arith)
some_column (suc w) h c a = omega arith

pub placed : (w h c : ℕ) → c < w * h → Placed w h c
placed w h c a =
    let some = some_column w h c a in
    record { tall = div_below c w h some (omega arith); wide = mod_below c w some; back = div-add-mod' c w }

pub numbered : (w h r x : ℕ) → r < h → x < w → Numbered w h r x
numbered w h r x a b = record { cell = omega (arith, mul-add-lt r w x h a b); row = div-mul-add r w x b; column = mod-mul-add r w x b }

pub numbers_and_positions : NumbersAndPositions
numbers_and_positions = (placed, numbered)

pub adjacent_both_ways : AdjacentBothWays
adjacent_both_ways w c d = grind (arith, nat_tests)

-- the cell to the left
left_adjacent : (w c d : ℕ) → row w d ≡ row w c → column w d + 1 ≡ column w c → adjacent w c d ≡ true
left_adjacent w c d r x = grind (arith, nat_tests)

or_true : (a b : Bool) → a ≡ true → (a || b) ≡ true
or_true a b e = rw e

first_column : (w h c : ℕ) → column w c ≡ 0 → border w h c ≡ true
first_column w h c e = grind (arith, nat_tests)

-- along the row to the first column, x columns away
along_row : (t : Terrain) (top : ℕ) → ((c : ℕ) → c < t.w * t.h → t.height c ≤ top) → (x c : ℕ) → c < t.w * t.h → column t.w c ≡ x → Out (land_of t) top c
along_row t top low zero c a e = here a (low c a) (or_true _ _ (first_column t.w t.h c e))
along_row t top low (suc x) c a e =
    let p = placed t.w t.h c a in
    let q = numbered t.w t.h (row t.w c) x p.tall (omega (arith, p.wide)) in
    on a (low c a) (left_adjacent t.w c (cell_at t.w (row t.w c) x) q.row (omega (arith, q.column)))
    (along_row t top low x (cell_at t.w (row t.w c) x) q.cell q.column)

pub every_cell_has_a_way : EveryCellHasAWay
every_cell_has_a_way t top low c a = along_row t top low (column t.w c) c a refl
