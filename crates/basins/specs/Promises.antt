-- What is promised of exits and basins on any land: each is a statement whose proof a contract owes.
use Rattle.std.specs.Prelude.{◌≡◌, ℕ, suc, ◌-◌, ◌<◌, ◌≤◌, true, false, List, length, slice_index, slice_index_or}
use Rattle.model.specs.Land.{Land}
use Rattle.flood.specs.Levels.{Flow, Drained}
use Rattle.amounts.specs.Amounts.{Acyclic, Carried, all_rain}
use Rattle.basins.specs.Exits.{along, exit, way, in_basin, basin_sum, basins_sum}

-- the water of c leaves at its exit, which sends off, and at no other cell
pub record LeavesAtExit (n : ℕ) (f : Flow) (c : ℕ) : Type 0 where
  pub cell : exit f c < n
  pub off : f.off (exit f c) ≡ true
  pub only : (k : ℕ) → f.off (along f k c) ≡ true → along f k c ≡ exit f c

-- EVERY CELL'S WATER LEAVES AT EXACTLY ONE EXIT
abbrev pub OneExit : Type 0
OneExit = (n : ℕ) (f : Flow) → Acyclic n f → (c : ℕ) → c < n → LeavesAtExit n f c

-- where water drains, it may leave there
abbrev pub ExitsAreOutlets : Type 0
ExitsAreOutlets = (l : Land) (f : Flow) → Drained l f → (c : ℕ) → c < l.cells → l.leaves (exit f c) ≡ true

-- c lies in the basin of an exit, and in no other basin
pub record InOneBasin (n : ℕ) (f : Flow) (c : ℕ) : Type 0 where
  pub outlet : ℕ
  pub cell : outlet < n
  pub off : f.off outlet ≡ true
  pub holds : in_basin f outlet c ≡ true
  pub only : (e : ℕ) → in_basin f e c ≡ true → e ≡ outlet

-- BASINS SHARE NO CELL AND HOLD ALL
abbrev pub OneBasin : Type 0
OneBasin = (n : ℕ) (f : Flow) → Acyclic n f → (c : ℕ) → c < n → InOneBasin n f c

-- each holds its exit, and with a cell all that its water comes to
abbrev pub ExitInBasin : Type 0
ExitInBasin = (f : Flow) (e : ℕ) → f.off e ≡ true → in_basin f e e ≡ true

abbrev pub FlowStaysInBasin : Type 0
FlowStaysInBasin = (n : ℕ) (f : Flow) → Acyclic n f → (c e : ℕ) → c < n → f.off c ≡ false → in_basin f e (f.to c) ≡ in_basin f e c

-- a cell that is no exit has an empty basin
abbrev pub NoExitNoBasin : Type 0
NoExitNoBasin = (n : ℕ) (f : Flow) → Acyclic n f → (e : ℕ) → f.off e ≡ false → (c : ℕ) → c < n → in_basin f e c ≡ false

-- EACH DROP IS KNOWN: an exit's amount is the rain of its basin
abbrev pub ExitAmount : Type 0
ExitAmount =
    (l : Land) (f : Flow) (g : ℕ → ℕ) → Acyclic l.cells f → Carried l f g → (e : ℕ) → e < l.cells → f.off e ≡ true →
    g e ≡ basin_sum f l.rain e l.cells

-- basins together have all the rain, and all cells
abbrev pub BasinsHaveAllRain : Type 0
BasinsHaveAllRain = (l : Land) (f : Flow) → Acyclic l.cells f → basins_sum f l.rain l.cells ≡ all_rain l l.cells

abbrev pub BasinsHaveAllCells : Type 0
BasinsHaveAllCells = (n : ℕ) (f : Flow) → Acyclic n f → basins_sum f (λ _. 1) n ≡ n

-- cs leads from c to its exit, over cells next to each other, and never up
pub record Leads (l : Land) (f : Flow) (c : ℕ) (cs : List ℕ) : Type 0 where
  pub some : 0 < length cs
  pub first : slice_index_or cs 0 0 ≡ c
  pub last : slice_index_or cs (length cs - 1) 0 ≡ exit f c
  pub cell : (k : ℕ) → k < length cs → slice_index cs k < l.cells
  pub next : (k : ℕ) → suc k < length cs → l.next (slice_index cs k) (slice_index cs (suc k)) ≡ true
  pub falls : (k : ℕ) → suc k < length cs → f.level (slice_index cs (suc k)) ≤ f.level (slice_index cs k)
  -- no cell comes twice: each is nearer to leaving than the one before
  pub nearer : (k : ℕ) → suc k < length cs → f.far (slice_index cs (suc k)) < f.far (slice_index cs k)
  -- no level on it, and so no height, is above the level of c
  pub level : (k : ℕ) → k < length cs → f.level (slice_index cs k) ≤ f.level c
  pub height : (k : ℕ) → k < length cs → l.height (slice_index cs k) ≤ f.level c

-- THE WAY OF A CELL'S WATER never goes above the cell's level
abbrev pub WaysLead : Type 0
WaysLead = (l : Land) (f : Flow) → Drained l f → (c : ℕ) → c < l.cells → Leads l f c (way f c)
