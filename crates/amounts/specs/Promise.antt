-- What draining promises of the land of the bytes that it was given.
use Rattle.std.specs.Prelude.{◌≡◌, ℕ, ◌+◌, ◌*◌, ◌<◌, ◌≤◌, List, ◌++◌, drop, slice_index}
use Rattle.model.specs.Bytes.{count}
use Rattle.model.specs.Slices.{Contents}
use Rattle.model.specs.Terrain.{land}
use Rattle.flood.specs.Flooded.{table_of, Written}
use Rattle.flood.specs.Levels.{Flow}
use Rattle.flood.specs.Right.{Right}
use Rattle.flood.specs.Run.{flow_of}
use Rattle.amounts.specs.declared.answer.Drained.{Drained}
use Rattle.amounts.specs.Amounts.{Carried, all_rain, all_off}
use Rattle.amounts.specs.Passing.{table_amounts}
use Rattle.amounts.specs.Joined.{joined, row_from}

-- the flow and the amounts that the rule gives for the bytes of a model
abbrev pub flow_in : List ℕ → Flow
flow_in bs = flow_of (table_of bs)

abbrev pub amount_in : List ℕ → ℕ → ℕ
amount_in bs c = slice_index (table_amounts bs) c

-- the bytes of a table: a row for each cell, in the order of numbers
abbrev pub table_row : List ℕ → ℕ → List ℕ
table_row bs c = row_from (table_of bs).levels (table_of bs).flow (table_of bs).places (table_amounts bs) c

abbrev pub table_bytes : List ℕ → List ℕ
table_bytes bs = joined (table_row bs) (count bs)

-- THE MAIN PROMISE
pub record Promise (bs : List ℕ) (old new : Contents) (d : Drained) : Type 0 where
  -- the slices hold exactly what the rule gives, and are as they were behind it; looks are the rule's, and few
  pub written : Written (table_of bs) (count bs) old.levels old.flow old.work new.levels new.flow new.work
  pub poured : new.amounts ≡ table_amounts bs ++ drop (count bs) old.amounts
  pub looks : d.looks ≡ (table_of bs).looks
  pub few : d.looks ≤ 2000000 + 5 * 21 * count bs
  -- levels are the lowest, water goes to earlier places and no higher level, off only where it can, and never comes back
  pub right : Right (land bs) (table_of bs)
  -- amounts add up, are the only ones that do, and none is above 1.6 × 10 ^ 11
  pub carried : Carried (land bs) (flow_in bs) (amount_in bs)
  pub only : (g : ℕ → ℕ) → Carried (land bs) (flow_in bs) g → (c : ℕ) → c < count bs → g c ≡ amount_in bs c
  pub low : (c : ℕ) → amount_in bs c ≤ 160000000000
  -- what leaves the land is what rained on it, to the last drop
  pub rain : d.rain.0 ≡ all_rain (land bs) (count bs)
  pub leaves : d.leaves.0 ≡ all_off (flow_in bs) (amount_in bs) (count bs)
  pub nothing_lost : d.leaves.0 ≡ d.rain.0
