-- What an accepted table is.
use Rattle.std.specs.Prelude.{◌≡◌, ℕ, ◌<◌, List, slice_index}
use Rattle.model.specs.Bytes.{count}
use Rattle.model.specs.Terrain.{land}
use Rattle.model.specs.WellFormed.{WellFormed}
use Rattle.flood.specs.Certified.{Certified}
use Rattle.flood.specs.Flooded.{table_of}
use Rattle.flood.specs.Levels.{Drained}
use Rattle.amounts.specs.Amounts.{Carried, all_rain, all_off}
use Rattle.amounts.specs.Row.{amount_at}
use Rattle.checker.specs.Table.{flow_from, Whole}

-- what is asked: of the model, of the table's length, of levels, flow and places, and of amounts
pub record Right (bs t : List ℕ) : Type 0 where
  pub formed : WellFormed bs
  pub whole : Whole bs t
  pub certified : Certified (land bs) (flow_from t)
  pub carried : Carried (land bs) (flow_from t) (amount_at t)

-- AN ACCEPTED TABLE is right, and what follows from that
pub record Accepted (bs t : List ℕ) : Type 0 where
  pub right : Right bs t
  -- levels are the lowest, those that draining finds, and no water comes back
  pub drained : Drained (land bs) (flow_from t)
  pub levels : (c : ℕ) → c < count bs → (flow_from t).level c ≡ slice_index (table_of bs).levels c
  -- amounts are the only ones that add up, and what leaves the land is what rained on it
  pub only : (g : ℕ → ℕ) → Carried (land bs) (flow_from t) g → (c : ℕ) → c < count bs → g c ≡ amount_at t c
  pub nothing_lost : all_off (flow_from t) (amount_at t) (count bs) ≡ all_rain (land bs) (count bs)
