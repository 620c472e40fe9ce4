-- What changes mean for a model, in words that are not the program's.
use Rattle.std.specs.Prelude.{◌≡◌, ℕ, ◌+◌, ◌<◌, ◌≤◌, true, false, cond, List, Some, Option}
use Rattle.model.specs.declared.units.Amount.{Amount}
use Rattle.model.specs.declared.units.Cell.{Cell}
use Rattle.model.specs.Bytes.{columns, rows, count, start, height_at, rain_at, mark_at}
use Rattle.model.specs.Edits.{but, Rewritten}
use Rattle.model.specs.Limits.{max_height, max_rain}
use Rattle.model.specs.Terrain.{land}
use Rattle.model.specs.WellFormed.{WellFormed}
use Rattle.flood.specs.Flooded.{table_of}
use Rattle.amounts.specs.Amounts.{all_rain}
use Rattle.changes.specs.declared.asked.Asked.{Asked}
use Rattle.changes.specs.declared.asked.Change.{Change}
use Rattle.changes.specs.declared.asked.Change.TheVariants.{Height, Rain, Drain}
use Rattle.changes.specs.Applied.{allowed, accepted, changed_by, leaves_in, levels_between, bytes_after}

-- the cell of a change exists, and its value is in range
abbrev pub InRange : List ℕ → Change → Type 0
InRange bs (Height c v) = (c.0 < count bs) × (v.0 ≤ max_height)
InRange bs (Rain c v) = (c.0 < count bs) × (v.0 ≤ max_rain)
InRange bs (Drain c on) = c.0 < count bs

-- A CHANGE MAY BE MADE if and only if its cell exists and its value is in range
abbrev pub AllowedIfInRange : Type 0
AllowedIfInRange = (bs : List ℕ) (x : Change) → (allowed bs x ≡ true → InRange bs x) × (InRange bs x → allowed bs x ≡ true)

-- one value of one cell is another, and every other value and byte is as it was
abbrev pub ChangedOne : List ℕ → Change → List ℕ → Type 0
ChangedOne bs (Height c v) cs = Rewritten bs cs (start c.0) 4 (but (height_at bs) c.0 v.0) (rain_at bs) (mark_at bs)
ChangedOne bs (Rain c v) cs = Rewritten bs cs (start c.0 + 4) 4 (height_at bs) (but (rain_at bs) c.0 v.0) (mark_at bs)
ChangedOne bs (Drain c on) cs = Rewritten bs cs (start c.0 + 8) 1 (height_at bs) (rain_at bs) (but (mark_at bs) c.0 (cond on 1 0))

-- A CHANGE THAT MAY BE MADE gives its cell the new value and changes nothing else
abbrev pub ChangesReadBack : Type 0
ChangesReadBack = (bs : List ℕ) (x : Change) → WellFormed bs → allowed bs x ≡ true → ChangedOne bs x (changed_by bs (Some x))

-- WHAT IS REFUSED changes nothing
abbrev pub RefusedChangesNothing : Type 0
RefusedChangesNothing = (bs : List ℕ) (o : Option Change) → accepted bs o ≡ false → changed_by bs o ≡ bs

-- a model of the same sizes, from which all that rains leaves
pub record StillAModel (bs cs : List ℕ) : Type 0 where
  pub w : columns cs ≡ columns bs
  pub h : rows cs ≡ rows bs
  pub sound : WellFormed cs
  pub nothing_lost : leaves_in cs ≡ all_rain (land cs) (count cs)

-- AFTER ANY NUMBER OF CHANGES there is a model of the same sizes, and nothing is lost
abbrev pub RowsKeepModels : Type 0
RowsKeepModels = (bs : List ℕ) (row : List Asked) (k : ℕ) → WellFormed bs → StillAModel bs (bytes_after bs row k)

-- A CHANGE OF RAIN changes no level, no flow, no place and no look, so it counts no changed level
abbrev pub RainChangesNoLevel : Type 0
RainChangesNoLevel =
    (bs : List ℕ) (c : Cell) (v : Amount) → WellFormed bs →
    (table_of (changed_by bs (Some (Rain c v))) ≡ table_of bs) × (levels_between bs (changed_by bs (Some (Rain c v))) ≡ 0)
