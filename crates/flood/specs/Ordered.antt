-- Flow and order in words of their own, with no queue.
use Rattle.std.specs.Prelude.{◌≡◌, ℕ, ◌<◌, ◌≤◌, true, false, ◌⊎◌}
use Rattle.model.specs.Land.{Land}
use Rattle.flood.specs.Levels.{Flow}

-- c has the lower level, or of equal levels the lower number
abbrev pub Before : Flow → ℕ → ℕ → Type 0
Before f c d = (f.level c < f.level d) ⊎ ((f.level c ≡ f.level d) × (c < d))

-- d lies next to a cell with an earlier place than k
pub record Beside (l : Land) (f : Flow) (d k : ℕ) : Type 0 where
  pub by : ℕ
  pub cell : by < l.cells
  pub next : l.next d by ≡ true
  pub early : f.far by < k

-- d may get place k: water leaves from it, or it lies next to a cell with an earlier place
abbrev pub Open : Land → Flow → ℕ → ℕ → Type 0
Open l f d k = (l.leaves d ≡ true) ⊎ Beside l f d k

-- the places are 0 to cells - 1, each once
pub record Numbered (l : Land) (f : Flow) : Type 0 where
  pub within : (c : ℕ) → c < l.cells → f.far c < l.cells
  pub apart : (c d : ℕ) → c < l.cells → d < l.cells → f.far c ≡ f.far d → c ≡ d
  pub each : (k : ℕ) → k < l.cells → (c : ℕ) × (c < l.cells) × (f.far c ≡ k)

-- each cell sends to its earliest neighbour, and each place goes to the lowest cell that may get it
pub record Ordered (l : Land) (f : Flow) : Type 0 where
  pub places : Numbered l f
  -- a cell from which no water leaves sends to the cell next to it that has the earliest place
  pub earliest : (c d : ℕ) → c < l.cells → d < l.cells → l.leaves c ≡ false → l.next c d ≡ true → f.far (f.to c) ≤ f.far d
  -- each cell may get its place, and comes before every other that has no earlier place and may get this one
  pub may : (c : ℕ) → c < l.cells → Open l f c (f.far c)
  pub lowest : (c d : ℕ) → c < l.cells → d < l.cells → f.far c < f.far d → Open l f d (f.far c) → Before f c d
