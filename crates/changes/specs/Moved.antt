-- Amounts on the way of a cell's water while its rain changes.
use Rattle.std.specs.Prelude.{◌≡◌, ℕ, ◌+◌, ◌<◌, ◌≢◌}
use Rattle.model.specs.Land.{Land}
use Rattle.flood.specs.Levels.{Flow}
use Rattle.amounts.specs.Amounts.{sent}

-- amounts add up but at c, which has the old rain in place of the new
pub record OffAt (l : Land) (f : Flow) (g : ℕ → ℕ) (c old new : ℕ) : Type 0 where
  pub here : g c + new ≡ l.rain c + sent f g c l.cells + old
  pub there : (d : ℕ) → d < l.cells → (d ≢ c) → g d ≡ l.rain d + sent f g d l.cells
