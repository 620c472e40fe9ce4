-- Conditions on a cell and its neighbours that together show that levels and flow are right.
use Rattle.std.specs.Prelude.{◌≡◌, ℕ, ◌<◌, ◌≤◌, max, true, false}
use Rattle.model.specs.Land.{Land}
use Rattle.flood.specs.Levels.{Flow}

-- what is asked of every cell
pub record Certified (l : Land) (f : Flow) : Type 0 where
  -- no level is below the height
  pub above : (c : ℕ) → c < l.cells → l.height c ≤ f.level c
  -- a cell sends off the land exactly where water can leave, and then its level is its height
  pub sends_off : (c : ℕ) → c < l.cells → f.off c ≡ l.leaves c
  pub outlet_level : (c : ℕ) → c < l.cells → f.off c ≡ true → f.level c ≡ l.height c
  -- another sends to a cell next to it that is nearer, and its level is the larger of its height and that cell's level
  pub inside : (c : ℕ) → c < l.cells → f.off c ≡ false → f.to c < l.cells
  pub beside : (c : ℕ) → c < l.cells → f.off c ≡ false → l.next c (f.to c) ≡ true
  pub nearer : (c : ℕ) → c < l.cells → f.off c ≡ false → f.far (f.to c) < f.far c
  pub fills : (c : ℕ) → c < l.cells → f.off c ≡ false → f.level c ≡ max (l.height c) (f.level (f.to c))
  -- a cell whose level is above that of a cell next to it stands at its height
  pub unfilled : (c d : ℕ) → c < l.cells → d < l.cells → l.next c d ≡ true → f.level d < f.level c → l.height c ≡ f.level c
