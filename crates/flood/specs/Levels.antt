-- Levels, and what it means that water drains.
use Rattle.std.specs.Prelude.{◌≡◌, ℕ, ◌<◌, ◌≤◌, Bool, true, false}
use Rattle.model.specs.Land.{Land, Out}

-- h is c's level: there is a way off the land from c that never goes above h, and none that stays lower
pub record Level (l : Land) (c : ℕ) (h : ℕ) : Type 0 where
  pub out : Out l h c
  pub least : (k : ℕ) → Out l k c → h ≤ k

-- each cell's level, where its water goes, off the land or to a cell, and a number that falls along the way
pub record Flow : Type 0 where
  pub level : ℕ → ℕ
  pub off : ℕ → Bool
  pub to : ℕ → ℕ
  pub far : ℕ → ℕ

-- water stands at its level, goes off only where it can, else to a next cell whose level is not higher, and comes nearer to leaving
pub record Drained (l : Land) (f : Flow) : Type 0 where
  pub level : (c : ℕ) → c < l.cells → Level l c (f.level c)
  pub leaves : (c : ℕ) → c < l.cells → f.off c ≡ true → l.leaves c ≡ true
  pub goes : (c : ℕ) → c < l.cells → f.off c ≡ false →
      (f.to c < l.cells) × (l.next c (f.to c) ≡ true) × (f.level (f.to c) ≤ f.level c) × (f.far (f.to c) < f.far c)
