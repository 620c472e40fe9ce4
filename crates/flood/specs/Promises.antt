-- What is promised of levels on any land: each is a statement whose proof a contract owes.
use Rattle.std.specs.Prelude.{◌≡◌, ℕ, ◌*◌, ◌<◌, ◌≤◌, true}
use Rattle.model.specs.Land.{Land, Out}
use Rattle.model.specs.Terrain.{Terrain, land_of}
use Rattle.flood.specs.Levels.{Flow, Drained}
use Rattle.flood.specs.Certified.{Certified}
use Rattle.flood.specs.Moved.{Carries, mirror, mirrored, quarter, turned}

-- levels are at least heights
abbrev pub Above : Type 0
Above = (l : Land) (f : Flow) (c : ℕ) → Drained l f → c < l.cells → l.height c ≤ f.level c

-- where every cell has a way off the land, there are levels and a flow
abbrev pub LevelsExist : Type 0
LevelsExist = (l : Land) → ((c : ℕ) → c < l.cells → (h : ℕ) × Out l h c) → (f : Flow) × Drained l f

-- levels are the only ones
abbrev pub OnlyLevels : Type 0
OnlyLevels = (l : Land) (f g : Flow) → Drained l f → Drained l g → (c : ℕ) → c < l.cells → f.level c ≡ g.level c

-- conditions on cells and their neighbours are enough
abbrev pub CertifiedDrains : Type 0
CertifiedDrains = (l : Land) (f : Flow) → Certified l f → Drained l f

-- higher land never has a lower level anywhere
abbrev pub Rising : Type 0
Rising =
    (l m : Land) (f g : Flow) → l.cells ≡ m.cells → ((c d : ℕ) → l.next c d ≡ m.next c d) → ((c : ℕ) → l.leaves c ≡ m.leaves c) →
    ((c : ℕ) → l.height c ≤ m.height c) → Drained l f → Drained m g → (c : ℕ) → c < l.cells → f.level c ≤ g.level c

-- one drain more never gives a higher level anywhere
abbrev pub DrainMore : Type 0
DrainMore =
    (l m : Land) (f g : Flow) → l.cells ≡ m.cells → ((c d : ℕ) → l.next c d ≡ m.next c d) →
    ((c : ℕ) → l.leaves c ≡ true → m.leaves c ≡ true) → ((c : ℕ) → l.height c ≡ m.height c) →
    Drained l f → Drained m g → (c : ℕ) → c < l.cells → g.level c ≤ f.level c

-- levels do not depend on how cells are numbered: π gives each cell its other number, and ρ leads back
abbrev pub Numbering : Type 0
Numbering =
    (l m : Land) (f g : Flow) (π ρ : ℕ → ℕ) → Carries l m π → Carries m l ρ → ((c : ℕ) → c < l.cells → ρ (π c) ≡ c) →
    Drained l f → Drained m g → (c : ℕ) → c < l.cells → g.level (π c) ≡ f.level c

-- a mirrored model has the same levels, mirrored
abbrev pub MirrorLevels : Type 0
MirrorLevels =
    (t : Terrain) (f g : Flow) → Drained (land_of t) f → Drained (land_of (mirrored t)) g → (c : ℕ) → c < t.w * t.h →
    g.level (mirror t.w c) ≡ f.level c

-- a model turned a quarter has the same levels, turned
abbrev pub QuarterLevels : Type 0
QuarterLevels =
    (t : Terrain) (f g : Flow) → Drained (land_of t) f → Drained (land_of (turned t)) g → (c : ℕ) → c < t.w * t.h →
    g.level (quarter t.w t.h c) ≡ f.level c
