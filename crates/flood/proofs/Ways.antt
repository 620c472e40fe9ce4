-- Ways off the land: what they pass, and how a map carries them over.
use Rattle.std.proofs.Common.{ℕ, ◌<◌, ◌≤◌, arith}
use Rattle.model.specs.Land.{Land, Out, here, on}
use Rattle.flood.specs.Levels.{Flow, Drained}
use Rattle.flood.specs.Moved.{Carries}

pub way_cell : {l : Land} {h c : ℕ} → Out l h c → c < l.cells
way_cell (here a b e) = a
way_cell (on a b e o) = a

pub way_height : {l : Land} {h c : ℕ} → Out l h c → l.height c ≤ h
way_height (here a b e) = b
way_height (on a b e o) = b

-- a way that never goes above h never goes above k
pub way_below : {l : Land} {h k c : ℕ} → h ≤ k → Out l h c → Out l k c
way_below le (here a b e) = here a (omega arith) e
way_below le (on a b e o) = on a (omega arith) e (way_below le o)

-- THE MAP LEMMA: a map that keeps neighbours and outlets, and raises no height, keeps ways
pub way_carried : {l m : Land} {π : ℕ → ℕ} {h c : ℕ} → Carries l m π → Out l h c → Out m h (π c)
way_carried p (here {c} a b e) = here (p.cells c a) (omega (arith, p.height c a)) (p.leaves c a e)
way_carried p (on {c} {d} a b e o) = on (p.cells c a) (omega (arith, p.height c a)) (p.next c d a (way_cell o) e) (way_carried p o)

-- so it raises no level
pub level_carried : (l m : Land) (f g : Flow) (π : ℕ → ℕ) → Carries l m π → Drained l f → Drained m g → (c : ℕ) → c < l.cells → g.level (π c) ≤ f.level c
level_carried l m f g π p df dg c a = (dg.level (π c) (p.cells c a)).least (f.level c) (way_carried p (df.level c a).out)
