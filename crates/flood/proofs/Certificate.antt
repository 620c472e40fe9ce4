-- What is certified is drained: following the flow is a way off the land at the level, and no way stays lower.
use Rattle.std.proofs.Common.{◌≡◌, ℕ, zero, suc, ◌<◌, ◌≤◌, false, sym, ◌∙◌, inl, inr, arith}
use Rattle.std.proofs.lemmas.Bool.{cases_Bool}
use Rattle.model.specs.Land.{Land, Out, here, on}
use Rattle.flood.specs.Levels.{Flow}
use Rattle.flood.specs.Certified.{Certified}
use Rattle.flood.specs.Promises.{CertifiedDrains}
use Rattle.flood.proofs.Ways.{way_cell, way_below}

module _ (l : Land) (f : Flow) (p : Certified l f) where
  -- the cell that c sends to has no higher level
  falls : (c : ℕ) → c < l.cells → f.off c ≡ false → f.level (f.to c) ≤ f.level c
  falls c a e = omega (arith, p.fills c a e)

  -- n is more than the places that are left on the way
  follow : (n c : ℕ) → c < l.cells → f.far c < n → Out l (f.level c) c
  follow zero c a h = absurd (omega arith)
  follow (suc n) c a h = elim (cases_Bool (f.off c)) [
    | inl e ↦ here a (p.above c a) (sym (p.sends_off c a) ∙ e)
    | inr e ↦ on a (p.above c a) (p.beside c a e) (way_below (falls c a e) (follow n (f.to c) (p.inside c a e) (omega (arith, p.nearer c a e))))
  ]

  lowest : {k c : ℕ} → Out l k c → f.level c ≤ k
  lowest (here {c} a b e) = omega (arith, p.outlet_level c a (p.sends_off c a ∙ e))
  lowest (on {c} {d} a b e o) = let ih = lowest o in let s = p.unfilled c d a (way_cell o) e in grind arith

pub certified_drains : CertifiedDrains
certified_drains l f p = record {
  level = λ c a. record { out = follow l f p (suc (f.far c)) c a (omega arith); least = λ k o. lowest l f p o };
  leaves = λ c a e. sym (p.sends_off c a) ∙ e;
  goes = λ c a e. (p.inside c a e, p.beside c a e, falls l f p c a e, p.nearer c a e);
}
