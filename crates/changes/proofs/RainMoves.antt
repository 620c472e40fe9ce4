-- Amounts that move on the way of a cell's water: one cell more, until all add up.
use Rattle.std.proofs.Common.{◌≡◌, ℕ, ◌+◌, ◌<◌, ◌≤◌, true, false, cond, eqb, List, length, get_or, set, sym, ap, subst, inl, inr, arith}
use Rattle.std.proofs.lemmas.List.{get_or-set_same, get_or-set_other}
use Rattle.std.proofs.lemmas.Bool.{cases_eq}
use Rattle.std.proofs.lemmas.Bool.Decides.{nat_tests}
use Rattle.model.specs.Land.{Land}
use Rattle.flood.specs.Levels.{Flow}
use Rattle.flood.proofs.Sums.{sum_set}
use Rattle.amounts.specs.Amounts.{Carried, Acyclic, sent}
use Rattle.changes.specs.Moved.{OffAt}

-- v is written for the amount of c
module _ (l : Land) (f : Flow) (p : Acyclic l.cells f) (xs : List ℕ) (c v : ℕ) (inside : c < l.cells) (long : l.cells ≤ length xs) where
  -- what came to d before the write, and what comes to it after
  came : ℕ → ℕ
  came d = sent f (λ k. get_or xs k 0) d l.cells

  comes : ℕ → ℕ
  comes d = sent f (λ k. get_or (set xs c v) k 0) d l.cells

  moved : (d : ℕ) → comes d + cond (f.off c) 0 (cond (eqb (f.to c) d) (get_or xs c 0) 0) ≡ came d + cond (f.off c) 0 (cond (eqb (f.to c) d) v 0)
  unfolding came comes
  moved d = sum_set (λ k y. cond (f.off k) 0 (cond (eqb (f.to k) d) y 0)) xs l.cells c v inside (omega arith)

  moved_off : f.off c ≡ true → (d : ℕ) → comes d ≡ came d
  moved_off off d = let m = moved d in grind (arith, nat_tests)

  moved_past : (d : ℕ) → (f.to c ≡ d → ⊥) → comes d ≡ came d
  moved_past d ne = let m = moved d in grind (arith, nat_tests)

  moved_on : f.off c ≡ false → comes (f.to c) + get_or xs c 0 ≡ came (f.to c) + v
  moved_on on = let m = moved (f.to c) in grind (arith, nat_tests)

  at_c : get_or (set xs c v) c 0 ≡ v
  at_c = get_or-set_same xs c v 0 (omega arith)

  at_other : (d : ℕ) → (d ≡ c → ⊥) → get_or (set xs c v) d 0 ≡ get_or xs d 0
  at_other d ne = get_or-set_other xs c d v 0 ne

  module _ (old new : ℕ) (same : v + old ≡ get_or xs c 0 + new) (o : OffAt l f (λ k. get_or xs k 0) c old new) where
    -- the amount of c is right now, if as much comes to it as before
    settled : comes c ≡ came c → get_or (set xs c v) c 0 ≡ l.rain c + comes c
    unfolding came
    settled e = omega (arith, at_c, o.here, e)

    kept : (d : ℕ) → d < l.cells → (d ≡ c → ⊥) → comes d ≡ came d → get_or (set xs c v) d 0 ≡ l.rain d + comes d
    unfolding came
    kept d a ne e = omega (arith, at_other d ne, o.there d a ne, e)

    -- where c sends off, all amounts add up
    pub move_off : f.off c ≡ true → Carried l f (λ k. get_or (set xs c v) k 0)
    unfolding comes
    move_off off = record {
      each = λ d a. elim (cases_eq d c) [
        | inl e ↦ subst (λ (x : ℕ). get_or (set xs c v) x 0 ≡ l.rain x + comes x) (sym e) (settled (moved_off off c))
        | inr ne ↦ kept d a ne (moved_off off d)
      ];
    }

    -- else they add up but at the cell that it sends to
    pub move_on : f.off c ≡ false → OffAt l f (λ k. get_or (set xs c v) k 0) (f.to c) old new
    unfolding came comes
    move_on on =
        let nearer = p.nearer c inside on in
        let apart : f.to c ≡ c → ⊥ = λ e. let loop = ap f.far e in omega arith in
        record {
          here = omega (arith, at_other (f.to c) apart, o.there (f.to c) (p.inside c inside on) apart, moved_on on, same);
          there = λ d a ne. elim (cases_eq d c) [
            | inl e ↦ subst (λ (x : ℕ). get_or (set xs c v) x 0 ≡ l.rain x + comes x) (sym e) (settled (moved_past c apart))
            | inr ne' ↦ kept d a ne' (moved_past d (λ e. ne (sym e)))
          ];
        }
