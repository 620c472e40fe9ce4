-- What each condition on a cell says, part by part.
use Rattle.std.proofs.Common.{◌≡◌, ℕ, zero, suc, ◌<◌, ◌≤◌, true, false, ◌⊎◌, refl, inl, inr, arith}
use Rattle.std.proofs.lemmas.Bool.{cases_Bool, cases_eq}
use Rattle.std.proofs.lemmas.Bool.Decides.{nat_tests}
use Rattle.model.specs.Land.{Land}
use Rattle.flood.specs.Levels.{Flow}
use Rattle.checker.specs.Conditions.{sends_ok, none_lower, filled, level_ok}

-- where a cell sends
pub record SendsRight (l : Land) (f : Flow) (c : ℕ) : Type 0 where
  pub off : f.off c ≡ l.leaves c
  pub inside : f.off c ≡ false → f.to c < l.cells
  pub beside : f.off c ≡ false → l.next c (f.to c) ≡ true
  pub nearer : f.off c ≡ false → f.far (f.to c) < f.far c

pub sends_parts : (l : Land) (f : Flow) (c : ℕ) → sends_ok l f c ≡ true → SendsRight l f c
unfolding sends_ok
sends_parts l f c e =
    let o = cases_Bool (f.off c) in
    let x = cases_Bool (l.leaves c) in
    let y = cases_Bool (l.next c (f.to c)) in
    record { off = grind (arith, nat_tests); inside = λ on. grind (arith, nat_tests); beside = λ on. grind (arith, nat_tests); nearer = λ on. grind (arith, nat_tests) }

pub sends_whole : (l : Land) (f : Flow) (c : ℕ) → SendsRight l f c → sends_ok l f c ≡ true
unfolding sends_ok
sends_whole l f c p = let o = cases_Bool (f.off c) in grind (arith, nat_tests)

-- no cell next to c has a lower level
pub none_lower_each : (l : Land) (f : Flow) (c n d : ℕ) → none_lower l f c n ≡ true → d < n → l.next c d ≡ true → f.level c ≤ f.level d
unfolding none_lower
none_lower_each l f c zero d e a b = absurd (omega arith)
none_lower_each l f c (suc n) d e a b = let ih = none_lower_each l f c n d in let i = cases_eq d n in let o = cases_Bool (l.next c n) in grind (arith, nat_tests)

pub none_lower_from : (l : Land) (f : Flow) (c n : ℕ) → ((d : ℕ) → d < n → l.next c d ≡ true → f.level c ≤ f.level d) → none_lower l f c n ≡ true
unfolding none_lower
none_lower_from l f c zero each = refl
none_lower_from l f c (suc n) each =
    let rest = none_lower_from l f c n (λ d a b. each d (omega arith) b) in let here = each n (omega arith) in let o = cases_Bool (l.next c n) in grind (arith, nat_tests)

-- how high water stands
pub record LevelRight (l : Land) (f : Flow) (c : ℕ) : Type 0 where
  pub fills : f.level c ≡ filled l f c
  pub unfilled : (l.height c ≡ f.level c) ⊎ ((d : ℕ) → d < l.cells → l.next c d ≡ true → f.level c ≤ f.level d)

pub fill_above : (l : Land) (f : Flow) (c : ℕ) → l.height c ≤ filled l f c
fill_above l f c = let o = cases_Bool (f.off c) in grind arith

pub level_parts : (l : Land) (f : Flow) (c : ℕ) → level_ok l f c ≡ true → LevelRight l f c
unfolding level_ok
level_parts l f c e = record {
  fills = grind (arith, nat_tests);
  unfilled = elim (cases_eq (l.height c) (f.level c)) [ inl same ↦ inl same | inr other ↦ let up : none_lower l f c l.cells ≡ true = grind (arith, nat_tests) in inr (λ d. none_lower_each l f c l.cells d up) ];
}

pub level_whole : (l : Land) (f : Flow) (c : ℕ) → LevelRight l f c → level_ok l f c ≡ true
unfolding level_ok
level_whole l f c p =
    let above = fill_above l f c in
    let fills = p.fills in
    elim p.unfilled [ inl same ↦ grind (arith, nat_tests) | inr each ↦ let up = none_lower_from l f c l.cells each in grind (arith, nat_tests) ]
