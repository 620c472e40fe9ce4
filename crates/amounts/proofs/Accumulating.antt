-- The rule for amounts: after each place the amounts are the rain and what came from the places behind it.
use Rattle.std.proofs.Common.{◌≡◌, ℕ, zero, suc, ◌+◌, ◌<◌, ◌≤◌, cond, eqb, leb, List, length, get_or, refl, ◌∙◌, subst, inl, inr, arith}
use Rattle.std.proofs.lemmas.List.FromFn.{length-map-range_with_len, get_or-map-range_with_len}
use Rattle.std.proofs.lemmas.List.{length-set, get_or-set_same, get_or-set_other, get_or_past}
use Rattle.std.proofs.lemmas.Bool.{cases_Bool, cases_eq, cases_lt}
use Rattle.std.proofs.lemmas.Bool.Decides.{nat_tests}
use Rattle.model.specs.Land.{Land}
use Rattle.flood.specs.Levels.{Flow}
use Rattle.flood.specs.Sums.{sum}
use Rattle.flood.specs.Run.{none}
use Rattle.flood.proofs.Sums.{sum_same, sum_zero}
use Rattle.amounts.specs.Amounts.{sends, Carried}
use Rattle.amounts.specs.Accumulation.{passed_on, accumulated, rains, OrderedFlow, RunOrdered, RuleAddsUp, RuleKeepsLength, RuleStaysBelow, RuleSumsFit}
use Rattle.amounts.proofs.Sums.{sum_more}
use Rattle.amounts.proofs.Carrying.{drained_acyclic, bounded}

pub run_ordered : RunOrdered
run_ordered l s r = record {
  coded = record { offs = λ c a. refl; sends = λ c a o. refl };
  falling = drained_acyclic l _ r.drained;
  place = r.lined.place;
  cell = r.lined.cell;
  cell_at_place = r.lined.cell_at_place;
  place_of_cell = r.lined.place_of_cell;
}

passed_length : (flow : List ℕ) (c : ℕ) (xs : List ℕ) → length (passed_on flow c xs) ≡ length xs
unfolding passed_on
passed_length flow c xs = elim (cases_Bool (eqb (get_or flow c 0) none)) [ inl o ↦ rw o refl | inr o ↦ rw o (length-set xs _ _) ]

pub rule_keeps_length : RuleKeepsLength
unfolding accumulated
rule_keeps_length flow order xs zero left = refl
rule_keeps_length flow order xs (suc done) left = passed_length flow (get_or order left 0) _ ∙ rule_keeps_length flow order xs done (suc left)

-- an amount after a cell has passed its own on
passed_at : (n : ℕ) (f : Flow) (flow order xs : List ℕ) → OrderedFlow n f flow order → length xs ≡ n → (c x : ℕ) → c < n →
    get_or (passed_on flow c xs) x 0 ≡ get_or xs x 0 + sends f (λ y. get_or xs y 0) x c
unfolding passed_on
passed_at n f flow order xs p long c x a =
    let t = get_or flow c 0 in
    let new = get_or-set_same xs t (get_or xs t 0 + get_or xs c 0) 0 in
    let old = get_or-set_other xs t x (get_or xs t 0 + get_or xs c 0) 0 in
    let i = cases_eq x t in
    grind (arith, nat_tests, p.coded.offs c a, p.coded.sends c a, p.falling.inside c a)

-- what comes to c from the cells with places from k on
abbrev come : Flow → (ℕ → ℕ) → (k c n : ℕ) → ℕ
come f g k c n = sum (λ x. cond (leb k (f.far x)) (sends f g c x) 0) n

-- the cells with places from k on have passed their amounts on
record Passed (l : Land) (f : Flow) (k : ℕ) (g : ℕ → ℕ) : Type 0 where
  each : (c : ℕ) → c < l.cells → g c ≡ l.rain c + come f g k c l.cells

none_passed : (l : Land) (f : Flow) → ((c : ℕ) → c < l.cells → f.far c < l.cells) → Passed l f l.cells (λ c. get_or (rains l) c 0)
none_passed l f early = record {
  each = λ c a.
      let n = l.cells in
      let g : ℕ → ℕ = λ x. get_or (rains l) x 0 in
      let z = sum_zero (λ x. cond (leb n (f.far x)) (sends f g c x) 0) n (λ x b. let e = early x b in grind (arith, nat_tests)) in
      omega (arith, z, get_or-map-range_with_len l.rain 0 n c c 0 a (omega arith));
}

all_passed : (l : Land) (f : Flow) (g : ℕ → ℕ) → Passed l f 0 g → Carried l f g
all_passed l f g p = record {
  each = λ c a. omega (arith, p.each c a, sum_same (λ x. cond (leb 0 (f.far x)) (sends f g c x) 0) (sends f g c) l.cells (λ x b. grind (arith, nat_tests)));
}

-- the cell with place k passes its amount on: to a cell with an earlier place, so those with later places keep theirs
one_more : (l : Land) (f : Flow) (flow order : List ℕ) → OrderedFlow l.cells f flow order → (g h : ℕ → ℕ) (k : ℕ) → k < l.cells →
    Passed l f (suc k) g → ((x : ℕ) → h x ≡ g x + sends f g x (get_or order k 0)) → Passed l f k h
one_more l f flow order p g h k a q more = record {
  each = λ x b.
      let n = l.cells in
      let c = get_or order k 0 in
      let here = p.place_of_cell k a in
      let kept : (y : ℕ) → y < n → k ≤ f.far y → h y ≡ g y = λ y b' e. grind (arith, nat_tests, more y, p.falling.nearer c (p.cell k a)) in
      let s = sum_more (λ y. cond (leb (suc k) (f.far y)) (sends f g x y) 0) (λ y. cond (leb k (f.far y)) (sends f h x y) 0) n c (p.cell k a)
      (grind (arith, nat_tests))
      (λ y b' ne. let i = p.cell_at_place y b' in let j = cases_eq (f.far y) k in let same = kept y b' in grind (arith, nat_tests)) in
      let last : cond (leb k (f.far c)) (sends f h x c) 0 ≡ sends f g x c = let same = kept c (p.cell k a) in grind (arith, nat_tests) in
      omega (arith, s, last, more x, q.each x b);
}

module _ (l : Land) (f : Flow) (flow order : List ℕ) (p : OrderedFlow l.cells f flow order) where
  -- an amount after so many places
  at : (done left c : ℕ) → ℕ
  at done left c = get_or (accumulated flow order (rains l) done left) c 0

  long : (done left : ℕ) → length (accumulated flow order (rains l) done left) ≡ l.cells
  long done left = rule_keeps_length flow order (rains l) done left ∙ length-map-range_with_len l.rain 0 l.cells

  step : (done left c : ℕ) → left < l.cells → at (suc done) left c ≡ at done (suc left) c + sends f (at done (suc left)) c (get_or order left 0)
  unfolding at accumulated
  step done left c a = passed_at l.cells f flow order _ p (long done (suc left)) (get_or order left 0) c (p.cell left a)

  run : (done left : ℕ) → done + left ≡ l.cells → Passed l f left (at done left)
  unfolding at accumulated
  run zero left e = subst (λ (k : ℕ). Passed l f k (λ c. get_or (rains l) c 0)) (omega arith) (none_passed l f p.place)
  run (suc done) left e =
      one_more l f flow order p (at done (suc left)) (at (suc done) left) left (omega arith) (run done (suc left) (omega arith)) (λ x. step done left x (omega arith))

  adds_up : Carried l f (at l.cells 0)
  adds_up = all_passed l f _ (run l.cells 0 (omega arith))

  -- amounts only grow
  below : (done left c : ℕ) → done + left ≡ l.cells → c < l.cells → at done left c ≤ at l.cells 0 c
  below done zero c e a = let all : done ≡ l.cells = omega arith in subst (λ (k : ℕ). at done 0 c ≤ at k 0 c) all (omega arith)
  below done (suc left) c e a = omega (arith, step done left c (omega arith), below (suc done) left c (omega arith) a)

pub rule_adds_up : RuleAddsUp
unfolding at
rule_adds_up = adds_up

pub rule_stays_below : RuleStaysBelow
unfolding at
rule_stays_below l f flow order p done left e c = elim (cases_lt c l.cells) [
  | inl a ↦ omega (arith, below l f flow order p done left c e a, bounded l f _ p.falling (adds_up l f flow order p) c a)
  | inr a ↦ omega (arith, get_or_past (accumulated flow order (rains l) done left) c 0 (omega (arith, long l f flow order p done left)))
]

pub rule_sums_fit : RuleSumsFit
unfolding at
rule_sums_fit l f flow order p done left e on =
    let c = get_or order left 0 in
    let t = get_or flow c 0 in
    let a = p.cell left (omega arith) in
    let s = step l f flow order p done left t (omega arith) in
    let low = rule_stays_below l f flow order p (suc done) left (omega arith) t in
    grind (arith, nat_tests, p.coded.offs c a, p.coded.sends c a)
