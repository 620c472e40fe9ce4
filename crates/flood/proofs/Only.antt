-- Levels, flow and places that are certified and ordered are the only ones: by induction on places.
use Rattle.std.proofs.Common.{◌≡◌, ℕ, zero, suc, ◌<◌, ◌≤◌, ◌⊎◌, sym, ap, ◌∙◌, subst, inl, inr, arith}
use Rattle.std.proofs.lemmas.Bool.{cases_eq, cases_lt}
use Rattle.model.specs.Land.{Land}
use Rattle.flood.specs.Levels.{Flow}
use Rattle.flood.specs.Certified.{Certified}
use Rattle.flood.specs.Ordered.{Open, Ordered}
use Rattle.flood.specs.Right.{OnlyFlow}
use Rattle.flood.proofs.Certificate.{certified_drains}
use Rattle.flood.proofs.Comparing.{only_levels}

-- a flow with all that is asked of it
record Asked (l : Land) (f : Flow) : Type 0 where
  certified : Certified l f
  ordered : Ordered l f

-- two agree on the cells with places below k
record Agree (l : Land) (f g : Flow) (k : ℕ) : Type 0 where
  there : (c : ℕ) → c < l.cells → f.far c < k → g.far c ≡ f.far c
  back : (c : ℕ) → c < l.cells → g.far c < k → f.far c ≡ g.far c

-- as g and f do
swap : (l : Land) (f g : Flow) (k : ℕ) → Agree l f g k → Agree l g f k
swap l f g k a = record { there = a.back; back = a.there }

-- and have the same levels
same_level : (l : Land) (f g : Flow) → Certified l f → Certified l g → (c : ℕ) → c < l.cells → f.level c ≡ g.level c
same_level l f g cf cg c a = only_levels l f g (certified_drains l f cf) (certified_drains l g cg) c a

-- the cell of place k in g may get it in f too
opens_too : (l : Land) (f g : Flow) (k : ℕ) → Ordered l g → Agree l f g k → (d : ℕ) → d < l.cells → g.far d ≡ k → Open l f d k
opens_too l f g k og same d a e = elim (og.may d a) [
  | inl o ↦ inl o
  | inr u ↦
      let early : g.far u.by < k = omega (arith, u.early) in
      inr (record { by = u.by; cell = u.cell; next = u.next; early = omega (arith, same.back u.by u.cell early) })
]

-- and has no earlier place in f than the cell of place k in f
later : (l : Land) (f g : Flow) (k : ℕ) → Ordered l f → Agree l f g k → (c d : ℕ) → c < l.cells → d < l.cells → f.far c ≡ k → g.far d ≡ k → (c ≡ d → ⊥) → f.far c < f.far d
later l f g k of ag c d a b e i other = elim (cases_lt (f.far c) (f.far d)) [
  | inl q ↦ q
  | inr q ↦ elim (cases_eq (f.far c) (f.far d)) [
    | inl z ↦ absurd (other (of.places.apart c d a b z))
    | inr z ↦ absurd (omega (arith, ag.there d b (omega arith)))
  ]
]

-- two cells cannot each come before the other
never : (p q r s c d : ℕ) → p ≡ r → q ≡ s → (p < q) ⊎ ((p ≡ q) × (c < d)) → (s < r) ⊎ ((s ≡ r) × (d < c)) → ⊥
never p q r s c d e i x y = grind arith

-- so the cell of place k is the same in both
next_same : (l : Land) (f g : Flow) (k : ℕ) → Asked l f → Asked l g → Agree l f g k → k < l.cells → (c : ℕ) → c < l.cells → f.far c ≡ k → g.far c ≡ k
next_same l f g k af ag same lt c a e =
    let q = ag.ordered.places.each k lt in
    let d = q.0 in
    let b = q.1 in
    let i : g.far d ≡ k = q.2 in
    elim (cases_eq c d) [
      | inl z ↦ ap g.far z ∙ i
      | inr z ↦
          let fo = subst (Open l f d) (sym e) (opens_too l f g k ag.ordered same d b i) in
          let go = subst (Open l g c) (sym i) (opens_too l g f k af.ordered (swap l f g k same) c a e) in
          let x = af.ordered.lowest c d a b (later l f g k af.ordered same c d a b e i z) fo in
          let y = ag.ordered.lowest d c b a (later l g f k ag.ordered (swap l f g k same) d c b a i e (λ w. z (sym w))) go in
          let lc = same_level l f g af.certified ag.certified c a in
          let ld = same_level l f g af.certified ag.certified d b in
          absurd (never (f.level c) (f.level d) (g.level c) (g.level d) c d lc ld x y)
    ]

agrees : (l : Land) (f g : Flow) → Asked l f → Asked l g → (k : ℕ) → k ≤ l.cells → Agree l f g k
agrees l f g af ag zero le = record { there = λ c a b. absurd (omega arith); back = λ c a b. absurd (omega arith) }
agrees l f g af ag (suc k) le =
    let ih = agrees l f g af ag k (omega arith) in
    let lt : k < l.cells = omega arith in
    record {
      there = λ c a b. elim (cases_eq (f.far c) k) [ inl z ↦ next_same l f g k af ag ih lt c a z ∙ sym z | inr z ↦ ih.there c a (omega arith) ];
      back = λ c a b. elim (cases_eq (g.far c) k) [ inl z ↦ next_same l g f k ag af (swap l f g k ih) lt c a z ∙ sym z | inr z ↦ ih.back c a (omega arith) ];
    }

pub only_flow : OnlyFlow
only_flow l f g cf cg of og c a =
    let same = agrees l f g (record { certified = cf; ordered = of }) (record { certified = cg; ordered = og }) l.cells (omega arith) in
    let far : (x : ℕ) → x < l.cells → f.far x ≡ g.far x = λ x b. sym (same.there x b (of.places.within x b)) in
    let off : f.off c ≡ g.off c = cf.sends_off c a ∙ sym (cg.sends_off c a) in (
      same_level l f g cf cg c a,
      far c a,
      off,
      λ e.
          let o = sym (cf.sends_off c a) ∙ e in
          let e' = sym off ∙ e in
          let x = cf.inside c a e in
          let y = cg.inside c a e' in
          of.places.apart (f.to c) (g.to c) x y
          (omega (arith, of.earliest c (g.to c) a y o (cg.beside c a e'), og.earliest c (f.to c) a x o (cf.beside c a e), far (f.to c) x, far (g.to c) y)),
    )
