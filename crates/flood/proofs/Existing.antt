-- Every land with ways off it has levels and a flow: the water rises by one, or one cell more gets a place.
use Rattle.std.proofs.Common.{◌≡◌, ℕ, zero, suc, ◌+◌, ◌-◌, ◌<◌, ◌≤◌, Bool, true, false, cond, not, ◌&&◌, ◌||◌, eqb, leb, ◌⊎◌, refl, inl, inr, arith}
use Rattle.std.proofs.lemmas.Bool.{both_ways, not-true, not-false, not_from_false, cases_Bool, cases_lt, cases_eq, eq-eqb, eqb-true, eqb-false, leb-true, le-leb, and_parts, and_from, or_cases, or_parts, or_left, or_right}
use Rattle.model.specs.Land.{Land, Out, here, on}
use Rattle.flood.specs.Levels.{Flow}
use Rattle.flood.specs.Certified.{Certified}
use Rattle.flood.specs.Promises.{LevelsExist}
use Rattle.flood.specs.Sums.{sum}
use Rattle.flood.proofs.Sums.{le_sum, sum_less}
use Rattle.flood.proofs.Ways.{way_cell}
use Rattle.flood.proofs.Certificate.{certified_drains}
use Rattle.flood.proofs.Filling.{Filled, none_filled, New, Old, one_more, risen_to, all_certified}

-- some number below n passes
abbrev any : (ℕ → Bool) → ℕ → Bool
any q zero = false
any q (suc n) = q n || any q n

any_some : (q : ℕ → Bool) (n : ℕ) → any q n ≡ true → (k : ℕ) × (k < n) × (q k ≡ true)
any_some q zero e = absurd (both_ways false refl e)
any_some q (suc n) e = elim (or_cases (q n) (any q n) e) [
  | inl i ↦ (n, omega arith, i)
  | inr i ↦ let r = any_some q n i in (r.0, omega (arith, r.1), r.2)
]

any_none : (q : ℕ → Bool) (n : ℕ) → any q n ≡ false → (k : ℕ) → k < n → q k ≡ false
any_none q zero e k a = absurd (omega arith)
any_none q (suc n) e k a = let p = or_parts (q n) (any q n) e in let ih = any_none q n p.1 k in let i = cases_eq k n in grind arith

-- a cell can get a place where the water stands now; water leaves from it, or it can send to a cell that has a place
abbrev ready : Land → (ℕ → Bool) → ℕ → ℕ → Bool
ready l p w c = not (p c) && (leb (l.height c) w && (l.leaves c || any (λ d. p d && l.next c d) l.cells))

record Ready (l : Land) (p : ℕ → Bool) (w c : ℕ) : Type 0 where
  free : p c ≡ false
  low : l.height c ≤ w
  to : ℕ
  from : l.leaves c ≡ false → (to < l.cells) × (p to ≡ true) × (l.next c to ≡ true)

is_ready : (l : Land) (p : ℕ → Bool) (w c : ℕ) → ready l p w c ≡ true → Ready l p w c
is_ready l p w c e =
    let q : ℕ → Bool = λ d. p d && l.next c d in
    let a = and_parts (not (p c)) (leb (l.height c) w && (l.leaves c || any q l.cells)) e in
    let b = and_parts (leb (l.height c) w) (l.leaves c || any q l.cells) a.1 in
    let free = not-true (p c) a.0 in
    let low = leb-true (l.height c) w b.0 in
    elim (or_cases (l.leaves c) (any q l.cells) b.1) [
      | inl o ↦ record { free = free; low = low; to = 0; from = λ i. absurd (both_ways _ i o) }
      | inr o ↦
          let r = any_some q l.cells o in
          let n = and_parts (p r.0) (l.next c r.0) r.2 in
          record { free = free; low = low; to = r.0; from = λ _. (r.1, n.0, n.1) }
    ]

module _ (l : Land) (p : ℕ → Bool) (w : ℕ) (none : (x : ℕ) → x < l.cells → ready l p w x ≡ false) where
  -- where no cell can get a place, the water stands below each that has none and could send on
  outlet_over : (c : ℕ) → c < l.cells → p c ≡ false → l.leaves c ≡ true → w < l.height c
  outlet_over c a e o = elim (cases_lt w (l.height c)) [
    | inl q ↦ q
    | inr q ↦ absurd (both_ways _ (none c a) (and_from _ _ (not_from_false _ e) (and_from _ _ (le-leb _ _ q) (or_left _ _ o))))
  ]

  cell_over : (c d : ℕ) → c < l.cells → p c ≡ false → d < l.cells → p d ≡ true → l.next c d ≡ true → w < l.height c
  cell_over c d a e b i k = elim (cases_lt w (l.height c)) [
    | inl q ↦ q
    | inr q ↦
        let found : any (λ x. p x && l.next c x) l.cells ≡ true = elim (cases_Bool (any (λ x. p x && l.next c x) l.cells)) [
          | inl f ↦ f
          | inr f ↦ absurd (both_ways _ (any_none _ l.cells f d b) (and_from _ _ i k))
        ] in
        absurd (both_ways _ (none c a) (and_from _ _ (not_from_false _ e) (and_from _ _ (le-leb _ _ q) (or_right _ _ found))))
  ]

  -- so where it stands above all land, every cell has a place
  all_under : ((x : ℕ) → x < l.cells → l.height x ≤ w) → {h c : ℕ} → Out l h c → p c ≡ true
  all_under high (here {c} a b e) = let o = cases_Bool (p c) in grind (arith, outlet_over c, high c)
  all_under high (on {c} {d} a b e o) = let i = all_under high o in let k = way_cell o in let u = cases_Bool (p c) in grind (arith, cell_over c d, high c)

-- c gets place n at the level of the water and sends to t
abbrev placed_too : (ℕ → Bool) → ℕ → ℕ → Bool
placed_too p c x = eqb x c || p x

abbrev placing : Land → Flow → (w n c t : ℕ) → Flow
placing l f w n c t = record {
  level = λ x. cond (eqb x c) w (f.level x);
  off = l.leaves;
  to = λ x. cond (eqb x c) t (f.to x);
  far = λ x. cond (eqb x c) n (f.far x);
}

placing_at : (l : Land) (p : ℕ → Bool) (f : Flow) (w n c t x : ℕ) → New l (placed_too p c) (placing l f w n c t) w n c t x ⊎ Old p (placed_too p c) f (placing l f w n c t) c x
placing_at l p f w n c t x = elim (cases_Bool (eqb x c)) [
  | inl e ↦ inl (record { is = eqb-true x c e; placed = rw e; level = rw e; to = rw e; far = rw e })
  | inr e ↦ inr (record { isnt = eqb-false x c e; placed = rw e; kept = λ _. record { level = rw e; to = rw e; far = rw e } })
]

-- how many cells have no place, and how high all land is at most
abbrev unplaced : Land → (ℕ → Bool) → ℕ
unplaced l p = sum (λ c. cond (p c) 0 1) l.cells

abbrev top : Land → ℕ
top l = sum l.height l.cells

fewer : (l : Land) (p : ℕ → Bool) (c : ℕ) → c < l.cells → p c ≡ false → unplaced l (placed_too p c) < unplaced l p
fewer l p c a e = sum_less (λ x. cond (placed_too p c x) 0 1) (λ x. cond (p x) 0 1) l.cells c (λ x _. each (eqb x c) (p x)) a (rw (eq-eqb c c refl, e) (omega arith))
  where
    each : (b v : Bool) → cond {A = ℕ} (b || v) 0 1 ≤ cond v 0 1
    each true true = omega arith
    each true false = omega arith
    each false v = omega arith

-- k is more than the cells without a place and the heights that the water has yet to rise
fill : (l : Land) → ((c : ℕ) → c < l.cells → (h : ℕ) × Out l h c) → (k : ℕ) (p : ℕ → Bool) (f : Flow) (w n : ℕ) → Filled l p f w n →
    ((c : ℕ) → c < l.cells → f.off c ≡ l.leaves c) → unplaced l p + (top l - w) < k → (g : Flow) × Certified l g
fill l ways zero p f w n inv off small = absurd (omega arith)
fill l ways (suc k) p f w n inv off small = elim (cases_Bool (any (λ c. not (p c)) l.cells)) [
  | inr all ↦ (f, all_certified l p f w n inv (λ c a. not-false (p c) (any_none (λ x. not (p x)) l.cells all c a)) off)
  | inl some ↦ elim (cases_Bool (any (ready l p w) l.cells)) [
    | inl e ↦
        let s = any_some (ready l p w) l.cells e in
        let c = s.0 in
        let r = is_ready l p w c s.2 in
        fill l ways k (placed_too p c) (placing l f w n c r.to) w (suc n)
        (one_more l p (placed_too p c) f (placing l f w n c r.to) w n c r.to inv s.1 r.free r.low r.from (placing_at l p f w n c r.to))
        (λ x a. refl) (omega (arith, fewer l p c s.1 r.free))
    | inr e ↦
        let none = any_none (ready l p w) l.cells e in
        let below : w < top l = elim (cases_lt w (top l)) [
          | inl q ↦ q
          | inr q ↦
              let u = any_some (λ c. not (p c)) l.cells some in
              let placed = all_under l p w none (λ x a. omega (arith, le_sum l.height l.cells x a)) (ways u.0 u.1).1 in
              absurd (both_ways _ (not-true _ u.2) placed)
        ] in
        fill l ways k p f (suc w) n
        (risen_to l p f w (suc w) n inv (omega arith) (λ c a i o. outlet_over l p w none c a i o) (λ c d a i b j q. inl (cell_over l p w none c d a i b j q)))
        off (omega arith)
  ]
]

-- nothing has a place yet
abbrev blank_flow : Land → Flow
blank_flow l = record { level = λ _. 0; off = l.leaves; to = λ _. 0; far = λ _. 0 }

pub levels_exist : LevelsExist
levels_exist l ways =
    let s = fill l ways (suc (unplaced l (λ _. false) + (top l - 0))) (λ _. false) (blank_flow l) 0 0 (none_filled l (λ _. false) (blank_flow l) 0 (λ c a. refl)) (λ c a. refl) (omega arith) in
    (s.0, certified_drains l s.0 s.1)
