-- The first entry of the queue: whose it is, and that it comes before the others.
use Rattle.std.proofs.Common.{◌≡◌, ℕ, ◌<◌, ◌≤◌, true, false, cond, eqb, get_or, refl, subst, inl, inr, arith, eq-eqb, eqb-true}
use Rattle.std.proofs.lemmas.Bool.{cases_lt, cases_Bool}
use Rattle.model.specs.Land.{Land}
use Rattle.queue.specs.Heap.{word, popped}
use Rattle.queue.proofs.Laws.{AfterPop, after_pop}
use Rattle.flood.specs.Ordered.{Before}
use Rattle.flood.specs.Run.{none, State, first_cell, first_level, flow_of}
use Rattle.flood.proofs.Sums.{sum_some, le_sum, front_some, le_front}
use Rattle.flood.proofs.Kept.{has, stands, Frame}
use Rattle.flood.proofs.Putting.{fits}

-- x stands in the queue as the word e
pub record Standing (l : Land) (s : State) (e x : ℕ) : Type 0 where
  pub cell : x < l.cells
  pub free : has s.places x ≡ false
  pub seen : has s.levels x ≡ true
  pub is : word (get_or s.levels x 0) x ≡ e

-- 1 for the word e
abbrev this : ℕ → ℕ → ℕ
this e y = cond (eqb y e) 1 0

-- a cell that adds to the sum stands as e
counted : (l : Land) (s : State) (e x : ℕ) → x < l.cells → 0 < cond (stands s x) (this e (word (get_or s.levels x 0) x)) 0 → Standing l s e x
counted l s e x a p = elim (cases_Bool (has s.places x)) [
  | inl q ↦ absurd (let z = rw q at p in omega arith)
  | inr q ↦ elim (cases_Bool (has s.levels x)) [
    | inr r ↦ absurd (let z = rw (q, r) at p in omega arith)
    | inl r ↦ elim (cases_Bool (eqb (word (get_or s.levels x 0) x) e)) [
      | inl i ↦ record { cell = a; free = q; seen = r; is = eqb-true _ _ i }
      | inr i ↦ absurd (let z = rw (q, r, i) at p in omega arith)
    ]
  ]
]

module _ (l : Land) (few : l.cells ≤ none) (s : State) (w : ℕ) (fr : Frame l s w) (some : 0 < s.queued) where
  -- the first entry is that of a cell
  some_first : (x : ℕ) × Standing l s (get_or s.queue 0 0) x
  some_first =
      let e = get_or s.queue 0 0 in
      let le = fits l s w fr in
      let one : this e e ≡ 1 = rw (eq-eqb e e refl) in
      let r = sum_some (λ c. cond (stands s c) (this e (word (get_or s.levels c 0) c)) 0) l.cells
      (omega (arith, one, fr.content (this e), le_front (this e) s.queue s.queued 0 (omega (arith, fr.long.queue)) some)) in
      (r.0, counted l s e r.0 r.1 r.2)

  -- and each cell that stands has its entry
  has_entry : (d : ℕ) → d < l.cells → has s.places d ≡ false → has s.levels d ≡ true → (k : ℕ) × (k < s.queued) × (get_or s.queue k 0 ≡ word (get_or s.levels d 0) d)
  has_entry d a p q =
      let e = word (get_or s.levels d 0) d in
      let le = fits l s w fr in
      let h : ℕ → ℕ = λ c. cond (stands s c) (this e (word (get_or s.levels c 0) c)) 0 in
      let one : h d ≡ 1 = rw (p, q, eq-eqb e e refl) in
      let r = front_some (this e) s.queue s.queued (omega (arith, fr.long.queue)) (omega (arith, one, fr.content (this e), le_sum h l.cells d a)) in
      let is : get_or s.queue r.0 0 ≡ e = elim (cases_Bool (eqb (get_or s.queue r.0 0) e)) [
        | inl i ↦ eqb-true _ _ i
        | inr i ↦ absurd (let z = rw i at r.2 in omega arith)
      ] in
      (r.0, r.1, is)

  -- its number and level are the halves of the word
  pub first_stands : Standing l s (get_or s.queue 0 0) (first_cell s)
  first_stands =
      let r = some_first in
      let b = r.1.cell in
      let e : r.0 ≡ first_cell s = omega (arith, r.1.is) in
      subst (Standing l s (get_or s.queue 0 0)) e r.1

  pub first_level_is : get_or s.levels (first_cell s) 0 ≡ first_level s
  first_level_is = let r = first_stands in omega (arith, r.is, r.cell)

  -- what a pop leaves
  pub left : AfterPop s.queue s.queued (popped s.queue s.queued)
  left = after_pop s.queue s.queued some (omega (arith, fr.long.queue, fits l s w fr))

  -- it comes before the others that stand
  pub foremost : (d : ℕ) → d < l.cells → has s.places d ≡ false → has s.levels d ≡ true → (d ≡ first_cell s → ⊥) → Before (flow_of s) (first_cell s) d
  foremost d a p q other =
      let r = has_entry d a p q in
      let f = first_stands in
      let le : word (get_or s.levels (first_cell s) 0) (first_cell s) ≤ word (get_or s.levels d 0) d = omega (arith, r.2, left.least fr.heap r.0 r.1, f.is) in
      let b = f.cell in
      elim (cases_lt (get_or s.levels (first_cell s) 0) (get_or s.levels d 0)) [
        | inl z ↦ inl z
        | inr z ↦ inr (omega arith, omega arith)
      ]
