-- Which cell each sends to, and which comes first: what holds of flow and order while land is filled.
use Rattle.std.proofs.Common.{◌≡◌, ℕ, ◌+◌, ◌<◌, ◌≤◌, Bool, true, false, ◌⊎◌, List, [], ◌∷◌, sym, subst, inl, inr, arith}
use borrow.Author.Tests.{both_ways}
use Rattle.std.proofs.lemmas.Bool.{cases_eq, cases_Bool}
use Rattle.model.specs.Land.{Land}
use Rattle.flood.specs.Levels.{Flow}
use Rattle.flood.specs.Ordered.{Before}
use Rattle.flood.proofs.Filling.{Filled, Telling, Take, Tell, kept}

-- d stood in the queue when place k was given: water leaves from it, or it sends to a cell with an earlier place
abbrev pub Stood : Land → Flow → ℕ → ℕ → Type 0
Stood l f d k = (l.leaves d ≡ true) ⊎ (f.far (f.to d) < k)

-- each cell with a level sends to its earliest neighbour, and each cell with a place came before those that stood in the queue then
pub record Chosen (l : Land) (p q : ℕ → Bool) (f : Flow) : Type 0 where
  pub earliest : (x d : ℕ) → x < l.cells → q x ≡ true → l.leaves x ≡ false → d < l.cells → p d ≡ true → l.next x d ≡ true → f.far (f.to x) ≤ f.far d
  pub lowest : (c d : ℕ) → c < l.cells → p c ≡ true → d < l.cells → q d ≡ true → (p d ≡ true → f.far c < f.far d) → Stood l f d (f.far c) → Before f c d

-- the order of two cells hangs on their levels only
same_before : (f f' : Flow) (c d : ℕ) → f'.level c ≡ f.level c → f'.level d ≡ f.level d → Before f c d → Before f' c d
same_before f f' c d e i (inl o) = inl (omega arith)
same_before f f' c d e i (inr o) = inr (omega (arith, o.0), o.1)

module _ (l : Land) (p q : ℕ → Bool) (f : Flow) (w n c : ℕ) (p' : ℕ → Bool) (f' : Flow)
    (inv : Filled l p f w n) (ws : Telling l p q f c []) (ch : Chosen l p q f) (st : Take l p q f n c p' f') where
  -- a cell with a level from which no water leaves sends to one that has a place, and so to another than c
  record Sends (t : ℕ) : Type 0 where
    cell : t < l.cells
    placed : p t ≡ true
    isnt : t ≡ c → ⊥
    early : f.far t < n

  goes : (x : ℕ) → x < l.cells → q x ≡ true → l.leaves x ≡ false → Sends (f.to x)
  goes x a i o = let e = cases_Bool (p x) in grind (arith, inv.goes x, ws.source x, inv.early (f.to x), st.free)

  -- after c is taken
  pub take_chosen : Chosen l p' q f'
  take_chosen = record {
    earliest = λ x d a i o b e k. let g = goes x a i o in let v = cases_eq d c in grind (arith, ch.earliest x d, st.to x, st.fars, st.far, st.others d);
    lowest = λ b d a e i k late stood. same_before f f' b d (st.level b) (st.level d) (elim (cases_eq b c) [
      -- the cell that is taken now
      | inl z ↦
          let isnt : d ≡ c → ⊥ = λ u. grind (arith, st.placed) in
          let free : p d ≡ false = let u = cases_Bool (p d) in grind (arith, st.far, st.fars d, st.others d, inv.early d) in
          subst (λ y. Before f y d) (sym z) (st.first d i free k isnt)
      | inr z ↦
          let j = cases_eq d c in
          let placed : p b ≡ true = grind (arith, st.others b) in
          let late' : p d ≡ true → f.far b < f.far d = λ u. grind (arith, st.free, st.fars b, st.fars d, st.others d) in
          let stood' : Stood l f d (f.far b) = let o = cases_Bool (l.leaves d) in grind (arith, goes d i k, st.fars, st.to d) in
          ch.lowest b d a placed i k late' stood'
    ]);
  }

module _ (l : Land) (p q q' : ℕ → Bool) (f f' : Flow) (w n c y : ℕ) (left : List ℕ)
    (inv : Filled l p f w n) (ws : Telling l p q f c (y ∷ left)) (cell : c < l.cells) (placed : p c ≡ true) (last : f.far c + 1 ≡ n) (ch : Chosen l p q f) (st : Tell l p q q' f f' c y) where
  -- c is the only cell with a place next to y
  only : (d : ℕ) → d < l.cells → p d ≡ true → l.next y d ≡ true → d ≡ c
  only d a e k = elim (cases_eq d c) [
    | inl z ↦ z
    | inr z ↦ absurd (both_ways _ st.fresh (ws.open_cell y d st.cell st.free st.inner a e k (λ u. absurd (z u))).0)
  ]

  -- after y got its level
  pub tell_chosen : Chosen l p q' f'
  tell_chosen = record {
    earliest = λ x d a i o b e k. let j = cases_eq x y in grind (arith, only d, ch.earliest x d, st.tos x, st.others x, st.far);
    lowest = λ b d a e i k late stood.
        let sb = kept l p q q' f f' w n c y left inv ws cell placed st b e in
        let fb = st.far b in
        let fd = st.far d in
        let j = cases_eq d y in
        let isnt : d ≡ y → ⊥ = λ z. grind (arith, st.inner, st.to, st.far c, inv.early b) in
        let q_d : q d ≡ true = grind (arith, st.others d) in
        let stood' : Stood l f d (f.far b) = grind (arith, st.tos d, st.far) in
        same_before f f' b d sb.level (st.levels d isnt) (ch.lowest b d a e i q_d (λ u. omega (arith, late u)) stood');
  }
