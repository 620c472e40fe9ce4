-- Every state that the rule comes to is good, and each turn gives one cell its place.
use Rattle.std.proofs.Common.{◌≡◌, ℕ, zero, suc, ◌+◌, ◌<◌, ◌≤◌, true, cond, List, [], ◌∷◌, ◌++◌, sym, refl, ap, ◌∙◌, subst, inl, inr, append-nil, add-one, arith}
use Rattle.std.proofs.lemmas.Bool.{cases_lt, cond_both}
use Rattle.model.specs.Land.{Land}
use Rattle.model.specs.Grid.{among}
use Rattle.flood.specs.Run.{Ground, ground_of, State, put, first_cell, first_level, taken, told, spread, turn, after}
use Rattle.flood.specs.Fair.{Fair}
use Rattle.flood.proofs.Sums.{sum_same, sum_ones, le_sum}
use Rattle.flood.proofs.Filling.{told_all, all_placed}
use Rattle.flood.proofs.Kept.{has, stands, Good, Mid}
use Rattle.flood.proofs.Among.{among_front}
use Rattle.flood.proofs.First.{first_stands}
use Rattle.flood.proofs.Taking.{take_mid}
use Rattle.flood.proofs.Spreading.{Near, spread_mid}
use Rattle.flood.proofs.Beginning.{begun_all, begun_good}

-- telling cells gives no place, and a turn gives one
told_placed : (g : Ground) (c v d : ℕ) (s : State) → (told g c v d s).placed ≡ s.placed
unfolding told put
told_placed g c v d s = cond_both {A = State} _ _ _ (λ z. z.placed ≡ s.placed) (λ _. refl) (λ _. refl)

pub spread_placed : (g : Ground) (c v : ℕ) (ds : List ℕ) (s : State) → (spread g c v ds s).placed ≡ s.placed
unfolding spread
spread_placed g c v [] s = refl
spread_placed g c v (d ∷ ds) s = spread_placed g c v ds (told g c v d s) ∙ told_placed g c v d s

pub turn_placed : (g : Ground) (s : State) → (turn g s).placed ≡ s.placed + 1
unfolding taken
turn_placed g s = spread_placed g _ _ _ (taken s)

module _ (l : Land) (around : ℕ → List ℕ) (fair : Fair l around) where
  -- the cells that are listed next to a cell
  pub around_near : (c : ℕ) → c < l.cells → Near l c (around c)
  around_near c a x e = let b = fair.within c x a e in (b, fair.both x c b a ∙ (sym (fair.listed c x a b) ∙ e))

  -- in a turn, after the cells of `done` are told and before those of `left` are
  pub turn_mid : (s : State) (w : ℕ) → Good l s w → 0 < s.queued → (done left : List ℕ) → around (first_cell s) ≡ done ++ left →
      Mid l (spread (ground_of l around) (first_cell s) (first_level s) done (taken s)) (first_cell s) (first_level s) left
  turn_mid s w good some done left e =
      let c = first_cell s in
      let a = (first_stands l fair.few s w good.frame some).cell in
      let all = subst (λ ds. (x : ℕ) → x < l.cells → l.next x c ≡ true → among x ds ≡ true) e (λ x b i. fair.listed c x a b ∙ (fair.both c x a b ∙ i)) in
      let these = subst (Near l c) e (around_near c a) in
      spread_mid l around fair.low (taken s) c (first_level s) done left (λ x i. these x (among_front x done left i)) (take_mid l fair.few fair.low s w good some (done ++ left) all)

  -- a turn keeps all that holds between turns
  turn_good : (s : State) (w : ℕ) → Good l s w → 0 < s.queued → Good l (turn (ground_of l around) s) (first_level s)
  turn_good s w good some =
      let mid = turn_mid s w good some (around (first_cell s)) [] (sym (append-nil _)) in
      record { frame = mid.frame; filled = mid.filled; waits = told_all l _ _ _ (first_cell s) mid.telling; chosen = mid.chosen }

  -- while a cell has no place, one stands in the queue
  pub some_stand : (s : State) (w : ℕ) → Good l s w → s.placed < l.cells → 0 < s.queued
  some_stand s w good a = elim (cases_lt 0 s.queued) [
    | inl q ↦ q
    | inr q ↦
        let fr = good.frame in
        let n = l.cells in
        let h : ℕ → ℕ = λ c. cond (stands s c) 1 0 in
        let all : (c : ℕ) → c < n → has s.places c ≡ true = λ c b. all_placed l _ _ _ good.waits (λ x i e k. let one : h x ≡ 1 = rw (e, k) in omega (arith, fr.size, le_sum h n x i)) (fair.ways c b).1 in
        absurd (omega (arith, fr.count, sum_ones n, sum_same (λ c. cond (has s.places c) 1 0) (λ _. 1) n (λ c b. rw (all c b))))
  ]

  -- the state after k turns, where the water stands at w
  pub record Reach (k w : ℕ) : Type 0 where
    pub good : Good l (after (ground_of l around) k) w
    pub turns : (after (ground_of l around) k).placed ≡ k

  -- as many turns as there are cells can be made
  pub reached : (k : ℕ) → k ≤ l.cells → (w : ℕ) × Reach k w
  unfolding after
  reached zero a = let b = begun_all l around fair.low l.cells (omega arith) in (0, record { good = begun_good l _ b; turns = b.none_placed })
  reached (suc k) a =
      let ih = reached k (omega arith) in
      let s = after (ground_of l around) k in
      let i = ih.1.turns in (
        first_level s,
        record {
          good = turn_good s ih.0 ih.1.good (some_stand s ih.0 ih.1.good (omega arith));
          turns = turn_placed (ground_of l around) s ∙ (ap (λ y. y + 1) i ∙ add-one k);
        },
      )
