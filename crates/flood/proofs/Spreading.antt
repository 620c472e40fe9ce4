-- The cells next to the taken cell are told, one after another: what holds of the state then.
use Rattle.std.proofs.Common.{◌≡◌, ℕ, ◌<◌, max, true, false, eqb, ltb, List, [], ◌∷◌, ◌++◌, get_or, set, sym, refl, ap, ◌∙◌, subst, inl, inr, arith, get_or-set_other, get_or-set_same, lt-ltb, eq-eqb}
use borrow.Author.Tests.{both_ways}
use Rattle.std.proofs.lemmas.Bool.Decides.{nat_tests}
use Rattle.std.proofs.lemmas.Bool.{cases_Bool, cond_both, or_left, or_right}
use Rattle.model.specs.Land.{Land}
use Rattle.model.specs.Grid.{among}
use Rattle.flood.specs.Run.{ground_of, none, State, put, offer, wants, told, spread, flow_of}
use Rattle.flood.proofs.Filling.{Tell, tell_filled, tell_telling, tell_none}
use Rattle.flood.proofs.Choosing.{tell_chosen}
use Rattle.flood.proofs.Kept.{has, Frame, Mid}
use Rattle.flood.proofs.Putting.{put_frame}

-- a cell wants a level exactly if it has none: levels of taken cells never fall
pub wants_first : (l : Land) (around : ℕ → List ℕ) (s : State) (w d : ℕ) → Frame l s w → d < l.cells → wants (ground_of l around) w d s ≡ eqb (get_or s.levels d 0) none
wants_first l around s w d fr a = elim (cases_Bool (has s.levels d)) [
  | inl e ↦ let b = fr.below d a e in grind (arith, nat_tests)
  | inr e ↦ let b = fr.yet d a e in let u = fr.unplaced d a in let p = fr.level d a in grind (arith, nat_tests)
]

module _ (l : Land) (around : ℕ → List ℕ) (s : State) (c w d : ℕ) (left : List ℕ) (mid : Mid l s c w (d ∷ left))
    (cell : d < l.cells) (low : l.height d < none) (beside : l.next d c ≡ true) where
  fr : Frame l s w
  fr = mid.frame

  -- d has a level: nothing changes
  has_one : has s.levels d ≡ true → Mid l s c w left
  has_one e = record {
    frame = fr;
    filled = mid.filled;
    cell = mid.cell;
    placed = mid.placed;
    level = mid.level;
    last = mid.last;
    telling = tell_none l _ _ (flow_of s) c d left mid.telling e (omega (arith, fr.below d cell e, mid.level));
    chosen = mid.chosen;
  }

  -- d has none: it gets one
  gets_one : has s.levels d ≡ false → Mid l (put (offer (ground_of l around) w d) c d s) c w left
  unfolding put
  gets_one e =
      let v = max (l.height d) w in
      let free : has s.places d ≡ false = grind (arith, fr.level d) in
      let inner : l.leaves d ≡ false = elim (cases_Bool (l.leaves d)) [
        | inl o ↦ absurd (both_ways _ e (mid.telling.open_outlet d cell free o).0)
        | inr o ↦ o
      ] in
      let other : c ≡ d → ⊥ = λ z. both_ways _ free (subst (λ y. has s.places y ≡ true) z mid.placed) in
      let here = get_or-set_same s.levels d v 0 (omega (arith, fr.long.levels)) in
      let q' = has (set s.levels d v) in
      let f' = flow_of (put v c d s) in
      let st : Tell l (has s.places) (has s.levels) q' (flow_of s) f' c d = record {
        cell = cell;
        fresh = e;
        free = free;
        inner = inner;
        beside = beside;
        queued = ap (λ y. ltb y none) here ∙ lt-ltb v none (omega (arith, fr.water_fits));
        level = here ∙ ap (λ u. max (l.height d) u) (sym mid.level);
        to = get_or-set_same s.flow d c 0 (omega (arith, fr.long.flow));
        others = λ x i. ap (λ y. ltb y none) (get_or-set_other s.levels d x v 0 i);
        levels = λ x i. get_or-set_other s.levels d x v 0 i;
        tos = λ x i. get_or-set_other s.flow d x c 0 i;
        far = λ x. refl;
      } in
      record {
        frame = put_frame l s w v c d fr cell e low (omega arith) (λ o. absurd (both_ways _ inner o)) (λ _. mid.cell);
        filled = tell_filled l _ _ q' _ f' w s.placed c d left mid.filled mid.telling mid.cell mid.placed st;
        cell = mid.cell;
        placed = mid.placed;
        level = get_or-set_other s.levels d c v 0 other ∙ mid.level;
        last = mid.last;
        telling = tell_telling l _ _ q' _ f' w s.placed c d left mid.filled mid.telling mid.cell mid.placed st;
        chosen = tell_chosen l _ _ q' _ f' w s.placed c d left mid.filled mid.telling mid.cell mid.placed mid.last mid.chosen st;
      }

  pub told_mid : Mid l (told (ground_of l around) c w d s) c w left
  unfolding told
  told_mid =
      let is = wants_first l around s w d fr cell in
      let h = cases_Bool (has s.levels d) in
      cond_both (wants (ground_of l around) w d s) _ _ (λ z. Mid l z c w left)
      (λ e. gets_one (grind (arith, nat_tests)))
      (λ e. has_one (grind (arith, nat_tests, fr.yet d)))

-- the cells of the list lie next to c
abbrev pub Near : Land → ℕ → List ℕ → Type 0
Near l c ds = (x : ℕ) → among x ds ≡ true → (x < l.cells) × (l.next x c ≡ true)

-- the cells of `done` are told, those of `left` are not yet
pub spread_mid : (l : Land) (around : ℕ → List ℕ) → ((c : ℕ) → c < l.cells → l.height c < none) → (s : State) (c w : ℕ) (done left : List ℕ) →
    Near l c done → Mid l s c w (done ++ left) → Mid l (spread (ground_of l around) c w done s) c w left
unfolding spread
spread_mid l around low s c w [] left near mid = mid
spread_mid l around low s c w (d ∷ ds) left near mid =
    let b = near d (or_left _ _ (eq-eqb d d refl)) in
    spread_mid l around low (told (ground_of l around) c w d s) c w ds left (λ x e. near x (or_right _ _ e))
    (told_mid l around s c w d (ds ++ left) mid b.0 (low d b.0) b.1)
