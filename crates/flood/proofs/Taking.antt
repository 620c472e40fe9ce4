-- The first entry is taken out, and its cell gets a place: what holds of the state then.
use Rattle.std.proofs.Common.{◌≡◌, ℕ, suc, ◌+◌, ◌-◌, ◌*◌, ◌<◌, ◌≤◌, true, false, cond, ltb, List, get_or, set, sym, refl, ap, ◌∙◌, subst, inl, inr, add-one, arith, length-set, get_or-set_other, get_or-set_same, lt-ltb}
use borrow.Author.Tests.{both_ways}
use Rattle.std.proofs.lemmas.Bool.Decides.{nat_tests}
use Rattle.model.specs.Land.{Land}
use Rattle.model.specs.Grid.{among}
use Rattle.queue.specs.Heap.{word}
use Rattle.queue.proofs.Laws.{popped_length}
use Rattle.flood.specs.Sums.{sum}
use Rattle.flood.specs.Run.{none, State, first_cell, first_level, taken, flow_of}
use Rattle.flood.proofs.Sums.{sum_set}
use Rattle.flood.proofs.Filling.{Filled, Take, waits_above, take_filled, take_telling}
use Rattle.flood.proofs.Choosing.{take_chosen}
use Rattle.flood.proofs.Kept.{has, stands, Frame, Good, Mid, wrote}
use Rattle.flood.proofs.Putting.{fits}
use Rattle.flood.proofs.First.{Standing, first_stands, first_level_is, left, foremost}

module _ (l : Land) (few : l.cells ≤ none) (low : (c : ℕ) → c < l.cells → l.height c < none) (s : State) (w : ℕ) (good : Good l s w) (some : 0 < s.queued) where
  fr : Frame l s w
  fr = good.frame

  f_is : Standing l s (get_or s.queue 0 0) (first_cell s)
  f_is = first_stands l few s w fr some

  room : s.placed < none
  room = omega (arith, fits l s w fr)

  -- its word leaves the queue
  less : (g : ℕ → ℕ) →
      sum (λ c. cond (cond (has (set s.places (first_cell s) s.placed) c) false (has s.levels c)) (g (word (get_or s.levels c 0) c)) 0) l.cells + g (get_or s.queue 0 0)
      ≡ sum (λ c. cond (stands s c) (g (word (get_or s.levels c 0) c)) 0) l.cells
  less g =
      let c = first_cell s in
      let f = f_is in
      let P : ℕ → ℕ → ℕ = λ x p. cond (cond (ltb p none) false (has s.levels x)) (g (word (get_or s.levels x 0) x)) 0 in
      let new : P c s.placed ≡ 0 = rw (lt-ltb s.placed none room) in
      let old : P c (get_or s.places c 0) ≡ g (get_or s.queue 0 0) = rw (f.free, f.seen) (ap g f.is) in
      omega (arith, new, old, sum_set P s.places l.cells c s.placed f.cell (omega (arith, fr.long.places, f.cell)))

  -- and one cell more has a place
  more : sum (λ c. cond (has (set s.places (first_cell s) s.placed) c) 1 0) l.cells ≡ s.placed + 1
  more =
      let c = first_cell s in
      let f = f_is in
      let P : ℕ → ℕ → ℕ = λ _ p. cond (ltb p none) 1 0 in
      let new : P c s.placed ≡ 1 = rw (lt-ltb s.placed none room) in
      let old : P c (get_or s.places c 0) ≡ 0 = rw f.free in
      omega (arith, new, old, fr.count, sum_set P s.places l.cells c s.placed f.cell (omega (arith, fr.long.places, f.cell)))

  -- how the lists hang together then
  pub take_frame : Frame l (taken s) (first_level s)
  unfolding taken
  take_frame =
      let n = l.cells in
      let c = first_cell s in
      let f = f_is in
      let le = fits l s w fr in
      let lv = first_level_is l few s w fr some in
      let up = (waits_above l (has s.places) (has s.levels) (flow_of s) w s.placed c good.filled (good.waits c) f.cell f.free f.seen).0 in
      let ps = wrote s.places c s.placed (omega (arith, fr.long.places, f.cell)) in
      let os = wrote s.order s.placed c (omega (arith, fr.long.order)) in
      let ys = set s.places c s.placed in
      let zs = set s.order s.placed c in
      let po = left l few s w fr some in
      record {
        long = record {
          levels = fr.long.levels;
          flow = fr.long.flow;
          places = length-set s.places c s.placed ∙ fr.long.places;
          puts = fr.long.puts;
          order = length-set s.order s.placed c ∙ fr.long.order;
          queue = popped_length s.queue s.queued ∙ fr.long.queue;
        };
        heap = po.order fr.heap;
        content = λ g. omega (arith, po.content g, fr.content g, less g);
        size = omega (arith, less (λ _. 1), fr.size);
        count = more;
        once = fr.once;
        level = λ x a e. let p = ps x in grind (arith, nat_tests, fr.level x);
        below = λ x a e. grind (arith, nat_tests, fr.below x);
        yet = fr.yet;
        unplaced = λ x a e. elim (ps x) [
          | inl q ↦ absurd (both_ways _ e (ap (λ y. ltb y none) q.now ∙ lt-ltb s.placed none (omega arith)))
          | inr q ↦ q.now ∙ fr.unplaced x a (rw q.now at e)
        ];
        listed = λ x a e. elim (ps x) [
          | inl q ↦ ap (λ y. get_or zs y 0) q.now ∙ (get_or-set_same s.order s.placed c 0 (omega (arith, fr.long.order)) ∙ sym q.is)
          | inr q ↦
              let old : has s.places x ≡ true = rw q.now at e in
              let early = good.filled.early x a old in
              ap (λ y. get_or zs y 0) q.now ∙ (get_or-set_other s.order s.placed (get_or s.places x 0) c 0 (omega arith) ∙ fr.listed x a old)
        ];
        cell_at = λ k a. elim (os k) [ inl q ↦ omega (arith, q.now, f.cell) | inr q ↦ omega (arith, q.now, fr.cell_at k (omega (arith, q.isnt))) ];
        place_at = λ k a. elim (os k) [
          | inl q ↦ ap (λ y. get_or ys y 0) q.now ∙ (get_or-set_same s.places c s.placed 0 (omega (arith, fr.long.places, f.cell)) ∙ sym q.is)
          | inr q ↦
              let b : k < s.placed = omega (arith, q.isnt) in
              let at = fr.place_at k b in
              let old : has s.places (get_or s.order k 0) ≡ true = lt-ltb _ _ (omega arith) in
              ap (λ y. get_or ys y 0) q.now ∙
              (get_or-set_other s.places c (get_or s.order k 0) s.placed 0 (λ z. both_ways _ f.free (subst (λ y. has s.places y ≡ true) z old)) ∙ at)
        ];
        sends_off = fr.sends_off;
        sends = fr.sends;
        water_fits = grind (arith, fr.below c, low c, fr.water_fits);
        few = λ k b.
            let e : s.queued - 1 + 2 * (s.placed + 1) ≡ (s.queued + 2 * s.placed) + 1 = omega arith in
            omega (arith, ap (λ y. k * y) e, po.few k (omega arith), fr.few k b);
      }

  -- the turn has begun: the cells of `left` are to be told
  pub take_mid : (left : List ℕ) → ((x : ℕ) → x < l.cells → l.next x (first_cell s) ≡ true → among x left ≡ true) → Mid l (taken s) (first_cell s) (first_level s) left
  unfolding taken
  take_mid left all =
      let c = first_cell s in
      let f = f_is in
      let le = fits l s w fr in
      let lv = first_level_is l few s w fr some in
      let p' = has (set s.places c s.placed) in
      let same = get_or-set_same s.places c s.placed 0 (omega (arith, fr.long.places, f.cell)) in
      let placed : p' c ≡ true = rw same (lt-ltb s.placed none (omega (arith, f.cell))) in
      let st : Take l (has s.places) (has s.levels) (flow_of s) s.placed c p' (flow_of (taken s)) = record {
        cell = f.cell;
        free = f.free;
        queued = f.seen;
        first = foremost l few s w fr some;
        placed = placed;
        others = λ x e. ap (λ y. ltb y none) (get_or-set_other s.places c x s.placed 0 e);
        level = λ x. refl;
        to = λ x. refl;
        far = same;
        fars = λ x e. get_or-set_other s.places c x s.placed 0 e;
      } in
      record {
        frame = take_frame;
        filled =
            let F : ℕ → ℕ → Type 0 = λ u k. Filled l p' (flow_of (taken s)) u k in
            subst (F (first_level s)) (sym (add-one s.placed)) (subst (λ u. F u (suc s.placed)) lv (take_filled l _ _ _ w s.placed c p' (flow_of (taken s)) good.filled (good.waits c) st));
        cell = f.cell;
        placed = placed;
        level = lv;
        last = ap (λ y. y + 1) same;
        telling = take_telling l _ _ _ w s.placed c p' (flow_of (taken s)) good.filled (good.waits c) st left all;
        chosen = take_chosen l _ _ _ w s.placed c p' (flow_of (taken s)) good.filled (good.waits c) good.chosen st;
      }
