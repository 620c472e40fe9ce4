-- The last state is right.
use Rattle.std.proofs.Common.{◌≡◌, ℕ, ◌+◌, ◌*◌, ◌<◌, ◌≤◌, true, cond, eqb, ◌∷◌, get_or, sym, refl, ap, ◌∙◌, inl, inr, arith, eq-eqb, ne_eqb}
use Rattle.std.proofs.lemmas.Bool.{cases_Bool, or_left, or_right}
use Rattle.model.specs.Land.{Land}
use Rattle.model.specs.Grid.{among}
use Rattle.flood.specs.Certified.{Certified}
use Rattle.flood.specs.Ordered.{Ordered}
use Rattle.flood.specs.Run.{ground_of, none, State, after, table, flow_of, first_cell}
use Rattle.flood.specs.Right.{Lined, Right, RunRight, RunGoesOn, NeverLowered}
use Rattle.flood.proofs.Sums.{sum_ones, sum_less}
use Rattle.flood.proofs.Certificate.{certified_drains}
use Rattle.flood.proofs.Filling.{all_certified}
use Rattle.flood.proofs.Kept.{has, Frame, Good}
use Rattle.flood.proofs.Putting.{fits}
use Rattle.flood.proofs.Spreading.{wants_first}
use Rattle.flood.proofs.First.{first_stands}
use Rattle.model.proofs.Neighbours.{among_append}
use Rattle.flood.proofs.Reaching.{some_stand, turn_mid, around_near, reached}

module _ (l : Land) (few : l.cells ≤ none) (s : State) (w : ℕ) (good : Good l s w) (last : s.placed ≡ l.cells) where
  fr : Frame l s w
  fr = good.frame

  -- every cell has a place, and so a level
  placed : (c : ℕ) → c < l.cells → has s.places c ≡ true
  placed c a = elim (cases_Bool (has s.places c)) [
    | inl q ↦ q
    | inr q ↦
        let h : ℕ → ℕ = λ c. cond (has s.places c) 1 0 in
        let each : (x : ℕ) → x < l.cells → h x ≤ 1 = λ x _. elim (cases_Bool (has s.places x)) [ inl i ↦ rw i (omega arith) | inr i ↦ rw i (omega arith) ] in
        let here : h c < 1 = rw q (omega arith) in
        absurd (omega (arith, fr.count, sum_ones l.cells, sum_less h (λ _. 1) l.cells c each a here))
  ]

  leveled : (c : ℕ) → c < l.cells → has s.levels c ≡ true
  leveled c a = fr.level c a (placed c a)

  -- where each sends says whether it sends off
  off : (c : ℕ) → c < l.cells → eqb (get_or s.flow c 0) none ≡ l.leaves c
  off c a = elim (cases_Bool (l.leaves c)) [
    | inl o ↦ eq-eqb _ _ (fr.sends_off c a (leveled c a) o) ∙ sym o
    | inr o ↦ ne_eqb _ _ (λ z. omega (arith, fr.sends c a (leveled c a) o)) ∙ sym o
  ]

  is_lined : Lined l.cells s
  is_lined =
      let cell : (k : ℕ) → k < l.cells → get_or s.order k 0 < l.cells = λ k a. fr.cell_at k (omega arith) in
      let back : (k : ℕ) → k < l.cells → get_or s.places (get_or s.order k 0) 0 ≡ k = λ k a. fr.place_at k (omega arith) in
      record {
        place = λ c a. omega (arith, good.filled.early c a (placed c a));
        cell = cell;
        cell_at_place = λ c a. fr.listed c a (placed c a);
        place_of_cell = back;
        rising = λ j k a b.
            let i : j < l.cells = omega arith in
            good.filled.rising _ _ (cell j i) (placed _ (cell j i)) (cell k b) (placed _ (cell k b)) (omega (arith, back j i, back k b));
      }

  is_ordered : Ordered l (flow_of s)
  is_ordered = record {
    places = record {
      within = is_lined.place;
      apart = λ c d a b e. sym (is_lined.cell_at_place c a) ∙ (ap (λ y. get_or s.order y 0) e ∙ is_lined.cell_at_place d b);
      each = λ k a. (get_or s.order k 0, is_lined.cell k a, is_lined.place_of_cell k a);
    };
    may = λ c a. elim (cases_Bool (l.leaves c)) [
      | inl o ↦ inl o
      | inr o ↦
          let to = good.filled.goes c a (placed c a) o in
          inr (record { by = get_or s.flow c 0; cell = to.inside; next = to.beside; early = good.filled.nearer c a (placed c a) o })
    ];
    earliest = λ c d a b o e. good.chosen.earliest c d a (leveled c a) o b (placed d b) e;
    lowest = λ c d a b e may. good.chosen.lowest c d a (placed c a) b (leveled d b) (λ _. e) (elim may [
      | inl o ↦ inl o
      | inr u ↦ elim (cases_Bool (l.leaves d)) [
        | inl o ↦ inl o
        | inr o ↦ inr (omega (arith, u.early, good.chosen.earliest d u.by b (leveled d b) o u.cell (placed u.by u.cell) u.next))
      ]
    ]);
  }

  is_certified : Certified l (flow_of s)
  is_certified = all_certified l _ (flow_of s) w s.placed good.filled placed off

  pub last_right : Right l s
  last_right = record {
    drained = certified_drains l (flow_of s) is_certified;
    certified = is_certified;
    ordered = is_ordered;
    lined = is_lined;
    empty = omega (arith, fits l s w fr);
    all = last;
    once = λ c a. fr.once c a ∙ rw (leveled c a);
    few = λ k a. let e : s.queued + 2 * s.placed ≡ 2 * l.cells = omega (arith, fits l s w fr) in omega (arith, ap (λ y. k * y) e, fr.few k a);
  }

pub run_right : RunRight
run_right l around fair = let r = reached l around fair l.cells (omega arith) in last_right l fair.few (table (ground_of l around)) r.0 r.1.good r.1.turns

pub run_goes_on : RunGoesOn
run_goes_on l around fair k a =
    let r = reached l around fair k (omega arith) in
    let i = r.1.turns in
    (some_stand l around fair (after (ground_of l around) k) r.0 r.1.good (omega arith), i)

pub never_lowered : NeverLowered
never_lowered l around fair k a done left d e =
    let s = after (ground_of l around) k in
    let r = reached l around fair k (omega arith) in
    let some = (run_goes_on l around fair k a).0 in
    let c = first_cell s in
    let b = (first_stands l fair.few s r.0 r.1.good.frame some).cell in
    let here : among d (around c) ≡ true = ap (among d) e ∙ (among_append d done (d ∷ left) ∙ or_right _ _ (or_left _ _ (eq-eqb d d refl))) in
    let mid = turn_mid l around fair s r.0 r.1.good some done (d ∷ left) e in
    wants_first l around _ _ d mid.frame (around_near l around fair c b d here).0
