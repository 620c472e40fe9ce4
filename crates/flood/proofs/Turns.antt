-- What the program may do at each state of a model's run, and which state it holds then.
use Rattle.std.proofs.Common.{◌≡◌, ℕ, suc, ◌+◌, ◌<◌, ◌≤◌, max, true, false, eqb, List, [], ◌∷◌, ◌++◌, length, get_or, take, drop, Some, None, sym, refl, ap, ◌∙◌, subst, inl, inr, append_assoc, append-nil, add-one, arith, take-append-drop, le-ltb, eq-eqb, ne_eqb}
use Rattle.std.proofs.lemmas.List.{take_more}
use Rattle.std.proofs.lemmas.Bool.{cond-true, cond-false, cases_lt, cases_Bool}
use Rattle.std.specs.Option.{option_to_list}
use Rattle.model.specs.declared.steps.Step.{Step}
use Rattle.model.specs.Bytes.{columns, rows, count}
use Rattle.model.specs.Grid.{stepped, neighbours, four_sides}
use Rattle.model.specs.Terrain.{terrain, land}
use Rattle.model.specs.WellFormed.{WellFormed}
use Rattle.model.proofs.Neighbours.{stepped_in}
use Rattle.queue.specs.declared.Queue.{Queue}
use Rattle.flood.specs.declared.flooding.Run.{Run}
use Rattle.flood.specs.Run.{Ground, none, State, put, begun, taken, first_cell, first_level, wants, told, spread, after}
use Rattle.flood.specs.Fair.{Fair, Sound, sides_of, model_ground}
use Rattle.flood.specs.Held.{Holds}
use Rattle.flood.proofs.Kept.{has, Long, Frame, Good, Mid}
use Rattle.flood.proofs.Putting.{fits, room}
use Rattle.flood.proofs.Beginning.{begun_all}
use Rattle.flood.proofs.First.{first_stands}
use Rattle.flood.proofs.Spreading.{wants_first}
use Rattle.flood.proofs.Reaching.{spread_placed, reached, turn_mid}
use Rattle.flood.proofs.Ending.{run_goes_on}
use Rattle.flood.proofs.Models.{few_cells, models_fair}

-- telling one cell more
pub spread_append : (g : Ground) (c v : ℕ) (ds es : List ℕ) (s : State) → spread g c v (ds ++ es) s ≡ spread g c v es (spread g c v ds s)
unfolding spread
spread_append g c v [] es s = refl
spread_append g c v (d ∷ ds) es s = spread_append g c v ds es (told g c v d s)

spread_one : (g : Ground) (c v d : ℕ) (ds : List ℕ) (s : State) → spread g c v (ds ++ (d ∷ [])) s ≡ told g c v d (spread g c v ds s)
unfolding spread
spread_one g c v d ds s = spread_append g c v ds (d ∷ []) s

-- the neighbours by a table of steps that goes on
neighbours_append : (w h : ℕ) (xs ys : List Step) (c : ℕ) → neighbours w h (xs ++ ys) c ≡ neighbours w h xs c ++ neighbours w h ys c
neighbours_append w h [] ys c = refl
neighbours_append w h (s ∷ xs) ys c = ap (λ ds. option_to_list (stepped w h s c) ++ ds) (neighbours_append w h xs ys c) ∙ sym (append_assoc (option_to_list (stepped w h s c)) (neighbours w h xs c) (neighbours w h ys c))

pub one_step_more : (w h k c : ℕ) (s : Step) → k < 4 → s ≡ get_or four_sides k s → neighbours w h (take (k + 1) four_sides) c ≡ neighbours w h (take k four_sides) c ++ option_to_list (stepped w h s c)
one_step_more w h k c s l e =
    ap (λ xs. neighbours w h xs c) (take_more four_sides k s l) ∙ (neighbours_append w h (take k four_sides) (get_or four_sides k s ∷ []) c ∙
    ap (λ ds. neighbours w h (take k four_sides) c ++ ds) (append-nil (option_to_list (stepped w h (get_or four_sides k s) c)) ∙ ap (λ x. option_to_list (stepped w h x c)) (sym e)))

-- what a put of cell d needs
pub record Room (r : Run) (q : Queue) (d : ℕ) : Type 0 where
  pub cell : (d < length r.levels.now) × (d < length r.flow.now)
  pub room : q.len < length q.words.now
  pub few : (q.len ≤ 800000) × (r.looks < 2147483648)

module _ (bs : List ℕ) (wf : WellFormed bs) where
  pub sound : Sound (terrain bs)
  sound = record { wide = wf.wide.1; tall = wf.tall.1; low = wf.heights }

  pub fair : Fair (land bs) (sides_of (terrain bs))
  fair = models_fair (terrain bs) sound

  pub small : count bs ≤ 160000
  small = few_cells (terrain bs) sound

  -- few looks are made
  few_looks : (s : State) (w : ℕ) → Frame (land bs) s w → s.looks < 2147483648
  few_looks s w fr = omega (arith, small, fits (land bs) s w fr, fr.few 20 (omega (arith, small)))

  abbrev g : Ground
  g = model_ground (terrain bs)

  -- slices that hold a state in which cell d has no level yet
  room_for : (s : State) (w d : ℕ) (r : Run) (q : Queue) → Frame (land bs) s w → d < count bs → has s.levels d ≡ false → Holds s r q → Room r q d
  room_for s w d r q fr a new h =
      let fewer = room (land bs) s w d fr a new in
      let len = ap (λ t. t.queued) h in
      record {
        cell = (omega (arith, a, ap (λ t. length t.levels) h, fr.long.levels), omega (arith, a, ap (λ t. length t.flow) h, fr.long.flow));
        room = omega (arith, fewer, len, ap (λ t. length t.queue) h, fr.long.queue);
        few = (omega (arith, small, fewer, len), omega (arith, few_looks s w fr, ap (λ t. t.looks) h));
      }

  -- the outlets are put into the queue
  pub begin_room : (k : ℕ) (r : Run) (q : Queue) → k < count bs → Holds (begun g k) r q → Room r q k
  begin_room k r q a h =
      let b = begun_all (land bs) (sides_of (terrain bs)) fair.low k (omega arith) in
      room_for (begun g k) 0 k r q b.frame a (elim (cases_Bool (has (begun g k).levels k)) [ inl e ↦ absurd (omega (arith, b.before k a e)) | inr e ↦ e ]) h

  pub begin_skip : (k : ℕ) (r : Run) (q : Queue) → (land bs).leaves k ≡ false → Holds (begun g k) r q → Holds (begun g (k + 1)) r q
  unfolding begun
  begin_skip k r q e h = subst (λ s. Holds s r q) (sym (ap (begun g) (add-one k) ∙ cond-false ((land bs).leaves k) _ _ e)) h

  pub begin_put : (k : ℕ) (r : Run) (q : Queue) → (land bs).leaves k ≡ true → Holds (put ((land bs).height k) none k (begun g k)) r q → Holds (begun g (k + 1)) r q
  unfolding begun
  begin_put k r q e h = subst (λ s. Holds s r q) (sym (ap (begun g) (add-one k) ∙ cond-true ((land bs).leaves k) _ _ e)) h

  -- between turns, k of which are done
  pub record Between (k : ℕ) (r : Run) (q : Queue) : Type 0 where
    pub order : length r.order.now ≡ count bs
    pub places : length r.places.now ≡ count bs
    pub placed : r.placed ≡ k
    pub few : (q.len ≤ 800000) × (q.len ≤ length q.words.now) × (r.looks < 2147483648)
    pub goes : 0 < q.len → k < count bs
    pub ends : q.len ≡ 0 → k ≡ count bs

  pub between : (k : ℕ) (r : Run) (q : Queue) → k ≤ count bs → Holds (after g k) r q → Between k r q
  between k r q a h =
      let s = after g k in
      let at = reached (land bs) (sides_of (terrain bs)) fair k a in
      let fr = at.1.good.frame in
      let fit = fits (land bs) s at.0 fr in
      let len = ap (λ t. t.queued) h in
      record {
        order = ap (λ t. length t.order) h ∙ fr.long.order;
        places = ap (λ t. length t.places) h ∙ fr.long.places;
        placed = ap (λ t. t.placed) h ∙ at.1.turns;
        few = (omega (arith, small, fit, len), omega (arith, fit, len, ap (λ t. length t.queue) h, fr.long.queue), omega (arith, few_looks s at.0 fr, ap (λ t. t.looks) h));
        goes = λ some. omega (arith, fit, len, at.1.turns);
        ends = λ empty. elim (cases_lt k (count bs)) [
          | inl more ↦ absurd (omega (arith, len, (run_goes_on (land bs) (sides_of (terrain bs)) fair k more).0))
          | inr all ↦ omega arith
        ];
      }

  module _ (k : ℕ) (more : k < count bs) where
    abbrev s : State
    s = after g k

    abbrev c : ℕ
    c = first_cell s

    abbrev v : ℕ
    v = first_level s

    at : (w : ℕ) × Good (land bs) s w
    at = let r = reached (land bs) (sides_of (terrain bs)) fair k (omega arith) in (r.0, r.1.good)

    some : 0 < s.queued
    some = (run_goes_on (land bs) (sides_of (terrain bs)) fair k more).0

    pub first_cell_in : first_cell (after g k) < count bs
    first_cell_in = (first_stands (land bs) fair.few s at.0 at.1.frame some).cell

    -- the neighbours by the first i steps
    abbrev front : ℕ → List ℕ
    front i = neighbours (columns bs) (rows bs) (take i four_sides) c

    -- the state in which the neighbours by the first i steps are told
    abbrev pub told_to : ℕ → State
    told_to i = spread g c v (front i) (taken s)

    abbrev rest : ℕ → List ℕ
    rest i = neighbours (columns bs) (rows bs) (drop i four_sides) c

    -- all that holds in it
    told_mid : (i : ℕ) → Mid (land bs) (told_to i) c v (rest i)
    told_mid i = turn_mid (land bs) (sides_of (terrain bs)) fair s at.0 at.1 some (front i) (rest i)
        (ap (λ xs. neighbours (columns bs) (rows bs) xs c) (sym (take-append-drop i four_sides)) ∙ neighbours_append (columns bs) (rows bs) (take i four_sides) (drop i four_sides) c)

    pub told_long : (i : ℕ) → Long (count bs) (told_to i)
    told_long i = (told_mid i).frame.long

    pub told_placed : (i : ℕ) → (told_to i).placed ≡ k + 1
    unfolding taken
    told_placed i = spread_placed g c v (front i) (taken s) ∙ ap (λ x. x + 1) (reached (land bs) (sides_of (terrain bs)) fair k (omega arith)).1.turns

    -- a step leads to no cell, and nothing changes
    pub tell_none : (i : ℕ) (t : Step) (r : Run) (q : Queue) → i < 4 → t ≡ get_or four_sides i t → stepped (columns bs) (rows bs) t c ≡ None →
        Holds (told_to i) r q → Holds (told_to (i + 1)) r q
    tell_none i t r q l e nowhere h =
        subst (λ ds. Holds (spread g c v ds (taken s)) r q)
        (sym (one_step_more (columns bs) (rows bs) i c t l e ∙ (ap (λ o. front i ++ option_to_list o) nowhere ∙ append-nil (front i)))) h

    -- a step leads to cell d
    module _ (i : ℕ) (t : Step) (d : ℕ) (l : i < 4) (e : t ≡ get_or four_sides i t) (leads : stepped (columns bs) (rows bs) t c ≡ Some d) where
      pub told_more : told_to (i + 1) ≡ told g c v d (told_to i)
      told_more = ap (λ ds. spread g c v ds (taken s)) (one_step_more (columns bs) (rows bs) i c t l e ∙ ap (λ o. front i ++ option_to_list o) leads) ∙ spread_one g c v d (front i) (taken s)

      pub cell_in : d < count bs
      cell_in = stepped_in (columns bs) (rows bs) c d t leads

      wants_is : wants g v d (told_to i) ≡ eqb (get_or (told_to i).levels d 0) none
      wants_is = wants_first (land bs) (sides_of (terrain bs)) (told_to i) v d (told_mid i).frame cell_in

      -- that has a level, and nothing changes
      pub tell_has : (r : Run) (q : Queue) → (get_or r.levels.now d 0 ≡ none → ⊥) → Holds (told_to i) r q → Holds (told_to (i + 1)) r q
      unfolding told
      tell_has r q has_level h =
          let level = ap (λ x. get_or x.levels d 0) h in
          let same = told_more ∙ cond-false (wants g v d (told_to i)) _ _ (wants_is ∙ ne_eqb _ _ (λ e. has_level (level ∙ e))) in
          subst (λ x. Holds x r q) (sym same) h

      -- that has none, for which there is room
      pub tell_room : (r : Run) (q : Queue) → get_or r.levels.now d 0 ≡ none → Holds (told_to i) r q → Room r q d
      tell_room r q new h = room_for (told_to i) v d r q (told_mid i).frame cell_in (le-ltb _ _ (omega (arith, ap (λ x. get_or x.levels d 0) h))) h

      -- and which is put into the queue
      pub tell_put : (r r' : Run) (q q' : Queue) → get_or r.levels.now d 0 ≡ none → Holds (told_to i) r q →
          Holds (put (max ((land bs).height d) v) c d (told_to i)) r' q' → Holds (told_to (i + 1)) r' q'
      unfolding told
      tell_put r r' q q' new h after_put =
          let level = ap (λ x. get_or x.levels d 0) h in
          let same = told_more ∙ cond-true (wants g v d (told_to i)) _ _ (wants_is ∙ eq-eqb _ _ (sym level ∙ new)) in
          subst (λ x. Holds x r' q') (sym same) after_put

    -- all four are told: one turn more is done
    pub turn_done : (r : Run) (q : Queue) → Holds (told_to 4) r q → Holds (after g (suc k)) r q
    unfolding after
    turn_done r q h = h
