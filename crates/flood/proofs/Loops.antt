-- What holds at each turn of the flood's two loops, and that each way through a turn keeps it.
use Rattle.std.proofs.Common.{◌≡◌, ℕ, zero, suc, ◌+◌, ◌-◌, ◌<◌, ◌≤◌, max, ltb, cond, List, map, length, get_or, Some, None, Option, sym, refl, ap, ◌∙◌, subst, add-one, arith, lt-ltb}
use Rattle.std.proofs.lemmas.Bool.{cond-true}
use Rattle.std.specs.Option.{option_map}
use Rattle.model.specs.declared.grid.Grid.{Grid}
use Rattle.model.specs.declared.land.Model.{Model}
use Rattle.model.specs.declared.steps.Step.{Step}
use Rattle.model.specs.declared.units.Cell.{Cell}
use Rattle.model.specs.Bytes.{columns, rows, count}
use Rattle.model.specs.Grid.{stepped, four_sides}
use Rattle.model.specs.Of.{number, neighbour, neighbour_in}
use Rattle.model.specs.OfModel.{bytes_of}
use Rattle.model.specs.Terrain.{land}
use Rattle.model.specs.WellFormed.{WellFormed}
use Rattle.model.proofs.Taken.{formed}
use Rattle.queue.specs.declared.Entry.{Entry}
use Rattle.queue.specs.declared.Queue.{Queue}
use Rattle.queue.specs.Heap.{cell_of}
use Rattle.flood.specs.declared.flooding.Run.{Run}
use Rattle.flood.specs.Run.{Ground, none, put, taken, first_cell, first_level, spread, after, table}
use Rattle.flood.specs.Held.{Holds}
use Rattle.flood.specs.Of.{ground, told_sides}
use Rattle.flood.specs.Steps.{Leads, Empty, Taken}
use Rattle.flood.proofs.Sides.{first_step, sides_lead}
use Rattle.flood.proofs.Turns.{Room, between, first_cell_in, told_long, told_placed, tell_none, cell_in, tell_has, tell_room, tell_put, turn_done}

-- as many turns are done as cells have places
pub record Turned (m : Model) (r : Run) (q : Queue) : Type 0 where
  pub within : r.placed ≤ count (bytes_of m)
  pub holds : Holds (after (ground m) r.placed) r q

-- in the turn after k turns e is taken, and the neighbours of its cell by the first i steps are told
pub record Telling (m : Model) (k : ℕ) (r : Run) (q : Queue) (e : Entry) (sides : List (Option Cell)) (i : ℕ) : Type 0 where
  pub more : k < count (bytes_of m)
  pub cell_is : e.cell.0 ≡ first_cell (after (ground m) k)
  pub level_is : e.level.0 ≡ first_level (after (ground m) k)
  pub leads : (j : ℕ) → j < 4 → option_map number (get_or sides j None) ≡ neighbour_in (bytes_of m) (get_or four_sides j first_step) e.cell
  pub holds : Holds (told_sides (bytes_of m) k i) r q

-- the step over side i
side_at : (i : ℕ) (s t : Step) → i < 4 → get_or four_sides i s ≡ get_or four_sides i t
side_at zero s t l = refl
side_at (suc zero) s t l = refl
side_at (suc (suc zero)) s t l = refl
side_at (suc (suc (suc zero))) s t l = refl
side_at (suc (suc (suc (suc i)))) s t l = absurd (omega arith)

module _ (m : Model) where
  abbrev bs : List ℕ
  bs = bytes_of m

  wf : WellFormed bs
  wf = formed bs m.taken

  abbrev g : Ground
  g = ground m

  -- before a turn: the first entry is a cell of the model, and there is a place for it
  pub turn_room : (r : Run) (q : Queue) → Turned m r q → 0 < q.len → (cell_of (get_or q.words.now 0 0) < length r.places.now) × (r.placed < length r.order.now)
  turn_room r q t some =
      let b = between bs wf r.placed r q t.within t.holds in
      let more = b.goes some in
      let cell = subst (λ x. x < count bs) (sym (ap first_cell t.holds)) (first_cell_in bs wf r.placed more) in
      (omega (arith, cell, b.places), omega (arith, more, b.order))

  pub turn_few : (r : Run) (q : Queue) → Turned m r q → (q.len ≤ 800000) × (q.len ≤ length q.words.now) × (r.looks < 2147483648)
  turn_few r q t = (between bs wf r.placed r q t.within t.holds).few

  module _ (r r' : Run) (q q' : Queue) (e : Entry) (t : Turned m r q) (o : Taken r r' q q' e) where
    pub turn_counted : r'.placed ≡ r.placed + 1
    unfolding taken
    turn_counted = ap (λ x. x.placed) (o.leads (after g r.placed) t.holds) ∙ ap (λ x. x + 1) (sym (ap (λ x. x.placed) t.holds))

    -- a turn begins: an entry is taken
    pub turn_begins : (grid : Grid) (sides : List (Option Cell)) → grid ≡ m.grid → map (option_map number) sides ≡ map (λ s. neighbour grid s e.cell) four_sides →
        Telling m (r'.placed - 1) r' q' e sides 0
    unfolding spread
    turn_begins grid sides of all =
        let k : r.placed ≡ r'.placed - 1 = omega (arith, turn_counted) in
        subst (λ x. Telling m x r' q' e sides 0) k (record {
          more = (between bs wf r.placed r q t.within t.holds).goes o.some;
          cell_is = o.cell _ t.holds;
          level_is = o.level _ t.holds;
          leads = sides_lead m grid e.cell sides of all;
          holds = o.leads _ t.holds;
        })

  module _ (k : ℕ) (r : Run) (q : Queue) (e : Entry) (sides : List (Option Cell)) (i : ℕ) (t : Telling m k r q e sides i) where
    -- k + 1 cells have places in it
    pub turn_places : r.placed ≡ k + 1
    turn_places = ap (λ x. x.placed) t.holds ∙ told_placed bs wf k t.more i

    module _ (l : i < 4) where
      abbrev step : Step
      step = get_or four_sides i first_step

      e_at : step ≡ get_or four_sides i step
      e_at = side_at i _ _ l

      -- where the step leads from the cell
      led : (o : Option Cell) → get_or sides i None ≡ o → stepped (columns bs) (rows bs) step (first_cell (after g k)) ≡ option_map number o
      led o is =
          let inside = subst (λ x. x < count bs) (sym t.cell_is) (first_cell_in bs wf k t.more) in
          ap (stepped (columns bs) (rows bs) step) (sym t.cell_is) ∙ (sym (t.leads i l ∙ cond-true (ltb e.cell.0 (count bs)) _ _ (lt-ltb e.cell.0 (count bs) inside)) ∙ ap (option_map number) is)

      -- there is no neighbour on this side
      pub side_none : get_or sides i None ≡ None → Telling m k r q e sides (i + 1)
      side_none is = record { more = t.more; cell_is = t.cell_is; level_is = t.level_is; leads = t.leads; holds = tell_none bs wf k t.more i step r q l e_at (led None is) t.holds }

      module _ (next : Cell) (is : get_or sides i None ≡ Some next) where
        at : stepped (columns bs) (rows bs) step (first_cell (after g k)) ≡ Some next.0
        at = led (Some next) is

        inside : next.0 < count bs
        inside = cell_in bs wf k t.more i step next.0 l e_at at

        pub side_in : next.0 < length r.levels.now
        side_in = omega (arith, inside, ap (λ x. length x.levels) t.holds, (told_long bs wf k t.more i).levels)

        -- the neighbour has a level
        pub side_has : (get_or r.levels.now next.0 0 ≡ none → ⊥) → Telling m k r q e sides (i + 1)
        side_has has_level = record { more = t.more; cell_is = t.cell_is; level_is = t.level_is; leads = t.leads; holds = tell_has bs wf k t.more i step next.0 l e_at at r q has_level t.holds }

        -- it has none, and there is room for it
        pub side_room : get_or r.levels.now next.0 0 ≡ none → Room r q next.0
        side_room new = tell_room bs wf k t.more i step next.0 l e_at at r q new t.holds

        -- it is put into the queue
        pub side_put : (r' : Run) (q' : Queue) (h v : ℕ) → get_or r.levels.now next.0 0 ≡ none → h ≡ cond (ltb next.0 (count bs)) ((land bs).height next.0) 0 → v ≡ max h e.level.0 →
            Leads (put v e.cell.0 next.0) r r' q q' → Telling m k r' q' e sides (i + 1)
        side_put r' q' h v new height high leads =
            let s = told_sides bs k i in
            let offered : v ≡ max ((land bs).height next.0) (first_level (after g k)) =
            high ∙ (ap (λ x. max x e.level.0) (height ∙ cond-true (ltb next.0 (count bs)) _ _ (lt-ltb next.0 (count bs) inside)) ∙ ap (max ((land bs).height next.0)) t.level_is)
            in
            let sent = subst (λ x. Holds (put (max ((land bs).height next.0) (first_level (after g k))) x next.0 s) r' q') t.cell_is (subst (λ x. Holds (put x e.cell.0 next.0 s) r' q') offered (leads s t.holds)) in
            record { more = t.more; cell_is = t.cell_is; level_is = t.level_is; leads = t.leads; holds = tell_put bs wf k t.more i step next.0 l e_at at r r' q q' new t.holds sent }

  -- a turn ends
  pub turn_ends : (k : ℕ) (r : Run) (q : Queue) (e : Entry) (sides : List (Option Cell)) → Telling m k r q e sides 4 → Turned m r q
  turn_ends k r q e sides t =
      let placed = turn_places k r q e sides 4 t in
      record {
        within = omega (arith, placed, t.more);
        holds = subst (λ x. Holds (after g x) r q) (sym (placed ∙ add-one k)) (turn_done bs wf k t.more r q t.holds);
      }

  -- before the first turn
  pub none_turned : (r : Run) (q : Queue) → Holds (after g 0) r q → Turned m r q
  none_turned r q h =
      let k = (between bs wf 0 r q (omega arith) h).placed in
      record { within = omega (arith, k); holds = subst (λ x. Holds (after g x) r q) (sym k) h }

  -- the queue is empty: all turns are done
  pub all_turned : (r r' : Run) (q q' : Queue) → Turned m r q → Empty r r' q q' → Holds (table g) r' q'
  all_turned r r' q q' t o =
      let all = (between bs wf r.placed r q t.within t.holds).ends o.none_left in
      subst (λ x. Holds (after g x) r' q') all (o.same _ t.holds)
