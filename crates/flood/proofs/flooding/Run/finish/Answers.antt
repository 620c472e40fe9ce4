-- Each way through the loops is one lemma of Loops.
use Rattle.std.proofs.Common.{◌≡◌, get_or, sym, ap, ◌∙◌, subst, arith}
use Rattle.flood.specs.Run.{none}
use Rattle.flood.proofs.Loops.{Telling, turn_room, turn_few, turn_counted, turn_begins, turn_places, side_none, side_in, side_has, side_room, side_put, turn_ends, none_turned, all_turned}
use Rattle.flood.proofs.Work.{same_at, same_after}
use Rattle.flood.proofs.flooding.Run.finish.Goals as goal

pub cells-init : goal.cells-init
cells-init c = (same_at c.args.self.now c.args.queue.now, none_turned c.args.model.now c.args.self.now c.args.queue.now c.requires)

pub take-requires : goal.take-requires
take-requires c =
    let t = c.cells.invariant.1 in
    record { cell = λ some. (turn_room _ _ _ t some).0; room = λ some. (turn_room _ _ _ t some).1; few = turn_few _ _ _ t }

pub sides-init : goal.sides-init
sides-init c =
    (same_at c.take.new.self c.take.new.queue, turn_begins _ _ _ _ _ _ c.cells.invariant.1 c.in-Some.ensures.taken _ _ c.grid.ensures c.neighbours-side-items.ensures)

pub cells-smaller : goal.cells-smaller
cells-smaller c =
    let t = c.sides.invariant.1 in
    omega (arith, turn_counted _ _ _ _ _ _ c.cells.invariant.1 c.in-Some.ensures.taken, turn_places _ _ _ _ _ _ _ t, t.more)

pub cells-preserved : goal.cells-preserved
cells-preserved c =
    let all : c.sides.side-index ≡ 4 = omega arith in
    let t = subst (Telling c.args.model.now _ c.sides.self c.sides.queue c.in-Some.taken _) all c.sides.invariant.1 in
    (same_after _ _ _ _ _ _ c.cells.invariant.0 (same_after _ _ _ _ _ _ c.in-Some.ensures.same c.sides.invariant.0), turn_ends _ _ _ _ _ _ t)

pub sides-preserved-in_default-side : goal.sides-preserved-in_default-side
sides-preserved-in_default-side c = (c.sides.invariant.0, side_none _ _ _ _ _ _ _ c.sides.invariant.1 c.sides-test.true c.in_default-side.is)

pub bounds-self-index : goal.bounds-self-index
bounds-self-index c = omega (arith, c.index.ensures, side_in _ _ _ _ _ _ _ c.sides.invariant.1 c.sides-test.true _ c.in-Some-side.is)

pub sides-preserved-then-self-index : goal.sides-preserved-then-self-index
sides-preserved-then-self-index c =
    let has_level : get_or c.sides.self.levels.now c.in-Some-side.next.0 0 ≡ none → ⊥ = λ e. c.if-self-index.true (ap (λ i. get_or c.sides.self.levels.now i 0) c.index.ensures ∙ e) in
    (c.sides.invariant.0, side_has _ _ _ _ _ _ _ c.sides.invariant.1 c.sides-test.true _ c.in-Some-side.is has_level)

pub put-requires : goal.put-requires
put-requires c =
    let new : get_or c.sides.self.levels.now c.in-Some-side.next.0 0 ≡ none = ap (λ i. get_or c.sides.self.levels.now i 0) (sym c.index.ensures) ∙ c.if-self-index.false in
    let r = side_room _ _ _ _ _ _ _ c.sides.invariant.1 c.sides-test.true _ c.in-Some-side.is new in
    record { cell = r.cell; room = r.room; few = r.few }

pub sides-preserved : goal.sides-preserved
sides-preserved c =
    let new : get_or c.sides.self.levels.now c.in-Some-side.next.0 0 ≡ none = ap (λ i. get_or c.sides.self.levels.now i 0) (sym c.index.ensures) ∙ c.if-self-index.false in (
      same_after _ _ _ _ _ _ c.sides.invariant.0 c.put.ensures.same,
      side_put _ _ _ _ _ _ _ c.sides.invariant.1 c.sides-test.true _ c.in-Some-side.is c.put.new.self c.put.new.queue _ _ new c.height_of.ensures c.higher-level.ensures c.put.ensures.put,
    )

pub returns-clause-table : goal.returns-clause-table
returns-clause-table c = all_turned _ _ _ _ _ c.cells.invariant.1 c.in_default.ensures.taken
