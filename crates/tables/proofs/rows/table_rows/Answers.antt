use Rattle.std.proofs.Common.{[], ◌-◌, ◌*◌, ◌++◌, length, drop, vec_items, sym, ap, ◌∙◌, arith, length-append, length-drop}
use Rattle.std.proofs.lemmas.List.{take_all}
use Rattle.amounts.specs.Joined.{joined}
use Rattle.amounts.specs.Row.{row_bytes}
use Rattle.tables.proofs.Texts.{joined_more}
use Rattle.tables.proofs.Values.{values_next, values_end}
use Rattle.tables.proofs.rows.table_rows.Goals as goal

pub loop-level-init : goal.loop-level-init
loop-level-init c =
    let n = length c.args.slices.now.levels.now in
    let work = c.args.slices.now.work.now in
    let l = c.requires.long in
    let places = length-drop (2 * n) work in
    let whole = take_all (length work - 2 * n) (drop (2 * n) work) (omega arith) in
    record {
      reads = record { levels_read = cc; flow_read = cc; places_read = cc; amounts_read = cc; long = (omega arith, omega arith, omega arith) };
      rows = c.in_ok-table.ensures.items;
    }

pub overflow_cast-row : goal.overflow_cast-row
overflow_cast-row c =
    let next = values_next _ _ _ _ _ c.loop-level.invariant.reads c.loop-level.yielded _ c.next.new.self c.next.result _ c.loop-level.yielded_by c.in-Some.is c.next.ensures.steps in
    let low = c.requires.places (length c.loop-level.yielded) next.0 in
    let e = ap (λ p. p.0.1) next.1 in
    omega arith

pub loop-level-preserved : goal.loop-level-preserved
loop-level-preserved c =
    let next = values_next _ _ _ _ _ c.loop-level.invariant.reads c.loop-level.yielded _ c.next.new.self c.next.result _ c.loop-level.yielded_by c.in-Some.is c.next.ensures.steps in
    let row = ap (λ s. row_bytes c.in-Some.level.now s c.in-Some.place.now c.in-Some.amount.now) c.from.ensures.1 ∙ ap (λ p. row_bytes p.0.0.0 p.0.0.1 p.0.1 p.1) next.1 in
    let more = c.in_ok-extend_from_slice.ensures.items ∙ ap (λ bs. vec_items c.loop-level.table ++ bs) (c.to_bytes.ensures ∙ row) in
    record {
      reads = c.loop-level.invariant.reads;
      rows = joined_more [] _ _ _ (length c.loop-level.yielded) c.loop-level.invariant.rows more ∙ ap (joined _) (sym (length-append c.loop-level.yielded _));
    }

pub returns : goal.returns
returns c =
    let end = values_end _ _ _ _ _ c.loop-level.invariant.reads c.loop-level.yielded _ c.next.new.self c.next.result c.loop-level.yielded_by c.in-None.is c.next.ensures.steps in
    c.loop-level.invariant.rows ∙ ap (joined _) end
