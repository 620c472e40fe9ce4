use Rattle.std.proofs.Common.{ℕ, ◌+◌, ◌-◌, length, get_or, set, sym, ap, subst, arith, length-append}
use Rattle.model.proofs.Taken.{formed}
use Rattle.amounts.proofs.Passes.{table_long}
use Rattle.amounts.specs.Promise.{flow_in}
use Rattle.changes.proofs.OnWay.{OnWay, few_touched, told_on, told_off, way_nearer, way_further, way_done}
use Rattle.changes.proofs.moving.move_amounts.Goals as goal

pub overflow_add-touched : goal.overflow_add-touched
overflow_add-touched c =
    let bs = c.args.model.now.bytes.now in
    omega (arith, few_touched bs (formed bs c.args.model.now.taken) _ _ _ _ _ _ _ c.requires.cell c.way.invariant)

pub bounds-flow-c : goal.bounds-flow-c
bounds-flow-c c =
    let bs = c.args.model.now.bytes.now in
    omega (arith, simp length-append at (ap length c.requires.flow), (table_long bs (formed bs c.args.model.now.taken)).flow, c.way.invariant.cell, c.index-c.ensures)

pub returns-in-Off : goal.returns-in-Off
returns-in-Off c =
    let bs = c.args.model.now.bytes.now in
    let wf = formed bs c.args.model.now.taken in
    let i = c.index-c.result in
    let w = subst (λ (x : ℕ). OnWay bs c.args.amounts.now c.way.amounts c.args.cell.0 x c.way.touched c.args.old.0 c.args.new.0) (sym c.index-c.ensures) c.way.invariant in
    let d = way_done bs wf _ c.way.amounts c.args.cell.0 i c.way.touched c.args.old.0 c.args.new.0 c.requires.cell w (told_off bs wf c.args.flow.now _ i w.cell c.requires.flow c.in-Off.ensures.0) in
    record { amounts = d.0; touched = d.1 }

pub way-smaller : goal.way-smaller
way-smaller c =
    let bs = c.args.model.now.bytes.now in
    let wf = formed bs c.args.model.now.taken in
    let i = c.index-c.result in
    let w = subst (λ (x : ℕ). OnWay bs c.args.amounts.now c.way.amounts c.args.cell.0 x c.way.touched c.args.old.0 c.args.new.0) (sym c.index-c.ensures) c.way.invariant in
    let on = told_on bs wf c.args.flow.now _ i w.cell c.requires.flow c.in-To.next c.in-To.ensures.0 in
    let n = way_nearer bs wf _ c.way.amounts c.args.cell.0 i c.way.touched c.args.old.0 c.args.new.0 c.requires.cell w on.0 in
    omega (arith, n, ap (flow_in bs).far on.1, ap (flow_in bs).far c.index-c.ensures)

pub way-preserved : goal.way-preserved
way-preserved c =
    let bs = c.args.model.now.bytes.now in
    let wf = formed bs c.args.model.now.taken in
    let i = c.index-c.result in
    let w = subst (λ (x : ℕ). OnWay bs c.args.amounts.now c.way.amounts c.args.cell.0 x c.way.touched c.args.old.0 c.args.new.0) (sym c.index-c.ensures) c.way.invariant in
    let on = told_on bs wf c.args.flow.now _ i w.cell c.requires.flow c.in-To.next c.in-To.ensures.0 in
    let f = way_further bs wf _ c.way.amounts c.args.cell.0 i c.way.touched c.args.old.0 c.args.new.0 c.requires.cell w on.0 in
    subst (λ (x : ℕ). OnWay bs c.args.amounts.now (set c.way.amounts i (get_or c.way.amounts i 0 + c.args.new.0 - c.args.old.0)) c.args.cell.0 x (c.way.touched + 1) c.args.old.0 c.args.new.0) (sym on.1) f
