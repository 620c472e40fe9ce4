use Rattle.std.proofs.Common.{◌≡◌, ◌-◌, length, get_or, sym, ap, ◌∙◌, subst, arith}
use Rattle.std.proofs.Math.Nat.{sub_self}
use Rattle.std.proofs.lemmas.List.{length-reverse, length_push}
use Rattle.std.proofs.lemmas.Iterator.Adapters.{YieldsList-from_rev_slice}
use Rattle.std.proofs.lemmas.Iterator.Consumers.{YieldsList-turn, YieldsList-end}
use Rattle.model.specs.Bytes.{count}
use Rattle.model.specs.Terrain.{land}
use Rattle.model.proofs.Taken.{formed}
use Rattle.flood.specs.Flooded.{table_of}
use Rattle.amounts.specs.Accumulation.{passed_on, accumulated, rains}
use Rattle.amounts.proofs.Passes.{table_long, Passable, passable, from_end, pass_more}
use Rattle.amounts.proofs.passing.carry.Goals as goal

pub loop-cell-init : goal.loop-cell-init
unfolding accumulated
loop-cell-init c = c.rain_all.ensures

pub pass_on-requires : goal.pass_on-requires
pass_on-requires c =
    let bs = c.args.model.now.bytes.now in
    let wf = formed bs c.args.model.now.taken in
    let n : length c.args.order.now ≡ count bs = ap length c.requires.order ∙ (table_long bs wf).order in
    let t = YieldsList-turn (YieldsList-from_rev_slice c.args.order.now cc) c.loop-cell.yielded _ c.loop-cell.yielded_by _ _ c.in-Some.cell c.in-Some.is c.next.ensures.steps in
    let at = from_end c.args.order.now (count bs) (length c.loop-cell.yielded) c.in-Some.cell.now n t.0 t.1 in
    let p = passable bs wf c.loop-cell.amounts (length c.loop-cell.yielded) at.0 c.loop-cell.invariant in
    let by_order = subst (λ o. Passable (table_of bs).flow c.loop-cell.amounts (get_or o (count bs - 1 - length c.loop-cell.yielded) 0)) (sym c.requires.order) p in
    let by_cell = subst (λ x. Passable (table_of bs).flow c.loop-cell.amounts x) (sym at.1) by_order in
    let by_flow = subst (λ f. Passable f c.loop-cell.amounts c.in-Some.cell.now) (sym c.requires.flow) by_cell in
    record { cell = (by_flow.in_flow, by_flow.in_amounts); sum = by_flow.sum }

pub loop-cell-preserved : goal.loop-cell-preserved
loop-cell-preserved c =
    let bs = c.args.model.now.bytes.now in
    let s = table_of bs in
    let n : length c.args.order.now ≡ count bs = ap length c.requires.order ∙ (table_long bs (formed bs c.args.model.now.taken)).order in
    let t = YieldsList-turn (YieldsList-from_rev_slice c.args.order.now cc) c.loop-cell.yielded _ c.loop-cell.yielded_by _ _ c.in-Some.cell c.in-Some.is c.next.ensures.steps in
    let at = from_end c.args.order.now (count bs) (length c.loop-cell.yielded) c.in-Some.cell.now n t.0 t.1 in
    let passed = c.pass_on.ensures ∙ (ap (λ f. passed_on f c.in-Some.cell.now c.loop-cell.amounts) c.requires.flow ∙
    ap (λ x. passed_on s.flow x c.loop-cell.amounts) (at.1 ∙ ap (λ o. get_or o (count bs - 1 - length c.loop-cell.yielded) 0) c.requires.order))
    in
    let more = pass_more s.flow s.order (rains (land bs)) c.loop-cell.amounts c.pass_on.new.amounts (count bs) (length c.loop-cell.yielded) at.0 c.loop-cell.invariant passed in
    rw (length_push c.loop-cell.yielded c.in-Some.cell) more

pub returns : goal.returns
returns c =
    let bs = c.args.model.now.bytes.now in
    let s = table_of bs in
    let n : length c.args.order.now ≡ count bs = ap length c.requires.order ∙ (table_long bs (formed bs c.args.model.now.taken)).order in
    let t = YieldsList-end (YieldsList-from_rev_slice c.args.order.now cc) c.loop-cell.yielded _ c.loop-cell.yielded_by _ _ c.in-None.is c.next.ensures.steps in
    let all : length c.loop-cell.yielded ≡ count bs = omega (arith, t.1, length-reverse c.args.order.now, n) in
    c.loop-cell.invariant ∙ (ap (λ d. accumulated s.flow s.order (rains (land bs)) d (count bs - d)) all ∙ ap (accumulated s.flow s.order (rains (land bs)) (count bs)) (sub_self (count bs)))
