-- The old levels stay where the amounts will stand until the new ones are counted against them.
use Rattle.std.proofs.Common.{◌≡◌, ◌-◌, ◌≤◌, ◌++◌, length, ap, ◌∙◌, arith}
use Rattle.std.proofs.lemmas.Bool.Decides.{nat_tests}
use Rattle.model.specs.Bytes.{count}
use Rattle.model.specs.Slices.{lists_of}
use Rattle.model.proofs.Taken.{formed}
use Rattle.amounts.specs.Passing.{table_amounts}
use Rattle.amounts.proofs.Promised.{pourable, promised}
use Rattle.amounts.proofs.Redraining.{behind_kept, counted}
use Rattle.amounts.proofs.again.drain_again.Goals as goal

pub pour-drained-requires-clause-order : goal.pour-drained-requires-clause-order
pour-drained-requires-clause-order c =
    let bs = c.args.model.now.bytes.now in
    (pourable bs (formed bs c.args.model.now.taken) _ _ _ _ _ _ c.in_ok-looks.ensures.after.written).1

pub returns-clause-after : goal.returns-clause-after
returns-clause-after c =
    let bs = c.args.model.now.bytes.now in
    let wf = formed bs c.args.model.now.taken in
    let old = lists_of c.args.slices.now in
    let p = c.pour-drained.ensures in
    let same : c.cells-n.result - 0 ≡ count bs = omega (arith, c.cells-n.ensures) in
    let long : c.cells-n.result - 0 ≤ length old.levels = grind (arith, nat_tests) in
    record {
      promise = promised bs wf old _ c.pour-drained.result _ c.in_ok-looks.ensures.after p.looks (p.amounts ∙ ap (λ t. table_amounts bs ++ t) (behind_kept old.levels old.amounts c.keep_levels.new.before (c.cells-n.result - 0) (count bs) same long c.keep_levels.ensures)) p.rain p.leaves;
      changed = c.count_changed-changed.ensures ∙ counted old.levels c.flood.new.levels old.amounts c.keep_levels.new.before (c.cells-n.result - 0) (count bs) same long c.keep_levels.ensures;
    }
