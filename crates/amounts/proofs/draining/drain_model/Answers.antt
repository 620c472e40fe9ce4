-- The flood's lists are handed on, and what is promised follows from what they hold.
use Rattle.model.specs.Slices.{lists_of}
use Rattle.model.proofs.Taken.{formed}
use Rattle.amounts.proofs.Promised.{pourable, promised}
use Rattle.amounts.proofs.draining.drain_model.Goals as goal

pub pour-requires-clause-order : goal.pour-requires-clause-order
pour-requires-clause-order c =
    let bs = c.args.model.now.bytes.now in
    (pourable bs (formed bs c.args.model.now.taken) _ _ _ _ _ _ c.in_ok-looks.ensures.after.written).1

pub returns-clause-after : goal.returns-clause-after
returns-clause-after c =
    let bs = c.args.model.now.bytes.now in
    let p = c.pour.ensures in
    promised bs (formed bs c.args.model.now.taken) (lists_of c.args.slices.now) _ c.pour.result _ c.in_ok-looks.ensures.after p.looks p.amounts p.rain p.leaves
