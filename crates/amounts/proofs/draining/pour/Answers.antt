-- What leaves is what the flow and the amounts add up to.
use Rattle.std.proofs.Common.{◌∙◌, ◌-◌, arith}
use Rattle.model.proofs.Taken.{formed}
use Rattle.amounts.proofs.Promised.{leaves_read, leaves_low}
use Rattle.amounts.proofs.draining.pour.Goals as goal

pub leaving-requires-clause-fits : goal.leaving-requires-clause-fits
leaving-requires-clause-fits c =
    let bs = c.args.model.now.bytes.now in
    let wf = formed bs c.args.model.now.taken in
    omega (arith, leaves_read bs wf c.args.flow.now c.args.amounts.now c.carry.new.amounts (c.cells-n.result - 0) (omega (arith, c.cells-n.ensures)) c.requires.flow c.carry.ensures, leaves_low bs wf)

pub returns-clause-leaves : goal.returns-clause-leaves
returns-clause-leaves c =
    let bs = c.args.model.now.bytes.now in
    let wf = formed bs c.args.model.now.taken in
    c.leaving.ensures ∙ leaves_read bs wf c.args.flow.now c.args.amounts.now c.carry.new.amounts (c.cells-n.result - 0) (omega (arith, c.cells-n.ensures)) c.requires.flow c.carry.ensures
