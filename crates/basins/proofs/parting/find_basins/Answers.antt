use Rattle.std.proofs.Common.{◌≤◌, length, arith}
use Rattle.std.proofs.lemmas.Bool.Decides.{nat_tests}
use Rattle.std.proofs.lemmas.Grind.{common_steps}
use Rattle.model.specs.Bytes.{count}
use Rattle.model.proofs.Taken.{formed}
use Rattle.basins.proofs.Drained.{basins_found}
use Rattle.basins.proofs.parting.find_basins.Goals as goal

pub returns-clause-after : goal.returns-clause-after
returns-clause-after c =
    let bs = c.args.model.now.bytes.now in
    let fits : count bs ≤ length c.args.exits.now = grind (arith, nat_tests, c.in_ok-find_exits.ensures.refused) in
    basins_found bs (formed bs c.args.model.now.taken) c.args.flow.now c.args.work.now c.args.exits.now c.args.cells.now c.find_exits.new.exits _
    (omega arith) c.in_ok-find_exits.ensures.after (grind (arith, common_steps))
