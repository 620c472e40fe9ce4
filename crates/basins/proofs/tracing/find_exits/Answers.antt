use Rattle.std.proofs.Common.{◌≡◌, ◌≤◌, ◌-◌, ◌*◌, length, take, drop, arith}
use Rattle.std.proofs.lemmas.Bool.Decides.{nat_tests}
use Rattle.std.proofs.lemmas.Grind.{common_steps}
use Rattle.model.specs.Bytes.{count}
use Rattle.model.proofs.Taken.{formed}
use Rattle.basins.proofs.Steps.{traced}
use Rattle.basins.proofs.tracing.find_exits.Goals as goal

pub returns-clause-after : goal.returns-clause-after
returns-clause-after c =
    let bs = c.args.model.now.bytes.now in
    let n = c.cells-n.ensures in
    let i = c.cells-n.result in
    let long : length (take (2 * i - i) (drop i c.args.work.now)) ≡ count bs = grind (arith, common_steps) in
    let fits : count bs ≤ length c.args.exits.now = grind (arith, nat_tests) in
    traced bs (formed bs c.args.model.now.taken) c.args.flow.now c.args.work.now c.args.exits.now fits _ (grind (arith, common_steps))
