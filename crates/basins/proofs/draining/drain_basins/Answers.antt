use Rattle.std.proofs.Common.{◌≤◌, length, arith}
use Rattle.std.proofs.lemmas.Bool.Decides.{nat_tests}
use Rattle.model.specs.Bytes.{count}
use Rattle.model.proofs.Taken.{formed}
use Rattle.basins.proofs.Listing.{never_short, promised}
use Rattle.basins.proofs.draining.drain_basins.Goals as goal

pub returns-in_err-find_basins : goal.returns-in_err-find_basins
returns-in_err-find_basins c =
    let bs = c.args.model.now.bytes.now in
    let in_exits : count bs ≤ length c.args.exits.now = grind (arith, nat_tests) in
    let in_cells : count bs ≤ length c.args.cells.now = grind (arith, nat_tests) in
    absurd (never_short bs (formed bs c.args.model.now.taken) _ _ c.in_ok-drained.drained c.in_ok-drained.ensures.after _ _ in_exits in_cells _ c.in_err-find_basins.ensures.refused)

pub returns-clause-after : goal.returns-clause-after
returns-clause-after c =
    let bs = c.args.model.now.bytes.now in
    let in_cells : count bs ≤ length c.args.cells.now = grind (arith, nat_tests) in
    promised bs (formed bs c.args.model.now.taken) _ _ c.in_ok-drained.drained c.in_ok-drained.ensures.after _ _ _ _ c.in_ok-find_basins.ensures.after (omega arith)
