use Rattle.std.proofs.Common.{get_or, arith}
use Rattle.basins.proofs.Counts.{count_low, count_all}
use Rattle.basins.proofs.parting.count_cells.Goals as goal

pub overflow_add-cells : goal.overflow_add-cells
overflow_add-cells c = omega (arith, count_low c.args.exits.now c.loop-exit.cells c.loop-exit.exit-index (get_or c.args.exits.now c.loop-exit.exit-index 0) c.loop-exit.invariant)

pub returns : goal.returns
returns c = count_all c.args.exits.now c.loop-exit.cells c.loop-exit.exit-index (omega arith) (omega arith) c.loop-exit.invariant
