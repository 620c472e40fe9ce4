use Rattle.checker.proofs.DrainedTable.{drained_accepted}
use Rattle.checker.proofs.theorems.drained_tables_are_accepted.Goals as goal

pub returns : goal.returns
returns c = drained_accepted
