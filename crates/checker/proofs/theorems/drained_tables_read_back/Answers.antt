use Rattle.checker.proofs.DrainedTable.{drained_reads_back}
use Rattle.checker.proofs.theorems.drained_tables_read_back.Goals as goal

pub returns : goal.returns
returns c = drained_reads_back
