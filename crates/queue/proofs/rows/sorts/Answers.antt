use Rattle.queue.proofs.Sorting.{sorts}
use Rattle.queue.proofs.rows.sorts.Goals as goal

pub returns : goal.returns
returns c = sorts
