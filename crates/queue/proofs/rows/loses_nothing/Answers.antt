use Rattle.queue.proofs.Operations.{loses_nothing, keeps_order, refuses_none}
use Rattle.queue.proofs.rows.loses_nothing.Goals as goal

pub returns : goal.returns
returns c = record { kept = loses_nothing; order = keeps_order; all = refuses_none }
