use Rattle.std.proofs.Common.{rules}
use Rattle.model.specs.Bytes.{two}
use Rattle.model.proofs.reading.read_head.Goals as goal

pub returns-clause-fault : goal.returns-clause-fault
unfolding two
returns-clause-fault c = search rules

pub returns-clause-grid : goal.returns-clause-grid
unfolding two
returns-clause-grid c = search rules
