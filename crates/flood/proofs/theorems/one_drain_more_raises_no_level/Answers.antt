use Rattle.flood.proofs.Comparing.{drain_more}
use Rattle.flood.proofs.theorems.one_drain_more_raises_no_level.Goals as goal

pub returns : goal.returns
returns c = drain_more
