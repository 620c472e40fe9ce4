use Rattle.flood.proofs.Ending.{never_lowered}
use Rattle.flood.proofs.theorems.run_lowers_no_level.Goals as goal

pub returns : goal.returns
returns c = never_lowered
