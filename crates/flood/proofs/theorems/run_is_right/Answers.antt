use Rattle.flood.proofs.Ending.{run_right}
use Rattle.flood.proofs.theorems.run_is_right.Goals as goal

pub returns : goal.returns
returns c = run_right
