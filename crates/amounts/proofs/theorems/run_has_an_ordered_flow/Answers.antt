use Rattle.amounts.proofs.Accumulating.{run_ordered}
use Rattle.amounts.proofs.theorems.run_has_an_ordered_flow.Goals as goal

pub returns : goal.returns
returns c = run_ordered
