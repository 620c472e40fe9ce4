use Rattle.amounts.proofs.Carrying.{drained_acyclic}
use Rattle.amounts.proofs.theorems.drained_flow_is_acyclic.Goals as goal

pub returns : goal.returns
returns c = drained_acyclic
