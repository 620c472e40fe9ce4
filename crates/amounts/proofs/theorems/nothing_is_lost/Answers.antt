use Rattle.amounts.proofs.Carrying.{nothing_lost}
use Rattle.amounts.proofs.theorems.nothing_is_lost.Goals as goal

pub returns : goal.returns
returns c = nothing_lost
