use Rattle.amounts.proofs.Carrying.{some_amounts}
use Rattle.amounts.proofs.theorems.amounts_exist.Goals as goal

pub returns : goal.returns
returns c = some_amounts
