use Rattle.amounts.proofs.Carrying.{only_amounts}
use Rattle.amounts.proofs.theorems.amounts_are_the_only_ones.Goals as goal

pub returns : goal.returns
returns c = only_amounts
