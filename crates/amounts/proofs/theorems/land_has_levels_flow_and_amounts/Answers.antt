use Rattle.amounts.proofs.Carrying.{always}
use Rattle.amounts.proofs.theorems.land_has_levels_flow_and_amounts.Goals as goal

pub returns : goal.returns
returns c = always
