use Rattle.model.proofs.Taken.{taken_if_well_formed}
use Rattle.model.proofs.theorems.taken_if_well_formed.Goals as goal

pub returns : goal.returns
returns c = taken_if_well_formed
