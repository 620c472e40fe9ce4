use Rattle.flood.proofs.Models.{models_right}
use Rattle.flood.proofs.theorems.models_are_right.Goals as goal

pub returns : goal.returns
returns c = models_right
