use Rattle.flood.proofs.Models.{models_fair}
use Rattle.flood.proofs.theorems.models_are_fair.Goals as goal

pub returns : goal.returns
returns c = models_fair
