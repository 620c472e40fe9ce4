use Rattle.flood.proofs.Models.{models_few_looks}
use Rattle.flood.proofs.theorems.models_need_few_looks.Goals as goal

pub returns : goal.returns
returns c = models_few_looks
