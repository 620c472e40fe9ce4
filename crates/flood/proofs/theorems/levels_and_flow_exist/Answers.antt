use Rattle.flood.proofs.Existing.{levels_exist}
use Rattle.flood.proofs.theorems.levels_and_flow_exist.Goals as goal

pub returns : goal.returns
returns c = levels_exist
