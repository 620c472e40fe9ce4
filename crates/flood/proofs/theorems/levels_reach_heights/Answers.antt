use Rattle.flood.proofs.Comparing.{above}
use Rattle.flood.proofs.theorems.levels_reach_heights.Goals as goal

pub returns : goal.returns
returns c = above
