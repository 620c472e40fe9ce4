use Rattle.flood.proofs.Comparing.{only_levels}
use Rattle.flood.proofs.theorems.levels_are_the_only_ones.Goals as goal

pub returns : goal.returns
returns c = only_levels
