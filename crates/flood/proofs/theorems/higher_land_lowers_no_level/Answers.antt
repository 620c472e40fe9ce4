use Rattle.flood.proofs.Comparing.{rising}
use Rattle.flood.proofs.theorems.higher_land_lowers_no_level.Goals as goal

pub returns : goal.returns
returns c = rising
