use Rattle.basins.proofs.Following.{ways_lead}
use Rattle.basins.proofs.theorems.ways_lead_down_to_exits.Goals as goal

pub returns : goal.returns
returns c = ways_lead
