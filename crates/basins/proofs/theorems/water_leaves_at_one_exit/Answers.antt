use Rattle.basins.proofs.Exits.{one_exit, exits_are_outlets}
use Rattle.basins.proofs.theorems.water_leaves_at_one_exit.Goals as goal

pub returns : goal.returns
returns c = record { one = one_exit; outlet = exits_are_outlets }
