use Rattle.basins.proofs.Basins.{exit_amount}
use Rattle.basins.proofs.theorems.exit_amount_is_basin_rain.Goals as goal

pub returns : goal.returns
returns c = exit_amount
