use Rattle.basins.proofs.Basins.{basins_have_all_rain, basins_have_all_cells}
use Rattle.basins.proofs.theorems.basins_add_up.Goals as goal

pub returns : goal.returns
returns c = record { rain = basins_have_all_rain; cells = basins_have_all_cells }
