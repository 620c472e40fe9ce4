use Rattle.basins.proofs.Exits.{one_basin, exit_in_basin, flow_stays_in_basin, no_exit_no_basin}
use Rattle.basins.proofs.theorems.basins_part_the_land.Goals as goal

pub returns : goal.returns
returns c = record { one = one_basin; exit = exit_in_basin; flow = flow_stays_in_basin; no_other = no_exit_no_basin }
