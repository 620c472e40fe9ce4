use Rattle.basins.proofs.Bounding.{walk_ends_off, walk_long_enough}
use Rattle.basins.proofs.Walking.{walk_finds_exit}
use Rattle.basins.proofs.theorems.walks_find_exits.Goals as goal

pub returns : goal.returns
returns c = record { exit = walk_finds_exit; off = walk_ends_off; long_enough = walk_long_enough }
