use Rattle.model.proofs.Positions.{every_cell_has_a_way}
use Rattle.model.proofs.theorems.every_cell_has_a_way.Goals as goal

pub returns : goal.returns
returns c = every_cell_has_a_way
