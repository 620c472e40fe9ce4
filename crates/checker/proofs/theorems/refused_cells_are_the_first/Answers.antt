use Rattle.checker.proofs.FirstBad.{first_is_first}
use Rattle.checker.proofs.theorems.refused_cells_are_the_first.Goals as goal

pub returns : goal.returns
returns c = first_is_first
