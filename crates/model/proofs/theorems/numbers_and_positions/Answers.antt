use Rattle.model.proofs.Positions.{numbers_and_positions}
use Rattle.model.proofs.theorems.numbers_and_positions.Goals as goal

pub returns : goal.returns
returns c = numbers_and_positions
