use Rattle.checker.proofs.Meaning.{accepted_if_right}
use Rattle.checker.proofs.theorems.accepted_if_right.Goals as goal

pub returns : goal.returns
returns c = accepted_if_right
