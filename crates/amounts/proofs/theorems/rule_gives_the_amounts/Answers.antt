use Rattle.amounts.proofs.Accumulating.{rule_adds_up}
use Rattle.amounts.proofs.theorems.rule_gives_the_amounts.Goals as goal

pub returns : goal.returns
returns c = rule_adds_up
