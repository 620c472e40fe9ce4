use Rattle.std.proofs.Common.{rules}
use Rattle.amounts.specs.Accumulation.{passed_on}
use Rattle.amounts.proofs.passing.pass_on.Goals as goal

pub returns-in-To : goal.returns-in-To
unfolding passed_on
returns-in-To c = search rules

pub returns-in_default : goal.returns-in_default
unfolding passed_on
returns-in_default c = search rules
