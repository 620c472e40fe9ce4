use Rattle.amounts.proofs.Accumulating.{rule_keeps_length, rule_stays_below, rule_sums_fit}
use Rattle.amounts.proofs.theorems.rule_stays_in_bounds.Goals as goal

pub returns : goal.returns
returns c = record { length = rule_keeps_length; amounts = rule_stays_below; sums = rule_sums_fit }
