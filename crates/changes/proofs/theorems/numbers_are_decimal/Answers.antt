use Rattle.changes.proofs.Numerals.{numbers_are_decimal}
use Rattle.changes.proofs.theorems.numbers_are_decimal.Goals as goal

pub returns : goal.returns
returns c = numbers_are_decimal
