use Rattle.changes.proofs.Numerals.{written_numbers_read_back}
use Rattle.changes.proofs.theorems.written_numbers_read_back.Goals as goal

pub returns : goal.returns
returns c = written_numbers_read_back
