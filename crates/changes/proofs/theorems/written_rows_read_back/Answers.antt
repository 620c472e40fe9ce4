use Rattle.changes.proofs.Rows.{written_rows_read_back}
use Rattle.changes.proofs.theorems.written_rows_read_back.Goals as goal

pub returns : goal.returns
returns c = written_rows_read_back
