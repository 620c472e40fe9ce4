use Rattle.amounts.proofs.RowBytes.{rows_read_back}
use Rattle.amounts.proofs.theorems.rows_read_back.Goals as goal

pub returns : goal.returns
returns c = rows_read_back
