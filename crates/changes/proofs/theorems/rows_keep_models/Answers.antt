use Rattle.changes.proofs.Meant.{rows_keep_models}
use Rattle.changes.proofs.theorems.rows_keep_models.Goals as goal

pub returns : goal.returns
returns c = rows_keep_models
