use Rattle.changes.proofs.Meant.{changes_read_back}
use Rattle.changes.proofs.theorems.changes_read_back.Goals as goal

pub returns : goal.returns
returns c = changes_read_back
