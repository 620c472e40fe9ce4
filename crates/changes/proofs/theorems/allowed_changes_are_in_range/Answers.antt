use Rattle.changes.proofs.Meant.{allowed_if_in_range, refused_changes_nothing}
use Rattle.changes.proofs.theorems.allowed_changes_are_in_range.Goals as goal

pub returns : goal.returns
returns c = record { range = allowed_if_in_range; refused = refused_changes_nothing }
