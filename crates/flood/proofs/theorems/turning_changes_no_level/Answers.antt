use Rattle.flood.proofs.Moving.{quarter_levels}
use Rattle.flood.proofs.theorems.turning_changes_no_level.Goals as goal

pub returns : goal.returns
returns c = quarter_levels
