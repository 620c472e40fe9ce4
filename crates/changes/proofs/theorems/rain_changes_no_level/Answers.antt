use Rattle.changes.proofs.Meant.{rain_changes_no_level}
use Rattle.changes.proofs.theorems.rain_changes_no_level.Goals as goal

pub returns : goal.returns
returns c = rain_changes_no_level
