use Rattle.flood.proofs.Models.{rain_unread}
use Rattle.flood.proofs.theorems.rain_changes_nothing_of_the_run.Goals as goal

pub returns : goal.returns
returns c = rain_unread
