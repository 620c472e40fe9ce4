use Rattle.flood.proofs.Comparing.{numbering}
use Rattle.flood.proofs.theorems.numbering_changes_no_level.Goals as goal

pub returns : goal.returns
returns c = numbering
