use Rattle.flood.proofs.Moving.{mirror_levels}
use Rattle.flood.proofs.theorems.mirroring_changes_no_level.Goals as goal

pub returns : goal.returns
returns c = mirror_levels
