use Rattle.flood.proofs.Certificate.{certified_drains}
use Rattle.flood.proofs.theorems.certificate_suffices.Goals as goal

pub returns : goal.returns
returns c = certified_drains
