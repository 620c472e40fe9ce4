use Rattle.amounts.proofs.Carrying.{bounded, rain_bounded}
use Rattle.amounts.proofs.theorems.amounts_are_bounded.Goals as goal

pub returns : goal.returns
returns c = record { amounts = bounded; rain = rain_bounded }
