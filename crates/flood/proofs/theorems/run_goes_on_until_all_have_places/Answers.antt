use Rattle.flood.proofs.Ending.{run_goes_on}
use Rattle.flood.proofs.theorems.run_goes_on_until_all_have_places.Goals as goal

pub returns : goal.returns
returns c = run_goes_on
