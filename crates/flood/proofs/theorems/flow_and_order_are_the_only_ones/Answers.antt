use Rattle.flood.proofs.Only.{only_flow}
use Rattle.flood.proofs.theorems.flow_and_order_are_the_only_ones.Goals as goal

pub returns : goal.returns
returns c = only_flow
