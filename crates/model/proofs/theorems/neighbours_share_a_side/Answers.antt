use Rattle.model.proofs.Neighbours.{neighbours_share_a_side}
use Rattle.model.proofs.Positions.{adjacent_both_ways}
use Rattle.model.proofs.theorems.neighbours_share_a_side.Goals as goal

pub returns : goal.returns
returns c = record { sides = neighbours_share_a_side; both_ways = adjacent_both_ways }
