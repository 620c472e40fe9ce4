use Rattle.model.specs.OfModel.{bytes_of}
use Rattle.amounts.specs.Promise.{flow_in}
use Rattle.changes.proofs.OnWay.{OnWay}
use Rattle.changes.proofs.moving.move_amounts.Given as goal

abbrev pub invariant-way : goal.invariant-way
invariant-way l = OnWay (bytes_of l.model) l.initial.amounts l.amounts l.initial.at.0 l.at.0 l.touched l.old.0 l.new.0

abbrev pub decreases-way : goal.decreases-way
decreases-way l = (flow_in (bytes_of l.model)).far l.at.0
