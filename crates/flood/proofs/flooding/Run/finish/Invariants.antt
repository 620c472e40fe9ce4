use Rattle.std.proofs.Common.{◌-◌}
use Rattle.model.specs.Bytes.{count}
use Rattle.model.specs.OfModel.{bytes_of}
use Rattle.flood.specs.Steps.{SameSlices}
use Rattle.flood.proofs.Loops.{Turned, Telling}
use Rattle.flood.proofs.flooding.Run.finish.Given as goal

abbrev pub invariant-cells : goal.invariant-cells
invariant-cells l = SameSlices l.initial.self l.self l.initial.queue l.queue × Turned l.model l.self l.queue

abbrev pub decreases-cells : goal.decreases-cells
decreases-cells l = count (bytes_of l.model) - l.self.placed

abbrev pub invariant-sides : goal.invariant-sides
invariant-sides l =
    SameSlices l.initial.self l.self l.initial.queue l.queue ×
    Telling l.model (l.initial.self.placed - 1) l.self l.queue l.taken l.side-items l.side-index
