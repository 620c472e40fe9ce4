use Rattle.flood.specs.Run.{begun}
use Rattle.flood.specs.Held.{Holds}
use Rattle.flood.specs.Of.{ground}
use Rattle.flood.specs.Steps.{SameSlices}
use Rattle.flood.proofs.flooding.Run.begin.Given as goal

-- the outlets numbered below c stand in the queue
abbrev pub invariant-outlets : goal.invariant-outlets
invariant-outlets l = SameSlices l.initial.self l.self l.initial.queue l.queue × Holds (begun (ground l.model) l.c) l.self l.queue
