use Rattle.std.proofs.Common.{◌≡◌, ◌-◌, length}
use Rattle.basins.specs.Walks.{walked, exit_of}
use Rattle.basins.proofs.tracing.exit_of.Given as goal

-- the rest of the walk finds what the whole walk finds
abbrev pub invariant-loop-step : goal.invariant-loop-step
invariant-loop-step l = exit_of l.flow (length l.flow) l.initial.at.0 ≡ walked l.flow (length l.flow) (length l.flow - l._step) l.at.0
