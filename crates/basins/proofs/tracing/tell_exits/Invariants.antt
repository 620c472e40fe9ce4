use Rattle.std.proofs.Common.{◌≡◌}
use Rattle.basins.specs.Walks.{exits_after}
use Rattle.basins.proofs.tracing.tell_exits.Given as goal

-- the cells with places before this one have their exits
abbrev pub invariant-loop-cell : goal.invariant-loop-cell
invariant-loop-cell l = l.exits ≡ exits_after l.flow l.order l.initial.exits l.cell-index
