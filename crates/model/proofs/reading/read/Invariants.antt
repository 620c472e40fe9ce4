use Rattle.std.proofs.Common.{◌≡◌, ◌-◌}
use Rattle.model.specs.Faults.{cells_fault}
use Rattle.model.specs.Of.{cells}
use Rattle.model.proofs.reading.read.Given as goal

abbrev pub invariant-loop-c : goal.invariant-loop-c
invariant-loop-c l = cells_fault l.bytes 0 (cells l.grid) ≡ cells_fault l.bytes l.c (cells l.grid - l.c)
