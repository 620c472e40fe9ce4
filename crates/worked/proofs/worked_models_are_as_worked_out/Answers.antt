-- The rule is run on the worked models by the check.
use Rattle.std.proofs.Common.{rules}
use Rattle.std.proofs.ByRecursion.{All-weaker}
use Rattle.model.specs.Bytes.{two, four}
use Rattle.model.specs.Faults.{cells_fault}
use Rattle.queue.specs.Heap.{rise, sink}
use Rattle.flood.specs.Run.{blank, put, begun, taken, told, spread, after}
use Rattle.amounts.specs.Accumulation.{passed_on, accumulated}
use Rattle.worked.specs.Models.{file, worked_models}
use Rattle.worked.specs.Promises.{Computed, AsWorkedOut}
use Rattle.worked.proofs.Working.{worked_out}
use Rattle.worked.proofs.worked_models_are_as_worked_out.Goals as goal

pub returns : goal.returns
unfolding file two four cells_fault rise sink blank put begun taken told spread after passed_on accumulated
returns c = All-weaker Computed AsWorkedOut worked_out worked_models (search rules)
