use Rattle.std.proofs.Common.{refl}
use Rattle.std.specs.Fmt.{digits}
use Rattle.model.specs.Bytes.{two, four}
use Rattle.queue.specs.Heap.{rise, sink}
use Rattle.flood.specs.Run.{blank, put, begun, taken, told, spread, after}
use Rattle.amounts.specs.Accumulation.{passed_on, accumulated}
use Rattle.worked.specs.Models.{file}
use Rattle.worked.proofs.spill_example_prints_three_lines.Goals as goal

pub returns : goal.returns
unfolding file two four rise sink blank put begun taken told spread after passed_on accumulated digits
returns c = refl
