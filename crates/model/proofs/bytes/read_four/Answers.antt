use Rattle.std.proofs.Common.{rules}
use Rattle.model.specs.Bytes.{four}
use Rattle.model.proofs.bytes.read_four.Goals as goal

pub returns : goal.returns
unfolding four
returns c = search rules
