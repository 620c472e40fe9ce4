use Rattle.std.proofs.Common.{arith}
use Rattle.std.proofs.lemmas.Grind.{common_steps}
use Rattle.changes.proofs.text.line.change_named.Goals as goal

pub returns-in-height : goal.returns-in-height
returns-in-height c = grind (arith, common_steps)
