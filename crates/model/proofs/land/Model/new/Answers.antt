use Rattle.std.proofs.Common.{is_some, ap}
use Rattle.model.proofs.Taken.{well_formed}
use Rattle.model.proofs.land.Model.new.Goals as goal

pub invariant_of-result : goal.invariant_of-result
invariant_of-result c = record { w = c.requires.sized.w; h = c.requires.sized.h; long = (well_formed c.args.bytes.now c.requires.taken).long; taken = ap is_some c.requires.taken }
