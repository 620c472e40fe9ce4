use Rattle.model.proofs.Taken.{formed}
use Rattle.flood.proofs.Written.{flooded}
use Rattle.flood.proofs.flooding.flood.Goals as goal

pub returns-clause-after : goal.returns-clause-after
returns-clause-after c =
    let bs = c.args.model.now.bytes.now in
    let e = c.flood_all.ensures in
    flooded bs (formed bs c.args.model.now.taken) _ _ _ _ _ _ _ _ c.cells-n.ensures e.levels e.flow e.work e.looks
