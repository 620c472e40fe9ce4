use Rattle.std.proofs.Common.{arith}
use Rattle.std.proofs.lemmas.List.FromFn.{fill_by_all}
use Rattle.model.specs.Terrain.{land}
use Rattle.amounts.proofs.passing.rain_all.Goals as goal

pub returns : goal.returns
returns c =
    let l = land c.args.model.now.bytes.now in
    fill_by_all l.rain c.loop-c.amounts l.cells 0 (omega arith) (λ k a. c.loop-c.invariant k (omega arith))
