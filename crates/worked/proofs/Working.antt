-- What follows of the levels of a worked model from running the rule on it.
use Rattle.std.proofs.Common.{◌*◌, ◌<◌, get_or, sym, subst, ap₂}
use Rattle.model.specs.Terrain.{terrain, land}
use Rattle.model.proofs.Taken.{well_formed}
use Rattle.flood.specs.Levels.{Level}
use Rattle.flood.proofs.Models.{models_right}
use Rattle.flood.proofs.Turns.{sound}
use Rattle.worked.specs.Models.{Worked, file}
use Rattle.worked.specs.Promises.{Computed, AsWorkedOut}

-- levels that the rule gives are the lowest
pub worked_out : (m : Worked) → Computed m → AsWorkedOut m
worked_out m k =
    let right = models_right (terrain (file m)) (sound (file m) (well_formed (file m) k.taken)) in
    record {
      computed = k;
      lowest = λ c a.
          subst (λ ls. Level (land (file m)) c (get_or ls c 0)) k.levels (right.drained.level c (subst (λ n. c < n) (sym (ap₂ ◌*◌ k.wide k.tall)) a));
    }
