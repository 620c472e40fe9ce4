use Rattle.std.proofs.Common.{◌≡◌, ℕ, ◌<◌, get_or}
use Rattle.model.specs.OfModel.{bytes_of}
use Rattle.model.specs.Terrain.{land}
use Rattle.amounts.proofs.passing.rain_all.Given as goal

abbrev pub invariant-loop-c : goal.invariant-loop-c
invariant-loop-c l = (k : ℕ) → k < l.c → get_or l.amounts k 0 ≡ (land (bytes_of l.model)).rain k
