use Rattle.std.proofs.Common.{◌≡◌, ◌-◌, length}
use Rattle.model.specs.Bytes.{count}
use Rattle.model.specs.OfModel.{bytes_of}
use Rattle.model.specs.Terrain.{land}
use Rattle.flood.specs.Flooded.{table_of}
use Rattle.amounts.specs.Accumulation.{accumulated, rains}
use Rattle.amounts.proofs.passing.carry.Given as goal

-- so many cells have passed their amounts on
abbrev pub invariant-loop-cell : goal.invariant-loop-cell
invariant-loop-cell l =
    l.amounts ≡
    accumulated (table_of (bytes_of l.model)).flow (table_of (bytes_of l.model)).order (rains (land (bytes_of l.model))) (length l.yielded) (count (bytes_of l.model) - length l.yielded)
