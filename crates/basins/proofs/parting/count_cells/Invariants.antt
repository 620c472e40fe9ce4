use Rattle.std.proofs.Common.{◌≡◌, ℕ, ◌<◌, length, get_or}
use Rattle.basins.specs.Parting.{cells_at}
use Rattle.basins.proofs.parting.count_cells.Given as goal

-- the cells before this one are counted
abbrev pub invariant-loop-exit : goal.invariant-loop-exit
invariant-loop-exit l = (e : ℕ) → e < length l.cells → get_or l.cells e 0 ≡ cells_at l.exits e l.exit-index
