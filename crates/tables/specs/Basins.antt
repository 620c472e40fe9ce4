-- The lines of a model's basins.
use Rattle.std.specs.Prelude.{ℕ, cond, List, [], ◌++◌, Some, None, codes, decimal, Option}
use Rattle.model.specs.Bytes.{count}
use Rattle.amounts.specs.Joined.{joined}
use Rattle.amounts.specs.Promise.{flow_in}
use Rattle.basins.specs.Draining.{basin_of}
use Rattle.basins.specs.declared.parting.Basin.{Basin}
use Rattle.tables.specs.Printing.{line}

-- an exit, how many cells its basin has, and what leaves there
abbrev pub basin_text : ℕ → ℕ → ℕ → List ℕ
basin_text cell cells amount = codes "exit " ++ (decimal cell ++ (codes " cells " ++ (decimal cells ++ (codes " amount " ++ decimal amount))))

abbrev pub basin_line : ℕ → ℕ → ℕ → List ℕ
basin_line cell cells amount = line (basin_text cell cells amount)

-- the line of a basin, if there is one
abbrev pub basin_if : Option Basin → List ℕ
basin_if None = []
basin_if (Some b) = basin_line b.outlet.0 b.cells b.amount.0

-- THE TEXT of a model's basins: a line for each exit, in the order of numbers, with the number of the cells of its basin and their rain
abbrev pub basins_text : List ℕ → List ℕ
basins_text bs = joined (λ e. basin_if (cond ((flow_in bs).off e) (Some (basin_of bs e)) None)) (count bs)
