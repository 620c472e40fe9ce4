-- The ground of the code's model.
use Rattle.std.specs.Prelude.{ℕ, List, take}
use Rattle.model.specs.Bytes.{columns, rows}
use Rattle.model.specs.Grid.{neighbours, four_sides}
use Rattle.model.specs.declared.land.Model.{Model}
use Rattle.model.specs.OfModel.{bytes_of}
use Rattle.model.specs.Terrain.{terrain}
use Rattle.flood.specs.Run.{Ground, State, first_cell, first_level, taken, spread, after}
use Rattle.flood.specs.Fair.{model_ground}

-- what the rule reads of the bytes of a model
abbrev pub ground : Model → Ground
ground m = model_ground (terrain (bytes_of m))

-- in the turn after k turns, the state in which the neighbours by the first i steps are told
abbrev pub told_sides : List ℕ → ℕ → ℕ → State
told_sides bs k i =
    let g = model_ground (terrain bs) in
    let s = after g k in
    spread g (first_cell s) (first_level s) (neighbours (columns bs) (rows bs) (take i four_sides) (first_cell s)) (taken s)
