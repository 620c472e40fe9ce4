-- Draining a model and finding its basins in one call: what is refused, and what is promised.
use Rattle.std.specs.Prelude.{◌≡◌, ℕ, ◌<◌, cond, List, length, Some, None, Option, nat_lt}
use Rattle.std.specs.Option.{option_map}
use Rattle.model.specs.Bytes.{count}
use Rattle.model.specs.Slices.{Contents}
use Rattle.model.specs.Terrain.{land}
use Rattle.amounts.specs.declared.answer.Drained.{Drained}
use Rattle.amounts.specs.Draining.{room_fault, Unchanged}
use Rattle.amounts.specs.Promise.{flow_in, Promise}
use Rattle.basins.specs.declared.parting.Basin.{Basin}
use Rattle.basins.specs.declared.short.Short.TheVariants.{Exits, Cells}
use Rattle.basins.specs.declared.short.Refused.{Refused}
use Rattle.basins.specs.declared.short.Refused.TheVariants.{Drain, Basins}
use Rattle.basins.specs.Exits.{basin_sum}
use Rattle.basins.specs.Parting.{basin_at, Parted, BasinsFound}

-- the first slice that is too short for n cells: those of the basins, then those of draining
abbrev pub drain_basins_fault : ℕ → Contents → (exits cells : List ℕ) → Option Refused
drain_basins_fault n s exits cells =
    cond (nat_lt (length exits) n) (Some (Basins Exits))
    (cond (nat_lt (length cells) n) (Some (Basins Cells)) (option_map Drain (room_fault n s)))

-- the basin of e in a model: how many cells send their water there, and the rain on them
abbrev pub basin_of : List ℕ → ℕ → Basin
basin_of bs e = record {
  outlet = record { 0 = e };
  cells = basin_sum (flow_in bs) (λ _. 1) e (count bs);
  amount = record { 0 = basin_sum (flow_in bs) (land bs).rain e (count bs) };
}

-- THE MAIN PROMISE of basins
pub record BasinsPromise (bs : List ℕ) (old new : Contents) (exits cells exits' cells' : List ℕ) (d : Drained) : Type 0 where
  -- the model is drained, and the slices of the basins hold just what was found
  pub drained : Promise bs old new d
  pub found : BasinsFound bs new.flow new.work exits cells exits' cells'
  -- these are the basins, and what is read for each cell is the basin of an exit, none of any other
  pub parted : Parted bs exits' cells'
  pub listed : (e : ℕ) → e < count bs → basin_at new.flow new.amounts cells' e ≡ cond ((flow_in bs).off e) (Some (basin_of bs e)) None

-- nothing is written
pub record Untouched (old new : Contents) (exits cells exits' cells' : List ℕ) : Type 0 where
  pub same : Unchanged old new
  pub same_exits : exits' ≡ exits
  pub same_cells : cells' ≡ cells
