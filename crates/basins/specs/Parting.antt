-- Basins in lent slices: what is refused, what is written, and what that is where the other slices hold a drained model.
use Rattle.std.specs.Prelude.{◌≡◌, ℕ, ◌<◌, true, false, cond, ◌&&◌, List, ◌++◌, map, length, take, drop, Some, None, Option, ◌==◌, nat_lt, slice_index}
use Rattle.std.specs.List.{range_with_len}
use Rattle.model.specs.Bytes.{count}
use Rattle.model.specs.Terrain.{land}
use Rattle.flood.specs.Run.{none}
use Rattle.flood.specs.Sums.{sum}
use Rattle.amounts.specs.Amounts.{all_rain, all_off}
use Rattle.amounts.specs.Promise.{flow_in, amount_in}
use Rattle.basins.specs.declared.parting.Basin.{Basin}
use Rattle.basins.specs.declared.short.Short.{Short}
use Rattle.basins.specs.declared.short.Short.TheVariants.{Cells}
use Rattle.basins.specs.Exits.{exit, basin_sum}
use Rattle.basins.specs.Promises.{LeavesAtExit, InOneBasin}
use Rattle.basins.specs.Tracing.{exits_fault, exits_written, HoldsFlow}

-- of the cells numbered below n, the number of those with exit e
abbrev pub cells_at : (exits : List ℕ) → ℕ → ℕ → ℕ
cells_at exits e n = sum (λ c. cond (slice_index exits c == e) 1 0) n

-- that number of all cells, for each e
abbrev pub cells_of : (exits : List ℕ) → List ℕ
cells_of exits = map (λ e. cells_at exits e (length exits)) (range_with_len 0 (length exits))

-- the basin of cell c, if the slices have it and it sends off
abbrev pub basin_at : (flow amounts cells : List ℕ) → ℕ → Option Basin
basin_at flow amounts cells c =
    cond (((nat_lt c (length flow) && nat_lt c (length amounts)) && nat_lt c (length cells)) && slice_index flow c == none)
    (Some (record { outlet = record { 0 = c }; cells = slice_index cells c; amount = record { 0 = slice_index amounts c } })) None

-- the first slice that is too short for n cells
abbrev pub basins_fault : ℕ → (flow work exits cells : List ℕ) → Option Short
basins_fault n flow work exits cells = cond (nat_lt (length cells) n) (Some Cells) (exits_fault n flow work exits)

-- THE BASINS OF A DRAINED MODEL, by a list of each cell's exit and a list of the cells of each basin
pub record Parted (bs exits cells : List ℕ) : Type 0 where
  -- every cell's water leaves at exactly one exit, where water may leave
  pub exit_of_each : (c : ℕ) → c < count bs → slice_index exits c ≡ exit (flow_in bs) c
  pub one_exit : (c : ℕ) → c < count bs → LeavesAtExit (count bs) (flow_in bs) c
  pub outlet : (c : ℕ) → c < count bs → (land bs).leaves (slice_index exits c) ≡ true
  -- basins share no cell and hold all
  pub one_basin : (c : ℕ) → c < count bs → InOneBasin (count bs) (flow_in bs) c
  -- each cell has the number of the cells of its basin, 0 where it is no exit, and these add up to all cells
  pub cells_of_each : (e : ℕ) → e < count bs → slice_index cells e ≡ basin_sum (flow_in bs) (λ _. 1) e (count bs)
  pub no_exit_none : (e : ℕ) → e < count bs → (flow_in bs).off e ≡ false → slice_index cells e ≡ 0
  pub all_cells : sum (λ e. slice_index cells e) (count bs) ≡ count bs
  -- an exit's amount is the rain of its basin, and all that leaves at exits is all that rained
  pub amount_of_each : (e : ℕ) → e < count bs → (flow_in bs).off e ≡ true → amount_in bs e ≡ basin_sum (flow_in bs) (land bs).rain e (count bs)
  pub all_amounts : all_off (flow_in bs) (amount_in bs) (count bs) ≡ all_rain (land bs) (count bs)

-- what is written whatever the slices held, and that it is the basins where they hold a drained model
pub record BasinsFound (bs flow work exits cells exits' cells' : List ℕ) : Type 0 where
  pub exits_there : exits' ≡ exits_written (count bs) flow work exits
  pub cells_there : cells' ≡ cells_of (take (count bs) exits') ++ drop (count bs) cells
  pub parted : HoldsFlow bs flow work → Parted bs exits' cells'
