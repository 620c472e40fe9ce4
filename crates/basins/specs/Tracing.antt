-- Exits in a lent slice: what is refused, what is written, and what that is where the other slices hold a drained model.
use Rattle.std.specs.Prelude.{◌≡◌, ℕ, ◌*◌, ◌<◌, cond, List, ◌++◌, length, take, drop, Some, None, Option, nat_lt, slice_index}
use Rattle.model.specs.Bytes.{count}
use Rattle.flood.specs.Flooded.{table_of}
use Rattle.amounts.specs.Promise.{flow_in}
use Rattle.basins.specs.declared.short.Short.{Short}
use Rattle.basins.specs.declared.short.Short.TheVariants.{Flow, Work, Exits}
use Rattle.basins.specs.Exits.{exit}
use Rattle.basins.specs.Walks.{exits_after}

-- the first slice that is too short for n cells: the order stands in the second n words of work
abbrev pub exits_fault : ℕ → (flow work exits : List ℕ) → Option Short
exits_fault n flow work exits =
    cond (nat_lt (length flow) n) (Some Flow) (cond (nat_lt (length work) (2 * n)) (Some Work) (cond (nat_lt (length exits) n) (Some Exits) None))

-- what is written for n cells, whatever the slices held; the exits are as they were behind it
abbrev pub exits_written : ℕ → (flow work exits : List ℕ) → List ℕ
exits_written n flow work exits = exits_after (take n flow) (take n (drop n work)) (take n exits) n ++ drop n exits

-- slices that hold the flow and the order of a model, as draining leaves them
pub record HoldsFlow (bs flow work : List ℕ) : Type 0 where
  pub flow_part : take (count bs) flow ≡ (table_of bs).flow
  pub order_part : take (count bs) (drop (count bs) work) ≡ (table_of bs).order

-- THE EXITS of a model's cells: each cell's where the model was drained
pub record Traced (bs flow work exits exits' : List ℕ) : Type 0 where
  pub written : exits' ≡ exits_written (count bs) flow work exits
  pub found : HoldsFlow bs flow work → (c : ℕ) → c < count bs → slice_index exits' c ≡ exit (flow_in bs) c
