-- What the code of the amounts reads in lists.
use Rattle.std.specs.Prelude.{ℕ, cond, ◌&&◌, List, length, ◌==◌, nat_lt, slice_index}
use Rattle.model.specs.Terrain.{land}
use Rattle.flood.specs.Flooded.{table_of}
use Rattle.flood.specs.Run.{none}
use Rattle.flood.specs.Sums.{sum}
use Rattle.flood.specs.declared.sends.Sends.{Sends}
use Rattle.flood.specs.declared.sends.Sends.TheVariants.{Off, To}
use Rattle.amounts.specs.Accumulation.{amounts_of}

-- what leaves the land of an amount that is sent there: all of it, or nothing
abbrev pub left_by : Sends → ℕ → ℕ
left_by Off amount = amount
left_by (To _) amount = 0

-- what leaves the land at cell c, by lists of flow and amounts: 0 where it does not send off, or is in none of them
abbrev pub leaves_at : List ℕ → List ℕ → ℕ → ℕ
leaves_at flow amounts c = cond ((nat_lt c (length flow) && nat_lt c (length amounts)) && slice_index flow c == none) (slice_index amounts c) 0

-- what leaves at the cells numbered below n
abbrev pub all_leaves : List ℕ → List ℕ → ℕ → ℕ
all_leaves flow amounts n = sum (leaves_at flow amounts) n

-- what the rule gives for the bytes of a model
abbrev pub table_amounts : List ℕ → List ℕ
table_amounts bs = amounts_of (land bs) (table_of bs).flow (table_of bs).order
