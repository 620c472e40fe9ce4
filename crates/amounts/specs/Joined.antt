-- Lists of bytes one after another, for cells in the order of numbers.
use Rattle.std.specs.Prelude.{ℕ, zero, suc, List, [], ◌++◌, slice_index}
use Rattle.amounts.specs.Row.{row_bytes}

-- what is said of the cells below n
abbrev pub joined : (ℕ → List ℕ) → ℕ → List ℕ
joined said zero = []
joined said (suc n) = joined said n ++ said n

-- the row of cell c, by lists of levels, flow, places and amounts
abbrev pub row_from : (levels flow places amounts : List ℕ) → ℕ → List ℕ
row_from levels flow places amounts c = row_bytes (slice_index levels c) (slice_index flow c) (slice_index places c) (slice_index amounts c)
