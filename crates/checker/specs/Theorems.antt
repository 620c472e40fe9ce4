-- Which tables are accepted, and what a refusal says.
use Rattle.std.specs.Prelude.{◌≡◌, ℕ, ◌*◌, ◌<◌, Bool, true, false, List, length, Some, None, slice_index}
use Rattle.model.specs.Bytes.{count}
use Rattle.model.specs.WellFormed.{WellFormed}
use Rattle.flood.specs.Flooded.{table_of}
use Rattle.amounts.specs.Passing.{table_amounts}
use Rattle.amounts.specs.Promise.{table_bytes}
use Rattle.amounts.specs.Row.{row_size, level_at, sends_at, place_at, amount_at}
use Rattle.checker.specs.Accepted.{Right}
use Rattle.checker.specs.Faults.{first_bad, check_fault}

-- THE FIRST of n cells of which something does not hold is one of them, and it holds of every cell before
abbrev pub FirstIsFirst : Type 0
FirstIsFirst = (ok : ℕ → Bool) (n c : ℕ) → first_bad ok 0 n ≡ Some c → (c < n) × (ok c ≡ false) × ((d : ℕ) → d < c → ok d ≡ true)

-- A TABLE IS ACCEPTED if and only if it is right
abbrev pub AcceptedIfRight : Type 0
AcceptedIfRight = (bs t : List ℕ) → (check_fault bs t ≡ None → Right bs t) × (Right bs t → check_fault bs t ≡ None)

-- THE TABLE THAT DRAINING GIVES is accepted, for every model
abbrev pub DrainedAccepted : Type 0
DrainedAccepted = (bs : List ℕ) → WellFormed bs → check_fault bs (table_bytes bs) ≡ None

-- a table has a row of 20 bytes for each of n cells, and says of each what lists of levels, flow, places and amounts have
pub record Says (t : List ℕ) (n : ℕ) (levels flow places amounts : List ℕ) : Type 0 where
  pub long : length t ≡ row_size * n
  pub level : (c : ℕ) → c < n → level_at t c ≡ slice_index levels c
  pub sends : (c : ℕ) → c < n → sends_at t c ≡ slice_index flow c
  pub place : (c : ℕ) → c < n → place_at t c ≡ slice_index places c
  pub amount : (c : ℕ) → c < n → amount_at t c ≡ slice_index amounts c

-- THE TABLE THAT DRAINING GIVES reads back, for every model: what the rule gives for each cell
abbrev pub DrainedReadsBack : Type 0
DrainedReadsBack = (bs : List ℕ) → WellFormed bs → Says (table_bytes bs) (count bs) (table_of bs).levels (table_of bs).flow (table_of bs).places (table_amounts bs)
