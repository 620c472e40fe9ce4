-- What changes do to the bytes of a model, and what is answered to each.
use Rattle.std.specs.Prelude.{◌≡◌, ℕ, zero, suc, ◌+◌, Bool, false, cond, ◌&&◌, List, ◌++◌, drop, Some, None, Option, Ok, Err, Result, nat_le, nat_lt, slice_index_or, slice_set}
use Rattle.model.specs.declared.edits.OutOfRange.{OutOfRange}
use Rattle.model.specs.declared.refusal.Refusal.{Refusal}
use Rattle.model.specs.declared.refusal.Refusal.TheVariants.{Change as RefusedChange}
use Rattle.model.specs.Bytes.{count, start}
use Rattle.model.specs.Edits.{put_four}
use Rattle.model.specs.Limits.{max_height, max_rain}
use Rattle.model.specs.Slices.{Contents}
use Rattle.flood.specs.Flooded.{table_of, Written}
use Rattle.amounts.specs.Again.{levels_changed}
use Rattle.amounts.specs.Amounts.{all_off}
use Rattle.amounts.specs.Passing.{table_amounts}
use Rattle.amounts.specs.Promise.{flow_in, amount_in}
use Rattle.changes.specs.declared.answer.Changed.{Changed}
use Rattle.changes.specs.declared.asked.Asked.{Asked}
use Rattle.changes.specs.declared.asked.Change.{Change}
use Rattle.changes.specs.declared.asked.Change.TheVariants.{Height, Rain, Drain}

-- a change may be made: its cell exists, and its value is in range
abbrev pub allowed : List ℕ → Change → Bool
allowed bs (Height c v) = nat_lt c.0 (count bs) && nat_le v.0 max_height
allowed bs (Rain c v) = nat_lt c.0 (count bs) && nat_le v.0 max_rain
allowed bs (Drain c on) = nat_lt c.0 (count bs)

-- the bytes with the change in them
abbrev pub edited : List ℕ → Change → List ℕ
edited bs (Height c v) = put_four bs (start c.0) v.0
edited bs (Rain c v) = put_four bs (start c.0 + 4) v.0
edited bs (Drain c on) = slice_set bs (start c.0 + 8) (cond on 1 0)

-- what is asked may be done: it is a change, and may be made
abbrev pub accepted : List ℕ → Option Change → Bool
accepted bs None = false
accepted bs (Some x) = allowed bs x

-- the bytes after what was asked: as they were where it is refused
abbrev pub changed_by : List ℕ → Option Change → List ℕ
changed_by bs None = bs
changed_by bs (Some x) = cond (allowed bs x) (edited bs x) bs

-- what leaves the model in bs
abbrev pub leaves_in : List ℕ → ℕ
leaves_in bs = all_off (flow_in bs) (amount_in bs) (count bs)

-- how many cells have another level after than before, each model drained from the start
abbrev pub levels_between : (before after : List ℕ) → ℕ
levels_between before after = levels_changed (table_of before).levels (table_of after).levels (count before)

-- what comes of a change: what leaves then and how many levels change, or that it is out of range
abbrev pub outcome : List ℕ → Change → Result Changed OutOfRange
outcome bs x = cond (allowed bs x) (Ok (record { leaves = record { 0 = leaves_in (changed_by bs (Some x)) }; levels = levels_between bs (changed_by bs (Some x)) })) (Err (record {}))

-- an outcome as the answer to number k
abbrev pub answer_of : ℕ → Result Changed OutOfRange → Result Changed Refusal
answer_of k (Ok d) = Ok d
answer_of k (Err _) = Err (RefusedChange k)

-- WHAT IS ANSWERED to what is asked as number k
abbrev pub answer_to : ℕ → List ℕ → Option Change → Result Changed Refusal
answer_to k bs None = Err (RefusedChange k)
answer_to k bs (Some x) = answer_of k (outcome bs x)

-- what the row asks for as number k
abbrev pub asked_for : List Asked → ℕ → Option Change
asked_for row k = (slice_index_or row k (record { line = 0; change = None })).change

-- THE BYTES AFTER THE FIRST k that a row asks for
unfoldable pub bytes_after : List ℕ → List Asked → ℕ → List ℕ
bytes_after bs row zero = bs
bytes_after bs row (suc k) = changed_by (bytes_after bs row k) (asked_for row k)

-- and what is answered to number k
abbrev pub answer_at : List ℕ → List Asked → ℕ → Result Changed Refusal
answer_at bs row k = answer_to k (bytes_after bs row k) (asked_for row k)

-- slices hold the table of the model in bs, and behind it what they held before
pub record Tabled (bs : List ℕ) (old new : Contents) : Type 0 where
  pub written : Written (table_of bs) (count bs) old.levels old.flow old.work new.levels new.flow new.work
  pub poured : new.amounts ≡ table_amounts bs ++ drop (count bs) old.amounts
