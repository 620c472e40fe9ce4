-- What draining refuses, and what a refusal leaves.
use Rattle.std.specs.Prelude.{◌≡◌, ℕ, ◌*◌, cond, List, length, Some, None, Option, nat_lt}
use Rattle.model.specs.declared.refusal.Lent.TheVariants.{Levels, Flow, Amounts, Work}
use Rattle.model.specs.declared.refusal.Refusal.{Refusal}
use Rattle.model.specs.declared.refusal.Refusal.TheVariants.{Short}
use Rattle.model.specs.Bytes.{count}
use Rattle.model.specs.Faults.{or_else, fault}
use Rattle.model.specs.Slices.{Contents}

-- the first of the four slices that is too short for n cells: three words of work are needed for each, one entry of the others
abbrev pub room_fault : ℕ → Contents → Option Refusal
room_fault n s =
    cond (nat_lt (length s.levels) n) (Some (Short Levels))
    (cond (nat_lt (length s.flow) n) (Some (Short Flow))
    (cond (nat_lt (length s.amounts) n) (Some (Short Amounts))
    (cond (nat_lt (length s.work) (3 * n)) (Some (Short Work)) None)))

-- WHY DRAINING IS REFUSED: the first fault of the bytes, then the first slice that is too short
abbrev pub drain_fault : List ℕ → Contents → Option Refusal
drain_fault bs s = or_else (fault bs) (room_fault (count bs) s)

-- nothing is written
pub record Unchanged (old new : Contents) : Type 0 where
  pub same_levels : new.levels ≡ old.levels
  pub same_flow : new.flow ≡ old.flow
  pub same_amounts : new.amounts ≡ old.amounts
  pub same_work : new.work ≡ old.work
