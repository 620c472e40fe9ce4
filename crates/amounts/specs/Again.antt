-- Draining again into slices that hold levels already.
use Rattle.std.specs.Prelude.{◌≡◌, ℕ, cond, List, ◌==◌, slice_index}
use Rattle.model.specs.Bytes.{count}
use Rattle.model.specs.Slices.{Contents}
use Rattle.flood.specs.Sums.{sum}
use Rattle.amounts.specs.declared.answer.DrainedAgain.{DrainedAgain}
use Rattle.amounts.specs.Promise.{Promise}

-- 1 where cell c has another level in one list than in the other
abbrev pub differs : (before after : List ℕ) → ℕ → ℕ
differs before after c = cond (slice_index before c == slice_index after c) 0 1

-- how many of n cells have another level than before
abbrev pub levels_changed : (before after : List ℕ) → ℕ → ℕ
levels_changed before after n = sum (differs before after) n

-- DRAINED AGAIN: all that draining promises, and the number of the cells whose level is not what stood in the slice
pub record Again (bs : List ℕ) (old new : Contents) (a : DrainedAgain) : Type 0 where
  pub promise : Promise bs old new a.drained
  pub changed : a.changed ≡ levels_changed old.levels new.levels (count bs)
