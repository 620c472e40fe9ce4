-- What lent slices hold.
use Rattle.std.specs.Prelude.{◌≡◌, ℕ, List}
use Rattle.model.specs.declared.slices.Slices.{Slices}

-- what stands in the four slices
pub record Contents : Type 0 where
  pub levels : List ℕ
  pub flow : List ℕ
  pub amounts : List ℕ
  pub work : List ℕ

abbrev pub lists_of : Slices → Contents
lists_of s = record { levels = s.levels.now; flow = s.flow.now; amounts = s.amounts.now; work = s.work.now }

-- they are the same four slices, whatever stands in them
pub record SameSlices (old new : Slices) : Type 0 where
  pub levels : new.levels.ghost_name ≡ old.levels.ghost_name
  pub flow : new.flow.ghost_name ≡ old.flow.ghost_name
  pub amounts : new.amounts.ghost_name ≡ old.amounts.ghost_name
  pub work : new.work.ghost_name ≡ old.work.ghost_name
