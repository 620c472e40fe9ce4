-- The memory that is lent to be drained into.
use Rattle.std.specs.Prelude.{◌≡◌, ℕ, ◌*◌, length, replicate, vec_items}
use Rattle.model.specs.Slices.{Contents}
use Rattle.tables.specs.declared.memory.Memory.{Memory}

-- what stands in it
abbrev pub held : Memory → Contents
held m = record { levels = vec_items m.levels; flow = vec_items m.flow; amounts = vec_items m.amounts; work = vec_items m.work }

-- zeros for n cells
abbrev pub zeros : ℕ → Contents
zeros n = record { levels = replicate n 0; flow = replicate n 0; amounts = replicate n 0; work = replicate (3 * n) 0 }

-- as long as n cells need, and no longer
pub record JustLong (n : ℕ) (s : Contents) : Type 0 where
  pub levels : length s.levels ≡ n
  pub flow : length s.flow ≡ n
  pub amounts : length s.amounts ≡ n
  pub work : length s.work ≡ 3 * n
