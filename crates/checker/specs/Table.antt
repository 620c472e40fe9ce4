-- What the bytes of a table say.
use Rattle.std.specs.Prelude.{◌≡◌, ℕ, ◌*◌, List, length, ◌==◌}
use Rattle.model.specs.Bytes.{count}
use Rattle.flood.specs.Levels.{Flow}
use Rattle.flood.specs.Run.{none}
use Rattle.amounts.specs.Row.{row_size, level_at, sends_at, place_at}

-- levels, where each cell sends, and its place, which is to fall along the way
abbrev pub flow_from : List ℕ → Flow
flow_from t = record {
  level = level_at t;
  off = λ c. (sends_at t c == none);
  to = sends_at t;
  far = place_at t;
}

-- the table has a row for each cell of the model, and nothing else
abbrev pub Whole : (bs t : List ℕ) → Type 0
Whole bs t = length t ≡ row_size * count bs
