-- What the code's model means.
use Rattle.std.specs.Prelude.{ℕ, List}
use Rattle.model.specs.declared.land.Model.{Model}

-- the bytes that a model was read from
abbrev pub bytes_of : Model → List ℕ
bytes_of m = m.bytes.now
