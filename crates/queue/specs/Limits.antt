-- The number of looks that is allowed, and up to how many entries.
use Rattle.std.specs.Prelude.{ℕ}

abbrev pub most_entries : ℕ
most_entries = 800000

abbrev pub most_looks : ℕ
most_looks = 20
