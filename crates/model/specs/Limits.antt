-- The limits and the layout of a model file.
use Rattle.std.specs.Prelude.{ℕ}

-- the most columns, and the most rows
abbrev pub max_side : ℕ
max_side = 400

-- the greatest height, in centimetres
abbrev pub max_height : ℕ
max_height = 1000000

-- the most rain on a cell, in hundredths of a litre
abbrev pub max_rain : ℕ
max_rain = 1000000

-- the bytes before the first cell
abbrev pub head_bytes : ℕ
head_bytes = 4

-- the bytes of a cell
abbrev pub cell_bytes : ℕ
cell_bytes = 9
