-- Small models, and what comes of them, worked out by hand.
use Rattle.std.specs.Prelude.{ℕ, ◌/◌, ◌%◌, List, [], ◌∷◌, ◌++◌}
use Rattle.amounts.specs.Row.{four_bytes}
use Rattle.flood.specs.Run.{none}

-- a model with rain 1 on every cell and no drain; and of each cell its level, where it sends its water, and its amount
pub record Worked : Type 0 where
  pub w : ℕ
  pub h : ℕ
  pub heights : List ℕ
  pub levels : List ℕ
  pub sends : List ℕ
  pub amounts : List ℕ

-- a number in two bytes
abbrev pub two_bytes : ℕ → List ℕ
two_bytes v = v % 256 ∷ (v / 256 % 256 ∷ [])

-- a cell of a height, with rain 1 and no drain mark
abbrev pub cell_bytes : ℕ → List ℕ
cell_bytes height = four_bytes height ++ (four_bytes 1 ++ (0 ∷ []))

-- such cells, one after another
abbrev pub all_cell_bytes : List ℕ → List ℕ
all_cell_bytes [] = []
all_cell_bytes (x ∷ xs) = cell_bytes x ++ all_cell_bytes xs

-- THE BYTES of a worked model's file
unfoldable pub file : Worked → List ℕ
file m = two_bytes m.w ++ (two_bytes m.h ++ all_cell_bytes m.heights)

-- where water goes off the land
abbrev pub off : ℕ
off = none

-- a hollow in a flat rim fills up to the rim; of the four cells that its water could go over it takes the one with the lowest number
abbrev pub hollow : Worked
hollow = record {
  w = 3;
  h = 3;
  heights = 5 ∷ 5 ∷ 5 ∷ 5 ∷ 1 ∷ 5 ∷ 5 ∷ 5 ∷ 5 ∷ [];
  levels = 5 ∷ 5 ∷ 5 ∷ 5 ∷ 5 ∷ 5 ∷ 5 ∷ 5 ∷ 5 ∷ [];
  sends = off ∷ off ∷ off ∷ off ∷ 1 ∷ off ∷ off ∷ off ∷ off ∷ [];
  amounts = 1 ∷ 2 ∷ 1 ∷ 1 ∷ 1 ∷ 1 ∷ 1 ∷ 1 ∷ 1 ∷ [];
}

-- a hollow in a rim with a gap fills up to the gap, and its water leaves there
abbrev pub spill : Worked
spill = record {
  w = 3;
  h = 3;
  heights = 5 ∷ 5 ∷ 5 ∷ 5 ∷ 1 ∷ 3 ∷ 5 ∷ 5 ∷ 5 ∷ [];
  levels = 5 ∷ 5 ∷ 5 ∷ 5 ∷ 3 ∷ 3 ∷ 5 ∷ 5 ∷ 5 ∷ [];
  sends = off ∷ off ∷ off ∷ off ∷ 5 ∷ off ∷ off ∷ off ∷ off ∷ [];
  amounts = 1 ∷ 1 ∷ 1 ∷ 1 ∷ 1 ∷ 2 ∷ 1 ∷ 1 ∷ 1 ∷ [];
}

-- from a single cell water leaves at once
abbrev pub single : Worked
single = record { w = 1; h = 1; heights = 4 ∷ []; levels = 4 ∷ []; sends = off ∷ []; amounts = 1 ∷ [] }

-- two hollows with a sill between them: the left one fills up to the sill, the right one up to the gap behind it, and all their water leaves over the gap
abbrev pub sill : Worked
sill = record {
  w = 5;
  h = 3;
  heights = 9 ∷ 9 ∷ 9 ∷ 9 ∷ 9 ∷ 9 ∷ 2 ∷ 7 ∷ 3 ∷ 4 ∷ 9 ∷ 9 ∷ 9 ∷ 9 ∷ 9 ∷ [];
  levels = 9 ∷ 9 ∷ 9 ∷ 9 ∷ 9 ∷ 9 ∷ 7 ∷ 7 ∷ 4 ∷ 4 ∷ 9 ∷ 9 ∷ 9 ∷ 9 ∷ 9 ∷ [];
  sends = off ∷ off ∷ off ∷ off ∷ off ∷ off ∷ 7 ∷ 8 ∷ 9 ∷ off ∷ off ∷ off ∷ off ∷ off ∷ off ∷ [];
  amounts = 1 ∷ 1 ∷ 1 ∷ 1 ∷ 1 ∷ 1 ∷ 1 ∷ 2 ∷ 3 ∷ 4 ∷ 1 ∷ 1 ∷ 1 ∷ 1 ∷ 1 ∷ [];
}

-- all of them
abbrev pub worked_models : List Worked
worked_models = hollow ∷ spill ∷ single ∷ sill ∷ []
