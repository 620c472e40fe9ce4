-- The bytes of a model file: whole numbers, low byte first, and where each stands.
use Rattle.std.specs.Prelude.{ℕ, ◌+◌, ◌*◌, cond, List, length, take, drop, Some, None, Option, nat_le, slice_index}
use Rattle.model.specs.Limits.{head_bytes, cell_bytes}

-- the number in the first two bytes, and in the first four
unfoldable pub two : List ℕ → ℕ
two bs = slice_index bs 0 + slice_index bs 1 * 256

unfoldable pub four : List ℕ → ℕ
four bs = slice_index bs 0 + slice_index bs 1 * 256 + slice_index bs 2 * 65536 + slice_index bs 3 * 16777216

-- the numbers of columns, of rows and of cells
abbrev pub columns : List ℕ → ℕ
columns bs = two bs

abbrev pub rows : List ℕ → ℕ
rows bs = two (drop 2 bs)

abbrev pub count : List ℕ → ℕ
count bs = columns bs * rows bs

-- where the bytes of cell c begin
abbrev pub start : ℕ → ℕ
start c = head_bytes + cell_bytes * c

-- the bytes of cell c, which begin in the middle of the file; fewer where the file ends in them
abbrev pub cell_part : List ℕ → ℕ → List ℕ
cell_part bs c = take cell_bytes (drop (start c) bs)

-- a value, if the first n bytes of a part are there
abbrev pub if_whole : List ℕ → ℕ → ℕ → Option ℕ
if_whole p n v = cond (nat_le n (length p)) (Some v) None

-- the height, the rain and the drain mark in the part of a cell
abbrev pub height_in : List ℕ → Option ℕ
height_in p = if_whole p 4 (four p)

abbrev pub rain_in : List ℕ → Option ℕ
rain_in p = if_whole p 8 (four (drop 4 p))

abbrev pub mark_in : List ℕ → Option ℕ
mark_in p = if_whole p 9 (slice_index p 8)

-- the height, the rain and the drain mark of cell c
abbrev pub height_at : List ℕ → ℕ → ℕ
height_at bs c = four (cell_part bs c)

abbrev pub rain_at : List ℕ → ℕ → ℕ
rain_at bs c = four (drop 4 (cell_part bs c))

abbrev pub mark_at : List ℕ → ℕ → ℕ
mark_at bs c = slice_index (cell_part bs c) 8
