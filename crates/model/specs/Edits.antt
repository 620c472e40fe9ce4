-- A cell's height, rain or drain mark written into the bytes of a model.
use Rattle.std.specs.Prelude.{◌≡◌, ℕ, ◌+◌, ◌/◌, ◌%◌, ◌<◌, ◌≤◌, Bool, cond, ◌&&◌, ◌⊎◌, List, length, ◌==◌, nat_le, nat_lt, slice_index, slice_set}
use Rattle.model.specs.declared.units.Cell.{Cell}
use Rattle.model.specs.declared.units.Height.{Height}
use Rattle.model.specs.declared.units.Amount.{Amount}
use Rattle.model.specs.declared.grid.Grid.{Grid}
use Rattle.model.specs.Bytes.{columns, rows, count, start, height_at, rain_at, mark_at}
use Rattle.model.specs.Limits.{cell_bytes, max_height, max_rain}
use Rattle.model.specs.Of.{cells}
use Rattle.model.specs.WellFormed.{WellFormed}

-- a number in the four bytes from a place on, low byte first
abbrev pub put_four : List ℕ → ℕ → ℕ → List ℕ
put_four bs at v = slice_set (slice_set (slice_set (slice_set bs at (v % 256)) (at + 1) (v / 256 % 256)) (at + 2) (v / 65536 % 256)) (at + 3) (v / 16777216 % 256)

-- the grid has the cell, and the bytes hold it whole
abbrev pub fits_cell : Grid → List ℕ → Cell → Bool
fits_cell g bs c = nat_lt c.0 (cells g) && nat_le (start c.0 + cell_bytes) (length bs)

-- the bytes with another height, rain or drain mark of a cell, where it may be written
abbrev pub with_height : Bool → List ℕ → Cell → Height → List ℕ
with_height may bs c v = cond may (put_four bs (start c.0) v.0) bs

abbrev pub with_rain : Bool → List ℕ → Cell → Amount → List ℕ
with_rain may bs c v = cond may (put_four bs (start c.0 + 4) v.0) bs

abbrev pub with_mark : Bool → List ℕ → Cell → Bool → List ℕ
with_mark may bs c drain = cond may (slice_set bs (start c.0 + 8) (cond drain 1 0)) bs

-- f, but v at c
abbrev pub but : (ℕ → ℕ) → ℕ → ℕ → ℕ → ℕ
but f c v d = cond (d == c) v (f d)

-- cs is well formed, of the same sizes as bs, with these heights, rains and marks, and no byte changed outside n bytes from a place on
pub record Rewritten (bs cs : List ℕ) (at n : ℕ) (height rain mark : ℕ → ℕ) : Type 0 where
  pub w : columns cs ≡ columns bs
  pub h : rows cs ≡ rows bs
  pub heights : (c : ℕ) → c < count bs → height_at cs c ≡ height c
  pub rains : (c : ℕ) → c < count bs → rain_at cs c ≡ rain c
  pub marks : (c : ℕ) → c < count bs → mark_at cs c ≡ mark c
  pub others : (k : ℕ) → (k < at) ⊎ (at + n ≤ k) → slice_index cs k ≡ slice_index bs k
  pub sound : WellFormed cs

-- A WRITE INTO A WELL-FORMED FILE reads back, and leaves every other value and byte: a height, a rain, a drain mark
abbrev pub HeightsReadBack : Type 0
HeightsReadBack =
    (bs : List ℕ) (c v : ℕ) → WellFormed bs → c < count bs → v ≤ max_height →
    Rewritten bs (put_four bs (start c) v) (start c) 4 (but (height_at bs) c v) (rain_at bs) (mark_at bs)

abbrev pub RainsReadBack : Type 0
RainsReadBack =
    (bs : List ℕ) (c v : ℕ) → WellFormed bs → c < count bs → v ≤ max_rain →
    Rewritten bs (put_four bs (start c + 4) v) (start c + 4) 4 (height_at bs) (but (rain_at bs) c v) (mark_at bs)

abbrev pub MarksReadBack : Type 0
MarksReadBack =
    (bs : List ℕ) (c v : ℕ) → WellFormed bs → c < count bs → v ≤ 1 →
    Rewritten bs (slice_set bs (start c + 8) v) (start c + 8) 1 (height_at bs) (rain_at bs) (but (mark_at bs) c v)
