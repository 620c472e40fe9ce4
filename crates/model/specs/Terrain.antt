-- The land that a model describes.
use Rattle.std.specs.Prelude.{ℕ, ◌*◌, Bool, ◌||◌, List, ◌==◌}
use Rattle.model.specs.Land.{Land}
use Rattle.model.specs.Grid.{adjacent, border}
use Rattle.model.specs.Bytes.{columns, rows, height_at, rain_at, mark_at}

-- a rectangle of w columns and h rows, with each cell's height, rain and whether it is a drain
pub record Terrain : Type 0 where
  pub w : ℕ
  pub h : ℕ
  pub height : ℕ → ℕ
  pub rain : ℕ → ℕ
  pub drain : ℕ → Bool

-- its land: cells that share a side lie next to each other, and water leaves at the border and at drains
abbrev pub land_of : Terrain → Land
land_of t = record {
  cells = t.w * t.h;
  next = adjacent t.w;
  leaves = λ c. border t.w t.h c || t.drain c;
  height = t.height;
  rain = t.rain;
}

-- what the bytes of a file say
abbrev pub terrain : List ℕ → Terrain
terrain bs = record {
  w = columns bs;
  h = rows bs;
  height = height_at bs;
  rain = rain_at bs;
  drain = λ c. (mark_at bs c == 1);
}

-- THE LAND OF A FILE, of which every contract speaks
abbrev pub land : List ℕ → Land
land bs = land_of (terrain bs)
