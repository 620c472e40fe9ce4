-- The lands, with listed neighbours, for which the rule is right; every model's is one.
use Rattle.std.specs.Prelude.{◌≡◌, ℕ, ◌*◌, ◌<◌, ◌≤◌, true, List}
use Rattle.model.specs.Land.{Land, Out}
use Rattle.model.specs.Limits.{max_side, max_height}
use Rattle.model.specs.Grid.{neighbours, four_sides, among}
use Rattle.model.specs.Terrain.{Terrain, land_of}
use Rattle.flood.specs.Run.{Ground, ground_of, none}

-- a land, and lists of the cells next to each cell
pub record Fair (l : Land) (around : ℕ → List ℕ) : Type 0 where
  -- none is neither a cell's number nor a height
  pub few : l.cells ≤ none
  pub low : (c : ℕ) → c < l.cells → l.height c < none
  -- every cell has a way off the land
  pub ways : (c : ℕ) → c < l.cells → (h : ℕ) × Out l h c
  -- cells lie next to each other both ways, and the lists name exactly the cells of the land that lie next
  pub both : (c d : ℕ) → c < l.cells → d < l.cells → l.next c d ≡ l.next d c
  pub listed : (c d : ℕ) → c < l.cells → d < l.cells → among d (around c) ≡ l.next c d
  pub within : (c d : ℕ) → c < l.cells → among d (around c) ≡ true → d < l.cells

-- a model within the limits
pub record Sound (t : Terrain) : Type 0 where
  pub wide : t.w ≤ max_side
  pub tall : t.h ≤ max_side
  pub low : (c : ℕ) → c < t.w * t.h → t.height c ≤ max_height

-- the cells next to a cell of a model: up, left, right, down
abbrev pub sides_of : Terrain → ℕ → List ℕ
sides_of t = neighbours t.w t.h four_sides

-- the ground of a model
abbrev pub model_ground : Terrain → Ground
model_ground t = ground_of (land_of t) (sides_of t)
