-- What is promised of the rule's run: each is a statement whose proof a contract owes.
use Rattle.std.specs.Prelude.{◌≡◌, ℕ, ◌+◌, ◌*◌, ◌^◌, ◌<◌, ◌≤◌, false, List, ◌∷◌, ◌++◌, ◌==◌, slice_index}
use Rattle.model.specs.Land.{Land}
use Rattle.model.specs.Terrain.{Terrain, land_of}
use Rattle.flood.specs.Levels.{Flow, Drained}
use Rattle.flood.specs.Certified.{Certified}
use Rattle.flood.specs.Ordered.{Ordered}
use Rattle.flood.specs.Run.{ground_of, none, State, first_cell, first_level, taken, wants, spread, after, table, flow_of}
use Rattle.flood.specs.Fair.{Fair, Sound, sides_of, model_ground}

-- order and places lead back to each other, and levels rise along the order
pub record Lined (n : ℕ) (s : State) : Type 0 where
  pub place : (c : ℕ) → c < n → slice_index s.places c < n
  pub cell : (k : ℕ) → k < n → slice_index s.order k < n
  pub cell_at_place : (c : ℕ) → c < n → slice_index s.order (slice_index s.places c) ≡ c
  pub place_of_cell : (k : ℕ) → k < n → slice_index s.places (slice_index s.order k) ≡ k
  pub rising : (j k : ℕ) → j < k → k < n → slice_index s.levels (slice_index s.order j) ≤ slice_index s.levels (slice_index s.order k)

-- all that the last state of a run is
pub record Right (l : Land) (s : State) : Type 0 where
  -- levels are the lowest, and water goes to cells with earlier places and no higher level, off only where it can
  pub drained : Drained l (flow_of s)
  pub certified : Certified l (flow_of s)
  -- flow and order are those that the words say
  pub ordered : Ordered l (flow_of s)
  pub lined : Lined l.cells s
  -- none stands in the queue, every cell has its place, and each was put into the queue exactly once
  pub empty : s.queued ≡ 0
  pub all : s.placed ≡ l.cells
  pub once : (c : ℕ) → c < l.cells → slice_index s.puts c ≡ 1
  -- where 2 ^ k cells are enough, a cell costs at most 2 k looks: k as it is put in, k as it is taken
  pub few : (k : ℕ) → l.cells ≤ 2 ^ k → s.looks ≤ 2 * k * l.cells

-- THE RULE IS RIGHT on every fair land
abbrev pub RunRight : Type 0
RunRight = (l : Land) (around : ℕ → List ℕ) → Fair l around → Right l (table (ground_of l around))

-- it ends after exactly as many turns as there are cells: before that one stands in the queue, and k turns give k places
abbrev pub RunGoesOn : Type 0
RunGoesOn =
    (l : Land) (around : ℕ → List ℕ) → Fair l around → (k : ℕ) → k < l.cells →
    (0 < (after (ground_of l around) k).queued) × ((after (ground_of l around) k).placed ≡ k)

-- no level is ever lowered: a cell that is told wants a level exactly if it has none yet
abbrev pub NeverLowered : Type 0
NeverLowered =
    (l : Land) (around : ℕ → List ℕ) → Fair l around → (k : ℕ) → k < l.cells →
    (done left : List ℕ) (d : ℕ) → around (first_cell (after (ground_of l around) k)) ≡ done ++ (d ∷ left) →
    let g = ground_of l around in
    let s = after g k in
    let t = spread g (first_cell s) (first_level s) done (taken s) in
    wants g (first_level s) d t ≡ (slice_index t.levels d == none)

-- levels, flow and places that are certified and ordered are the only ones
abbrev pub OnlyFlow : Type 0
OnlyFlow =
    (l : Land) (f g : Flow) → Certified l f → Certified l g → Ordered l f → Ordered l g → (c : ℕ) → c < l.cells →
    (f.level c ≡ g.level c) × (f.far c ≡ g.far c) × (f.off c ≡ g.off c) × (f.off c ≡ false → f.to c ≡ g.to c)

-- the land of a model within the limits is fair, with its neighbours up, left, right, down
abbrev pub ModelsFair : Type 0
ModelsFair = (t : Terrain) → Sound t → Fair (land_of t) (sides_of t)

-- so the rule is right on it
abbrev pub ModelsRight : Type 0
ModelsRight = (t : Terrain) → Sound t → Right (land_of t) (table (model_ground t))

-- and a cell costs at most 40 looks
abbrev pub ModelsFewLooks : Type 0
ModelsFewLooks =
    (t : Terrain) → Sound t →
    ((table (model_ground t)).looks ≤ 40 * (t.w * t.h)) × ((table (model_ground t)).looks ≤ 2000000 + 5 * 21 * (t.w * t.h))

-- rain changes nothing of the run
abbrev pub RainUnread : Type 0
RainUnread =
    (t : Terrain) (rain : ℕ → ℕ) →
    table (model_ground (record { w = t.w; h = t.h; height = t.height; rain = rain; drain = t.drain })) ≡ table (model_ground t)
