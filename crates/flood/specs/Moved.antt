-- Maps of land onto land: cells moved to other numbers, models mirrored and turned.
use Rattle.std.specs.Prelude.{◌≡◌, ℕ, suc, ◌-◌, ◌<◌, ◌≤◌, true}
use Rattle.model.specs.Land.{Land}
use Rattle.model.specs.Grid.{row, column, cell_at}
use Rattle.model.specs.Terrain.{Terrain}

-- a map of the cells of l to those of m that keeps neighbours and outlets, and raises no height
pub record Carries (l m : Land) (π : ℕ → ℕ) : Type 0 where
  pub cells : (c : ℕ) → c < l.cells → π c < m.cells
  pub height : (c : ℕ) → c < l.cells → m.height (π c) ≤ l.height c
  pub next : (c d : ℕ) → c < l.cells → d < l.cells → l.next c d ≡ true → m.next (π c) (π d) ≡ true
  pub leaves : (c : ℕ) → c < l.cells → l.leaves c ≡ true → m.leaves (π c) ≡ true

-- the columns the other way round: where cell c comes to lie
abbrev pub mirror : ℕ → ℕ → ℕ
mirror w c = cell_at w (row w c) (w - suc (column w c))

-- the mirrored model
abbrev pub mirrored : Terrain → Terrain
mirrored t = record {
  w = t.w;
  h = t.h;
  height = λ c. t.height (mirror t.w c);
  rain = λ c. t.rain (mirror t.w c);
  drain = λ c. t.drain (mirror t.w c);
}

-- a quarter turn of w columns and h rows: row r and column x come to row x and column h - 1 - r
abbrev pub quarter : ℕ → ℕ → ℕ → ℕ
quarter w h c = cell_at h (column w c) (h - suc (row w c))

-- and where a cell of the turned model came from
abbrev pub quarter_back : ℕ → ℕ → ℕ → ℕ
quarter_back w h c = cell_at w (h - suc (column h c)) (row h c)

-- the model turned a quarter
abbrev pub turned : Terrain → Terrain
turned t = record {
  w = t.h;
  h = t.w;
  height = λ c. t.height (quarter_back t.w t.h c);
  rain = λ c. t.rain (quarter_back t.w t.h c);
  drain = λ c. t.drain (quarter_back t.w t.h c);
}
