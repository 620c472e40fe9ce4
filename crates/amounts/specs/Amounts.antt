-- Amounts: what comes to each cell, what leaves the land, and what rained on it.
use Rattle.std.specs.Prelude.{◌≡◌, ℕ, ◌+◌, ◌<◌, false, cond, ◌==◌}
use Rattle.model.specs.Land.{Land}
use Rattle.flood.specs.Levels.{Flow}
use Rattle.flood.specs.Sums.{sum}

-- what cell n sends to c, where g gives the amounts
abbrev pub sends : Flow → (ℕ → ℕ) → ℕ → ℕ → ℕ
sends f g c n = cond (f.off n) 0 (cond (f.to n == c) (g n) 0)

-- what comes to c from the cells numbered below n
abbrev pub sent : Flow → (ℕ → ℕ) → ℕ → ℕ → ℕ
sent f g c n = sum (sends f g c) n

-- amounts add up: a cell's amount is its rain and what all cells send to it
pub record Carried (l : Land) (f : Flow) (g : ℕ → ℕ) : Type 0 where
  pub each : (c : ℕ) → c < l.cells → g c ≡ l.rain c + sent f g c l.cells

-- what rained on the cells numbered below n
abbrev pub all_rain : Land → ℕ → ℕ
all_rain l n = sum l.rain n

-- what leaves the land at c
abbrev pub leaving : Flow → (ℕ → ℕ) → ℕ → ℕ
leaving f g c = cond (f.off c) (g c) 0

-- what leaves the land at the cells numbered below n
abbrev pub all_off : Flow → (ℕ → ℕ) → ℕ → ℕ
all_off f g n = sum (leaving f g) n

-- of n cells, one that does not send off sends to another, and no water comes back: it is nearer to leaving there
pub record Acyclic (n : ℕ) (f : Flow) : Type 0 where
  pub inside : (c : ℕ) → c < n → f.off c ≡ false → f.to c < n
  pub nearer : (c : ℕ) → c < n → f.off c ≡ false → f.far (f.to c) < f.far c
