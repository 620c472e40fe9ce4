-- What is promised of amounts on any land: each is a statement whose proof a contract owes.
use Rattle.std.specs.Prelude.{◌≡◌, ℕ, ◌*◌, ◌<◌, ◌≤◌}
use Rattle.model.specs.Land.{Land, Out}
use Rattle.flood.specs.Levels.{Flow, Drained}
use Rattle.amounts.specs.Amounts.{Carried, Acyclic, all_rain, all_off}

-- where water drains, none comes back
abbrev pub DrainedAcyclic : Type 0
DrainedAcyclic = (l : Land) (f : Flow) → Drained l f → Acyclic l.cells f

-- EVERY FLOW HAS AMOUNTS that add up
abbrev pub SomeAmounts : Type 0
SomeAmounts = (l : Land) (f : Flow) → Acyclic l.cells f → (g : ℕ → ℕ) × Carried l f g

-- AMOUNTS ARE THE ONLY ONES that add up
abbrev pub OnlyAmounts : Type 0
OnlyAmounts =
    (l : Land) (f : Flow) (g h : ℕ → ℕ) → Acyclic l.cells f → Carried l f g → Carried l f h → (c : ℕ) → c < l.cells → g c ≡ h c

-- NOTHING IS LOST: what leaves the land is what rained on it, to the last drop
abbrev pub NothingLost : Type 0
NothingLost =
    (l : Land) (f : Flow) (g : ℕ → ℕ) → Acyclic l.cells f → Carried l f g → all_off f g l.cells ≡ all_rain l l.cells

-- no amount is above all the rain
abbrev pub Bounded : Type 0
Bounded = (l : Land) (f : Flow) (g : ℕ → ℕ) → Acyclic l.cells f → Carried l f g → (c : ℕ) → c < l.cells → g c ≤ all_rain l l.cells

-- and that is at most the number of cells times the most rain on one
abbrev pub RainBounded : Type 0
RainBounded = (l : Land) (most : ℕ) → ((c : ℕ) → c < l.cells → l.rain c ≤ most) → all_rain l l.cells ≤ l.cells * most

-- ALWAYS: land with a way off it from every cell has levels, a flow, and amounts that add up
abbrev pub Always : Type 0
Always =
    (l : Land) → ((c : ℕ) → c < l.cells → (h : ℕ) × Out l h c) →
    (f : Flow) × Drained l f × ((g : ℕ → ℕ) × Carried l f g)
