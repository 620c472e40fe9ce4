-- Exits found in lists that say where cells send: one by a walk of bounded length, and all in one pass along the order.
use Rattle.std.specs.Prelude.{◌≡◌, ℕ, zero, suc, ◌<◌, ◌≤◌, cond, List, length, Some, None, Option, ◌==◌, nat_lt, slice_index, slice_set}
use Rattle.flood.specs.Levels.{Flow}
use Rattle.flood.specs.Run.{none}
use Rattle.amounts.specs.Amounts.{Acyclic}
use Rattle.amounts.specs.Accumulation.{Coded, OrderedFlow}
use Rattle.basins.specs.Exits.{exit}

-- the first cell that sends off, of at most k from c on; nothing where there is none among them, or the walk comes to no cell of n
abbrev pub walked : List ℕ → (n k c : ℕ) → Option ℕ
walked flow n zero c = None
walked flow n (suc k) c = cond (nat_lt c n) (cond (slice_index flow c == none) (Some c) (walked flow n k (slice_index flow c))) None

-- the exit of c, on any list: a walk over as many cells as there are
abbrev pub exit_of : List ℕ → (n c : ℕ) → Option ℕ
exit_of flow n c = walked flow n n c

-- the exit of c by a list that has the exit of the cell that it sends to: c itself where it sends off
abbrev pub exit_by : (flow exits : List ℕ) → ℕ → ℕ
exit_by flow exits c = cond (slice_index flow c == none) c (slice_index exits (slice_index flow c))

-- cell c gets its exit
abbrev pub exit_told : List ℕ → ℕ → List ℕ → List ℕ
exit_told flow c exits = slice_set exits c (exit_by flow exits c)

-- the exits after the first k places, from any list on
abbrev pub exits_after : (flow order exits : List ℕ) → ℕ → List ℕ
exits_after flow order exits zero = exits
exits_after flow order exits (suc k) = exit_told flow (slice_index order k) (exits_after flow order exits k)

-- ON A FLOW THAT NEVER COMES BACK the walk finds the exit
abbrev pub WalkFindsExit : Type 0
WalkFindsExit = (n : ℕ) (f : Flow) (flow : List ℕ) → Coded n f flow → Acyclic n f → (c : ℕ) → c < n → exit_of flow n c ≡ Some (exit f c)

-- ON ANY LIST what it finds is a cell that sends off, and no longer walk finds more
abbrev pub WalkEndsOff : Type 0
WalkEndsOff = (flow : List ℕ) (n c e : ℕ) → exit_of flow n c ≡ Some e → (e < n) × (slice_index flow e ≡ none)

abbrev pub WalkLongEnough : Type 0
WalkLongEnough = (flow : List ℕ) (n k c e : ℕ) → walked flow n k c ≡ Some e → exit_of flow n c ≡ Some e

-- ALL EXITS IN ONE PASS along the order: the last list has each cell's, and no list changes its length
abbrev pub PassFindsExits : Type 0
PassFindsExits =
    (n : ℕ) (f : Flow) (flow order exits : List ℕ) → OrderedFlow n f flow order → n ≤ length exits → (c : ℕ) → c < n →
    slice_index (exits_after flow order exits n) c ≡ exit f c

abbrev pub PassKeepsLength : Type 0
PassKeepsLength = (flow order exits : List ℕ) (k : ℕ) → length (exits_after flow order exits k) ≡ length exits
