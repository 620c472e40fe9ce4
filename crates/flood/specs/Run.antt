-- The rule by which levels, flow and order are found together, word for word: steps of a state.
use Rattle.std.specs.Prelude.{ℕ, zero, suc, ◌+◌, ◌-◌, max, Bool, cond, ◌&&◌, ◌||◌, List, [], ◌∷◌, replicate, ◌==◌, nat_lt, slice_index, slice_set}
use Rattle.model.specs.Land.{Land}
use Rattle.queue.specs.Heap.{word, level_of, cell_of, pushed, popped}
use Rattle.flood.specs.Levels.{Flow}

-- what the rule reads of a land, no rain among it: its cells, outlets and heights, and the cells next to each cell, in order
pub record Ground : Type 0 where
  pub cells : ℕ
  pub leaves : ℕ → Bool
  pub height : ℕ → ℕ
  pub around : ℕ → List ℕ

-- the ground of a land whose neighbours are listed in the given order
abbrev pub ground_of : Land → (ℕ → List ℕ) → Ground
ground_of l around = record { cells = l.cells; leaves = l.leaves; height = l.height; around = around }

-- no level, no place, or off the land
abbrev pub none : ℕ
none = 4294967295

-- what is known after some turns
pub record State : Type 0 where
  -- of each cell: its level, where it sends, its place, and how often it was put into the queue
  pub levels : List ℕ
  pub flow : List ℕ
  pub places : List ℕ
  pub puts : List ℕ
  -- the cell at each place, and how many cells have places
  pub order : List ℕ
  pub placed : ℕ
  -- the words of the queue, how many stand in it, and the looks made so far
  pub queue : List ℕ
  pub queued : ℕ
  pub looks : ℕ

-- before the first turn nothing is known of n cells
unfoldable pub blank : ℕ → State
blank n = record {
  levels = replicate n none;
  flow = replicate n none;
  places = replicate n none;
  puts = replicate n 0;
  order = replicate n none;
  placed = 0;
  queue = replicate n none;
  queued = 0;
  looks = 0;
}

-- cell d gets level v, sends to t, and is put into the queue with that level
unfoldable pub put : ℕ → ℕ → ℕ → State → State
put v t d s = record {
  levels = slice_set s.levels d v;
  flow = slice_set s.flow d t;
  places = s.places;
  puts = slice_set s.puts d (slice_index s.puts d + 1);
  order = s.order;
  placed = s.placed;
  queue = (pushed s.queue s.queued (word v d)).entries;
  queued = s.queued + 1;
  looks = s.looks + (pushed s.queue s.queued (word v d)).looks;
}

-- at first all outlets, here those numbered below k, stand in the queue with their heights and send off the land
unfoldable pub begun : Ground → ℕ → State
begun g zero = blank g.cells
begun g (suc k) = cond (g.leaves k) (put (g.height k) none k (begun g k)) (begun g k)

-- the cell and the level of the first entry: the lowest level, of equals the lowest number
abbrev pub first_cell : State → ℕ
first_cell s = cell_of (slice_index s.queue 0)

abbrev pub first_level : State → ℕ
first_level s = level_of (slice_index s.queue 0)

-- the first entry is taken out of the queue, and its cell gets the next place
unfoldable pub taken : State → State
taken s = record {
  levels = s.levels;
  flow = s.flow;
  places = slice_set s.places (first_cell s) s.placed;
  puts = s.puts;
  order = slice_set s.order s.placed (first_cell s);
  placed = s.placed + 1;
  queue = (popped s.queue s.queued).entries;
  queued = s.queued - 1;
  looks = s.looks + (popped s.queue s.queued).looks;
}

-- what d is offered by a taken cell of level v: the larger of its height and v
abbrev pub offer : Ground → ℕ → ℕ → ℕ
offer g v d = max (g.height d) v

-- d has no place yet, and no level yet or a higher one than it is offered
abbrev pub wants : Ground → ℕ → ℕ → State → Bool
wants g v d s = slice_index s.places d == none && (slice_index s.levels d == none || nat_lt (offer g v d) (slice_index s.levels d))

-- d, next to the taken cell c of level v, gets what it is offered if it wants it, and sends to c then
unfoldable pub told : Ground → ℕ → ℕ → ℕ → State → State
told g c v d s = cond (wants g v d s) (put (offer g v d) c d s) s

-- so do the cells of a list, one after another
unfoldable pub spread : Ground → ℕ → ℕ → List ℕ → State → State
spread g c v [] s = s
spread g c v (d ∷ ds) s = spread g c v ds (told g c v d s)

-- one turn: the first entry is taken, and the cells next to its cell are told
abbrev pub turn : Ground → State → State
turn g s = spread g (first_cell s) (first_level s) (g.around (first_cell s)) (taken s)

-- the state after k turns
unfoldable pub after : Ground → ℕ → State
after g zero = begun g g.cells
after g (suc k) = turn g (after g k)

-- WHAT THE RULE GIVES: each turn gives one cell its place
abbrev pub table : Ground → State
table g = after g g.cells

-- levels and flow as a state has them; the place of a cell is its distance
abbrev pub flow_of : State → Flow
flow_of s = record {
  level = λ c. slice_index s.levels c;
  off = λ c. (slice_index s.flow c == none);
  to = λ c. slice_index s.flow c;
  far = λ c. slice_index s.places c;
}
