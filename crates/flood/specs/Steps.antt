-- What a step of the program does to the lent slices.
use Rattle.std.specs.Prelude.{◌≡◌, ◌<◌}
use Rattle.queue.specs.declared.Entry.{Entry}
use Rattle.queue.specs.declared.Queue.{Queue}
use Rattle.flood.specs.declared.flooding.Run.{Run}
use Rattle.flood.specs.Run.{State, first_cell, first_level, taken}
use Rattle.flood.specs.Held.{Holds}

-- they are the same slices, whatever stands in them
pub record SameSlices (r r' : Run) (q q' : Queue) : Type 0 where
  pub levels : r'.levels.ghost_name ≡ r.levels.ghost_name
  pub flow : r'.flow.ghost_name ≡ r.flow.ghost_name
  pub order : r'.order.ghost_name ≡ r.order.ghost_name
  pub places : r'.places.ghost_name ≡ r.places.ghost_name
  pub queue : q'.words.ghost_name ≡ q.words.ghost_name

-- where they held a state, they hold what f makes of it
abbrev pub Leads : (State → State) → Run → Run → Queue → Queue → Type 0
Leads f r r' q q' = (s : State) → Holds s r q → Holds (f s) r' q'

-- the queue is empty, and nothing is changed
pub record Empty (r r' : Run) (q q' : Queue) : Type 0 where
  pub none_left : q.len ≡ 0
  pub same : Leads (λ s. s) r r' q q'

-- the first entry is taken out of the queue, and its cell has the next place
pub record Taken (r r' : Run) (q q' : Queue) (e : Entry) : Type 0 where
  pub some : 0 < q.len
  pub cell : (s : State) → Holds s r q → e.cell.0 ≡ first_cell s
  pub level : (s : State) → Holds s r q → e.level.0 ≡ first_level s
  pub leads : Leads taken r r' q q'
