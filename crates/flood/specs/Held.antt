-- What the lent slices hold of a state: levels, flow, order and places by cell or place, and the words of the queue.
use Rattle.std.specs.Prelude.{◌≡◌, ℕ, ◌*◌, List, length}
use Rattle.queue.specs.declared.Queue.{Queue}
use Rattle.flood.specs.declared.flooding.Run.{Run}
use Rattle.flood.specs.Run.{State}

-- the state in the slices, with the counts of puts, which no slice holds
abbrev pub held : List ℕ → Run → Queue → State
held puts r q = record {
  levels = r.levels.now;
  flow = r.flow.now;
  places = r.places.now;
  puts = puts;
  order = r.order.now;
  placed = r.placed;
  queue = q.words.now;
  queued = q.len;
  looks = r.looks;
}

-- the slices hold s
abbrev pub Holds : State → Run → Queue → Type 0
Holds s r q = held s.puts r q ≡ s

-- slices of the lengths that n cells need
pub record Sized (n : ℕ) (levels flow work : List ℕ) : Type 0 where
  pub of_levels : length levels ≡ n
  pub of_flow : length flow ≡ n
  pub of_work : length work ≡ 3 * n
