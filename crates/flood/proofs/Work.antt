-- What the lent slices hold after each step of the program.
use Rattle.std.proofs.Common.{◌≡◌, ℕ, ◌+◌, ◌-◌, ◌*◌, ◌≤◌, List, get_or, take, drop, set, replicate, sym, refl, ap, ◌∙◌, arith}
use Rattle.std.proofs.lemmas.List.{take-replicate, drop-replicate}
use Rattle.queue.specs.Heap.{word, sifted, pushed, popped}
use Rattle.queue.specs.declared.Queue.{Queue}
use Rattle.flood.specs.declared.flooding.Run.{Run}
use Rattle.flood.specs.Run.{none, State, blank, first_cell, put, taken}
use Rattle.flood.specs.Held.{Holds}
use Rattle.flood.specs.Steps.{SameSlices}

-- a cell is put into the queue after k looks
pub put_held : (s : State) (r : Run) (q q' : Queue) (v t d k : ℕ) → Holds s r q → sifted q'.words.now k ≡ pushed q.words.now q.len (word v d) → q'.len ≡ q.len + 1 →
    record {
      levels = set r.levels.now d v;
      flow = set r.flow.now d t;
      places = r.places.now;
      puts = set s.puts d (get_or s.puts d 0 + 1);
      order = r.order.now;
      placed = r.placed;
      queue = q'.words.now;
      queued = q'.len;
      looks = r.looks + k;
    } ≡ put v t d s
unfolding put
put_held s r q q' v t d k h x e = rw (ap (λ y. y.entries) x, ap (λ y. y.looks) x, e) (ap (put v t d) h)

-- the first entry is taken out after k looks, and its cell c gets its place
pub taken_held : (s : State) (r : Run) (q q' : Queue) (c k : ℕ) → Holds s r q → c ≡ first_cell s → sifted q'.words.now k ≡ popped q.words.now q.len → q'.len ≡ q.len - 1 →
    record {
      levels = r.levels.now;
      flow = r.flow.now;
      places = set r.places.now c r.placed;
      puts = s.puts;
      order = set r.order.now r.placed c;
      placed = r.placed + 1;
      queue = q'.words.now;
      queued = q'.len;
      looks = r.looks + k;
    } ≡ taken s
unfolding taken
taken_held s r q q' c k h f x e = rw (ap (λ y. y.entries) x, ap (λ y. y.looks) x, e, f ∙ sym (ap first_cell h)) (ap taken h)

-- the slices stay the same ones through no step, and through one step more
pub same_at : (r : Run) (q : Queue) → SameSlices r r q q
same_at r q = record { levels = refl; flow = refl; order = refl; places = refl; queue = refl }

pub same_after : (r r' r'' : Run) (q q' q'' : Queue) → SameSlices r r' q q' → SameSlices r' r'' q' q'' → SameSlices r r'' q q''
same_after r r' r'' q q' q'' a b =
    record { levels = b.levels ∙ a.levels; flow = b.flow ∙ a.flow; order = b.order ∙ a.order; places = b.places ∙ a.places; queue = b.queue ∙ a.queue }

-- slices in which nothing is known, the work parted into queue, order and places, hold the first state
pub blank_held : (n len : ℕ) (ls fl wk q o p : List ℕ) → ls ≡ replicate n none → fl ≡ replicate n none → wk ≡ replicate (3 * n) none →
    q ≡ take n wk → o ≡ take n (drop n wk) → p ≡ drop n (drop n wk) → len ≡ 0 →
    record { levels = ls; flow = fl; places = p; puts = (blank n).puts; order = o; placed = 0; queue = q; queued = len; looks = 0 } ≡ blank n
unfolding blank
blank_held n len ls fl wk q o p levels flow work queue order places empty =
    let order_long : n ≤ 3 * n - n = omega arith in
    let queue_long : n ≤ 3 * n = omega arith in
    let places_long : 3 * n - n - n ≡ n = omega arith in
    rw (levels, flow, queue, order, places, empty, work, drop-replicate n (3 * n) none, drop-replicate n (3 * n - n) none, places_long, take-replicate n (3 * n - n) none order_long, take-replicate n (3 * n) none queue_long) refl
