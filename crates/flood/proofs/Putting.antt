-- A cell gets a level and is put into the queue: what holds of the state then.
use Rattle.std.proofs.Common.{◌≡◌, ℕ, ◌+◌, ◌<◌, ◌≤◌, max, true, false, cond, ltb, get_or, set, ◌∙◌, inl, inr, arith, length-set, lt-ltb}
use Rattle.std.proofs.lemmas.Bool.Decides.{nat_tests}
use Rattle.std.proofs.lemmas.Bool.{cases_Bool}
use Rattle.model.specs.Land.{Land}
use Rattle.queue.specs.Heap.{word, pushed}
use Rattle.queue.proofs.Laws.{AfterPush, after_push, pushed_length}
use Rattle.flood.specs.Sums.{sum}
use Rattle.flood.specs.Run.{none, State, put}
use Rattle.flood.proofs.Sums.{sum_add, sum_ones, sum_le, sum_less, sum_set}
use Rattle.flood.proofs.Kept.{has, stands, Frame, wrote}

-- 1 for a cell that stands in the queue or has a place
abbrev known : State → ℕ → ℕ
known s c = cond (stands s c) 1 0 + cond (has s.places c) 1 0

-- no cell is counted twice
known_one : (s : State) (c : ℕ) → known s c ≤ 1
known_one s c = elim (cases_Bool (has s.places c)) [
  | inl e ↦ rw e (omega arith)
  | inr e ↦ rw e (elim (cases_Bool (has s.levels c)) [ inl f ↦ rw f (omega arith) | inr f ↦ rw f (omega arith) ])
]

-- and they are as many as stand in the queue or have places
known_all : (l : Land) (s : State) (w : ℕ) → Frame l s w → sum (known s) l.cells ≡ s.queued + s.placed
known_all l s w fr = omega (arith, fr.size, fr.count, sum_add (λ c. cond (stands s c) 1 0) (λ c. cond (has s.places c) 1 0) l.cells)

-- no more cells stand in the queue or have a place than there are
pub fits : (l : Land) (s : State) (w : ℕ) → Frame l s w → s.queued + s.placed ≤ l.cells
fits l s w fr = omega (arith, known_all l s w fr, sum_ones l.cells, sum_le (known s) (λ _. 1) l.cells (λ x _. known_one s x))

-- while a cell has no level they are fewer
pub room : (l : Land) (s : State) (w d : ℕ) → Frame l s w → d < l.cells → has s.levels d ≡ false → s.queued + s.placed < l.cells
room l s w d fr cell new =
    let free : has s.places d ≡ false = grind (arith, fr.level d) in
    let here : known s d < 1 = rw (free, new) (omega arith) in
    omega (arith, known_all l s w fr, sum_ones l.cells, sum_less (known s) (λ _. 1) l.cells d (λ x _. known_one s x) cell here)

-- what a cell of level v adds to a sum over the queue
abbrev part : (ℕ → ℕ) → State → ℕ → ℕ → ℕ
part g s x v = cond (cond (has s.places x) false (ltb v none)) (g (word v x)) 0

module _ (l : Land) (s : State) (w v t d : ℕ) (fr : Frame l s w) (cell : d < l.cells) (new : has s.levels d ≡ false) (low : l.height d < none)
    (under : v ≤ max (l.height d) w) (off : l.leaves d ≡ true → t ≡ none) (to : l.leaves d ≡ false → t < l.cells) where
  free : has s.places d ≡ false
  free = grind (arith, fr.level d)

  small : v < none
  small = omega (arith, fr.water_fits)

  left : AfterPush s.queue s.queued (word v d) (pushed s.queue s.queued (word v d))
  left = after_push s.queue s.queued (word v d) (omega (arith, fr.long.queue, room l s w d fr cell new))

  -- one word more stands in the queue
  more : (g : ℕ → ℕ) → sum (λ c. part g s c (get_or (set s.levels d v) c 0)) l.cells ≡ sum (λ c. part g s c (get_or s.levels c 0)) l.cells + g (word v d)
  more g =
      let new_is : part g s d v ≡ g (word v d) = rw (free, lt-ltb v none small) in
      let old_is : part g s d (get_or s.levels d 0) ≡ 0 = rw (free, new) in
      omega (arith, new_is, old_is, sum_set (part g s) s.levels l.cells d v cell (omega (arith, fr.long.levels)))

  pub put_frame : Frame l (put v t d s) w
  unfolding put
  put_frame =
      let ls = wrote s.levels d v (omega (arith, fr.long.levels)) in
      let fs = wrote s.flow d t (omega (arith, fr.long.flow)) in
      let p = get_or s.puts d 0 + 1 in
      let ps = wrote s.puts d p (omega (arith, fr.long.puts)) in
      let r = room l s w d fr cell new in
      let sm = small in
      let fe = free in
      record {
        long = record {
          levels = length-set s.levels d v ∙ fr.long.levels;
          flow = length-set s.flow d t ∙ fr.long.flow;
          places = fr.long.places;
          puts = length-set s.puts d p ∙ fr.long.puts;
          order = fr.long.order;
          queue = pushed_length s.queue s.queued (word v d) ∙ fr.long.queue;
        };
        heap = left.order fr.heap;
        content = λ g. left.content g ∙ omega (arith, more g, fr.content g);
        size = more (λ _. 1) ∙ omega (arith, fr.size);
        count = fr.count;
        once = λ x a. let l = ls x in let q = ps x in grind (arith, nat_tests, fr.once x);
        level = λ x a e. let l = ls x in grind (arith, nat_tests, fr.level x);
        below = λ x a e. let l = ls x in grind (arith, nat_tests, fr.below x);
        yet = λ x a e. let l = ls x in grind (arith, nat_tests, fr.yet x);
        unplaced = fr.unplaced;
        listed = fr.listed;
        cell_at = fr.cell_at;
        place_at = fr.place_at;
        sends_off = λ x a e o. let l = ls x in let f = fs x in grind (arith, nat_tests, fr.sends_off x);
        sends = λ x a e o. let l = ls x in let f = fs x in grind (arith, nat_tests, fr.sends x);
        water_fits = fr.water_fits;
        few = λ k le. omega (arith, left.few k (omega arith), fr.few k le);
      }
