-- What holds of every state that the rule comes to.
use Rattle.std.proofs.Common.{◌≡◌, ℕ, ◌+◌, ◌*◌, ◌^◌, ◌<◌, ◌≤◌, max, Bool, true, false, cond, ltb, ◌⊎◌, List, length, get_or, take, set, sum_by, ap, ◌∙◌, inl, inr, get_or-set_other, get_or-set_same}
use Rattle.std.proofs.lemmas.Bool.{cases_eq}
use Rattle.model.specs.Land.{Land}
use Rattle.queue.specs.Heap.{word, Heap}
use Rattle.flood.specs.Sums.{sum}
use Rattle.flood.specs.Run.{none, State, flow_of}
use Rattle.flood.proofs.Filling.{Filled, Telling, Waits}
use Rattle.flood.proofs.Choosing.{Chosen}

-- a number stands at c
abbrev pub has : List ℕ → ℕ → Bool
has xs c = ltb (get_or xs c 0) none

-- c stands in the queue: it has a level and no place
abbrev pub stands : State → ℕ → Bool
stands s c = cond (has s.places c) false (has s.levels c)

-- the lists are as long as the land has cells
pub record Long (n : ℕ) (s : State) : Type 0 where
  pub levels : length s.levels ≡ n
  pub flow : length s.flow ≡ n
  pub places : length s.places ≡ n
  pub puts : length s.puts ≡ n
  pub order : length s.order ≡ n
  pub queue : length s.queue ≡ n

-- the queue holds the words of the cells that stand in it: whatever number g gives to a word, the sums agree
abbrev pub Content : ℕ → State → Type 0
Content n s = (g : ℕ → ℕ) → sum_by g (take s.queued s.queue) ≡ sum (λ c. cond (stands s c) (g (word (get_or s.levels c 0) c)) 0) n

-- how the lists hang together, where the water stands at w
pub record Frame (l : Land) (s : State) (w : ℕ) : Type 0 where
  pub long : Long l.cells s
  pub heap : Heap s.queue s.queued
  pub content : Content l.cells s
  pub size : sum (λ c. cond (stands s c) 1 0) l.cells ≡ s.queued
  pub count : sum (λ c. cond (has s.places c) 1 0) l.cells ≡ s.placed
  pub once : (c : ℕ) → c < l.cells → get_or s.puts c 0 ≡ cond (has s.levels c) 1 0
  pub level : (c : ℕ) → c < l.cells → has s.places c ≡ true → has s.levels c ≡ true
  pub below : (c : ℕ) → c < l.cells → has s.levels c ≡ true → get_or s.levels c 0 ≤ max (l.height c) w
  pub yet : (c : ℕ) → c < l.cells → has s.levels c ≡ false → get_or s.levels c 0 ≡ none
  pub unplaced : (c : ℕ) → c < l.cells → has s.places c ≡ false → get_or s.places c 0 ≡ none
  pub listed : (c : ℕ) → c < l.cells → has s.places c ≡ true → get_or s.order (get_or s.places c 0) 0 ≡ c
  pub cell_at : (k : ℕ) → k < s.placed → get_or s.order k 0 < l.cells
  pub place_at : (k : ℕ) → k < s.placed → get_or s.places (get_or s.order k 0) 0 ≡ k
  pub sends_off : (c : ℕ) → c < l.cells → has s.levels c ≡ true → l.leaves c ≡ true → get_or s.flow c 0 ≡ none
  pub sends : (c : ℕ) → c < l.cells → has s.levels c ≡ true → l.leaves c ≡ false → get_or s.flow c 0 < l.cells
  pub water_fits : w < none
  pub few : (k : ℕ) → l.cells ≤ 2 ^ k → s.looks ≤ k * (s.queued + 2 * s.placed)

-- between turns
pub record Good (l : Land) (s : State) (w : ℕ) : Type 0 where
  pub frame : Frame l s w
  pub filled : Filled l (has s.places) (flow_of s) w s.placed
  pub waits : Waits l (has s.places) (has s.levels) (flow_of s)
  pub chosen : Chosen l (has s.places) (has s.levels) (flow_of s)

-- in a turn: c is taken, and the cells of `left` are yet to be told
pub record Mid (l : Land) (s : State) (c w : ℕ) (left : List ℕ) : Type 0 where
  pub frame : Frame l s w
  pub filled : Filled l (has s.places) (flow_of s) w s.placed
  pub cell : c < l.cells
  pub placed : has s.places c ≡ true
  pub level : get_or s.levels c 0 ≡ w
  pub last : get_or s.places c 0 + 1 ≡ s.placed
  pub telling : Telling l (has s.places) (has s.levels) (flow_of s) c left
  pub chosen : Chosen l (has s.places) (has s.levels) (flow_of s)

-- x is d, at which v was written into a list; or it is not, and stands as it stood
pub record Written (ys : List ℕ) (d v x : ℕ) : Type 0 where
  pub is : x ≡ d
  pub now : get_or ys x 0 ≡ v

pub record Stayed (xs ys : List ℕ) (d x : ℕ) : Type 0 where
  pub isnt : x ≡ d → ⊥
  pub now : get_or ys x 0 ≡ get_or xs x 0

abbrev pub Changed : List ℕ → ℕ → ℕ → ℕ → Type 0
Changed xs d v x = Written (set xs d v) d v x ⊎ Stayed xs (set xs d v) d x

pub wrote : (xs : List ℕ) (d v : ℕ) → d < length xs → (x : ℕ) → Changed xs d v x
wrote xs d v a x = elim (cases_eq x d) [
  | inl e ↦ inl (record { is = e; now = ap (λ k. get_or (set xs d v) k 0) e ∙ get_or-set_same xs d v 0 a })
  | inr e ↦ inr (record { isnt = e; now = get_or-set_other xs d x v 0 e })
]
