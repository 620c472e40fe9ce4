-- A heap with one free place: how the free place moves, and what may be put into it.
use Rattle.std.proofs.Common.{◌≡◌, ℕ, ◌+◌, ◌-◌, ◌*◌, ◌<◌, ◌≤◌, List, length, get_or, set, arith}
use Rattle.std.proofs.lemmas.Bool.Decides.{nat_tests}
use Rattle.std.proofs.lemmas.Grind.{elements}
use Rattle.queue.specs.Heap.{parent_of, Heap, lesser}

-- the first n entries are in order but for the free place i, whose parent is at most each of its children
pub record Gap (xs : List ℕ) (i n : ℕ) : Type 0 where
  pub apart : (p k : ℕ) → 2 * p + 1 ≤ k → k ≤ 2 * p + 2 → k < n → (p ≡ i → ⊥) → (k ≡ i → ⊥) → get_or xs p 0 ≤ get_or xs k 0
  pub across : (p k : ℕ) → 2 * p + 1 ≤ i → i ≤ 2 * p + 2 → 2 * i + 1 ≤ k → k ≤ 2 * i + 2 → k < n → get_or xs p 0 ≤ get_or xs k 0

-- a heap with a free place behind it, and one whose first place is free
pub gap_last : (xs : List ℕ) (n : ℕ) → Heap xs n → Gap xs n (n + 1)
gap_last xs n h = record { apart = λ p k a b f u v. grind (arith, h k); across = λ p k a b d e f. absurd (omega arith) }

pub gap_first : (xs : List ℕ) (n : ℕ) → Heap xs n → Gap xs 0 (n - 1)
gap_first xs n h = record { apart = λ p k a b f u v. grind (arith, h k); across = λ p k a b d e f. absurd (omega arith) }

-- x is at most each child of i; and at least its parent
abbrev pub Under : List ℕ → ℕ → ℕ → ℕ → Type 0
Under xs i n x = (k : ℕ) → 2 * i + 1 ≤ k → k ≤ 2 * i + 2 → k < n → x ≤ get_or xs k 0

abbrev pub Over : List ℕ → ℕ → ℕ → Type 0
Over xs i x = (p : ℕ) → 2 * p + 1 ≤ i → i ≤ 2 * p + 2 → get_or xs p 0 ≤ x

-- y fits into the free place i
pub closes : (xs : List ℕ) (i y : ℕ) → i < length xs → (n : ℕ) → Gap xs i n → Under xs i n y → Over xs i y → Heap (set xs i y) n
closes xs i y long n g under over k a b = grind (arith, elements, g.apart (parent_of k) k, under k, over (parent_of k))

-- the entry at the parent j of i is written into i, and j is free then
module _ (xs : List ℕ) (i n j : ℕ) (long : i < length xs) (from : 2 * j + 1 ≤ i) (to : i ≤ 2 * j + 2) (g : Gap xs i n) where
  pub gap_up : i < n → Gap (set xs i (get_or xs j 0)) j n
  gap_up inside = record {
    apart = λ p k a b f u v. grind (arith, elements, g.across j k, g.apart p k);
    across = λ p k a b c d f. grind (arith, elements, g.apart p j, g.apart j k);
  }

  pub under_up : (x : ℕ) → x < get_or xs j 0 → Under (set xs i (get_or xs j 0)) j n x
  under_up x h = λ k a b f. grind (arith, elements, g.apart j k)

-- the entry at the lesser child c of i is written into i, and c is free then
module _ (xs : List ℕ) (i c : ℕ) (long : i < length xs) (from : 2 * i + 1 ≤ c) (to : c ≤ 2 * i + 2) where
  pub gap_down : (n : ℕ) → c < n → Under xs i n (get_or xs c 0) → Gap xs i n → Gap (set xs i (get_or xs c 0)) c n
  gap_down n inside least g = record {
    apart = λ p k a b f u v. grind (arith, elements, least k, g.across p c, g.apart p k);
    across = λ p k a b d e f. grind (arith, elements, g.apart c k);
  }

  pub over_down : (x : ℕ) → get_or xs c 0 < x → Over (set xs i (get_or xs c 0)) c x
  over_down x h = λ p a b. grind (arith, elements)

-- where the lesser child is, and that it is at most each child
pub record Child (xs : List ℕ) (n i c : ℕ) : Type 0 where
  pub from : 2 * i + 1 ≤ c
  pub to : c ≤ 2 * i + 2
  pub within : c < n
  pub least : Under xs i n (get_or xs c 0)

pub lesser_child : (xs : List ℕ) (n i : ℕ) → 2 * i + 1 < n → Child xs n i (lesser xs n i)
lesser_child xs n i h = record {
  from = grind (arith, nat_tests);
  to = grind (arith, nat_tests);
  within = grind (arith, nat_tests);
  least = λ k a b f. grind (arith, nat_tests);
}
