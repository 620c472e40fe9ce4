-- A lower bound of all entries of a heap bounds what is left after a pop.
use Rattle.std.proofs.Common.{◌≡◌, ℕ, zero, suc, ◌≤◌, if◌then◌else◌, nat_lt, List, length, take, sum_by, refl, add-one, arith}
use Rattle.std.proofs.lemmas.List.{get_or-take, length-take}
use Rattle.std.proofs.lemmas.List.Sums.{sum_by_more, get_or-le-sum_by}
use Rattle.std.proofs.lemmas.Bool.Decides.{nat_tests}
use Rattle.queue.specs.Heap.{Least, Gains}

-- 1 below v, else 0
abbrev under : ℕ → ℕ → ℕ
under v x = if nat_lt x v then 1 else 0

none_under : (v : ℕ) (xs : List ℕ) (n : ℕ) → n ≤ length xs → Least v xs n → sum_by (under v) (take n xs) ≡ 0
none_under v xs zero long least = refl
none_under v xs (suc n) long least = rw (← add-one n) (grind (arith, nat_tests, sum_by_more (under v) xs n 0 (omega arith), none_under v xs n (omega arith) (λ k l. least k (omega arith)), least n (omega arith)))

-- what is at most each of the entries with x is at most each without it
pub least_without : (xs ys : List ℕ) (n m x v : ℕ) → n ≤ length xs → m ≤ length ys → Gains xs n x ys m → Least v ys m → Least v xs n
least_without xs ys n m x v short long gains least k l = grind (arith, nat_tests, gains (under v), none_under v ys m long least, get_or-le-sum_by (under v) (take n xs) k 0 (simp length-take (omega arith)), get_or-take n xs k 0 l)
