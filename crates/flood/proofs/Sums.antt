-- Sums over cells: two compared, one place changed, and where a sum is not 0.
use Rattle.std.proofs.Common.{◌≡◌, ℕ, zero, suc, ◌+◌, ◌<◌, ◌≤◌, List, length, get_or, take, set, sum_by, sym, refl, ap, ◌∙◌, inl, inr, add-one, arith, get_or-set_other, get_or-set_same}
use Rattle.std.proofs.lemmas.List.Sums.{sum_by_more}
use Rattle.std.proofs.lemmas.Bool.{cases_eq, cases_lt}
use Rattle.flood.specs.Sums.{sum}

pub sum_same : (g h : ℕ → ℕ) (n : ℕ) → ((c : ℕ) → c < n → g c ≡ h c) → sum g n ≡ sum h n
sum_same g h zero e = refl
sum_same g h (suc n) e = let ih = sum_same g h n in grind arith

pub sum_add : (g h : ℕ → ℕ) (n : ℕ) → sum (λ c. g c + h c) n ≡ sum g n + sum h n
sum_add g h zero = omega arith
sum_add g h (suc n) = omega (arith, sum_add g h n)

pub sum_zero : (g : ℕ → ℕ) (n : ℕ) → ((c : ℕ) → c < n → g c ≡ 0) → sum g n ≡ 0
sum_zero g zero e = refl
sum_zero g (suc n) e = let ih = sum_zero g n in grind arith

pub sum_ones : (n : ℕ) → sum (λ _. 1) n ≡ n
sum_ones zero = refl
sum_ones (suc n) = omega (arith, sum_ones n)

pub sum_le : (g h : ℕ → ℕ) (n : ℕ) → ((c : ℕ) → c < n → g c ≤ h c) → sum g n ≤ sum h n
sum_le g h zero e = omega arith
sum_le g h (suc n) e = let ih = sum_le g h n in grind arith

pub sum_less : (g h : ℕ → ℕ) (n c : ℕ) → ((x : ℕ) → x < n → g x ≤ h x) → c < n → g c < h c → sum g n < sum h n
sum_less g h zero c e a b = absurd (omega arith)
sum_less g h (suc n) c e a b = let ih = sum_less g h n c in let le = sum_le g h n in let i = cases_eq c n in grind arith

pub le_sum : (g : ℕ → ℕ) (n c : ℕ) → c < n → g c ≤ sum g n
le_sum g zero c a = absurd (omega arith)
le_sum g (suc n) c a = let ih = le_sum g n c in let e = cases_eq c n in grind arith

-- two that differ at most at c
sum_change : (g h : ℕ → ℕ) (n c : ℕ) → c < n → ((x : ℕ) → (x ≡ c → ⊥) → g x ≡ h x) → sum g n + h c ≡ sum h n + g c
sum_change g h zero c a e = absurd (omega arith)
sum_change g h (suc n) c a e = let ih = sum_change g h n c in let same = sum_same g h n in let i = cases_eq c n in grind (arith, e n)

-- v is written into a list at c, and P gives a number to each cell and what stands there
pub sum_set : (P : ℕ → ℕ → ℕ) (xs : List ℕ) (n c v : ℕ) → c < n → c < length xs →
    sum (λ x. P x (get_or (set xs c v) x 0)) n + P c (get_or xs c 0) ≡ sum (λ x. P x (get_or xs x 0)) n + P c v
sum_set P xs n c v a b =
    let here = ap (P c) (get_or-set_same xs c v 0 b) in
    omega (arith, here, sum_change (λ x. P x (get_or (set xs c v) x 0)) (λ x. P x (get_or xs x 0)) n c a (λ x e. ap (P x) (get_or-set_other xs c x v 0 e)))

-- a sum that is not 0 has a part that is not 0
pub sum_some : (g : ℕ → ℕ) (n : ℕ) → 0 < sum g n → (c : ℕ) × (c < n) × (0 < g c)
sum_some g zero p = absurd (omega arith)
sum_some g (suc n) p = elim (cases_lt 0 (g n)) [
  | inl q ↦ (n, omega arith, q)
  | inr q ↦ let r = sum_some g n (omega arith) in (r.0, omega (arith, r.1), r.2)
]

-- the same of the first n entries of a list
front_more : (g : ℕ → ℕ) (xs : List ℕ) (n : ℕ) → n < length xs → sum_by g (take (suc n) xs) ≡ sum_by g (take n xs) + g (get_or xs n 0)
front_more g xs n a = ap (λ m. sum_by g (take m xs)) (sym (add-one n)) ∙ sum_by_more g xs n 0 a

pub front_some : (g : ℕ → ℕ) (xs : List ℕ) (n : ℕ) → n ≤ length xs → 0 < sum_by g (take n xs) → (k : ℕ) × (k < n) × (0 < g (get_or xs k 0))
front_some g xs zero le p = absurd (omega arith)
front_some g xs (suc n) le p = elim (cases_lt 0 (g (get_or xs n 0))) [
  | inl q ↦ (n, omega arith, q)
  | inr q ↦ let r = front_some g xs n (omega arith) (omega (arith, front_more g xs n (omega arith))) in (r.0, omega (arith, r.1), r.2)
]

pub le_front : (g : ℕ → ℕ) (xs : List ℕ) (n k : ℕ) → n ≤ length xs → k < n → g (get_or xs k 0) ≤ sum_by g (take n xs)
le_front g xs zero k le a = absurd (omega arith)
le_front g xs (suc n) k le a = let more = front_more g xs n (omega arith) in let ih = le_front g xs n k in let i = cases_eq k n in grind arith
