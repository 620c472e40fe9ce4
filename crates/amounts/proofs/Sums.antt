-- Sums over cells: of a number that stands at one place only, and what one place more adds.
use Rattle.std.proofs.Common.{◌≡◌, ℕ, zero, suc, ◌+◌, ◌*◌, ◌<◌, ◌≤◌, cond, eqb, List, length, get_or, take, sum_by, sym, refl, ap, ◌∙◌, add-one, arith}
use Rattle.std.proofs.Math.Seq.{take-length}
use Rattle.std.proofs.lemmas.List.Sums.{sum_by_more}
use Rattle.std.proofs.lemmas.Bool.Decides.{nat_tests}
use Rattle.std.proofs.lemmas.Bool.{cases_eq}
use Rattle.flood.specs.Sums.{sum}
use Rattle.flood.proofs.Sums.{sum_same}

-- x at t, and 0 elsewhere
sum_none : (t x n : ℕ) → n ≤ t → sum (λ c. cond (eqb t c) x 0) n ≡ 0
sum_none t x zero a = refl
sum_none t x (suc n) a = let ih = sum_none t x n in grind (arith, nat_tests)

pub sum_one : (t x n : ℕ) → t < n → sum (λ c. cond (eqb t c) x 0) n ≡ x
sum_one t x zero a = absurd (omega arith)
sum_one t x (suc n) a = let ih = sum_one t x n in let none = sum_none t x n in grind (arith, nat_tests)

-- two that are equal but at c, where one has nothing
pub sum_more : (g h : ℕ → ℕ) (n c : ℕ) → c < n → g c ≡ 0 → ((x : ℕ) → x < n → (x ≡ c → ⊥) → h x ≡ g x) → sum h n ≡ sum g n + h c
sum_more g h zero c a z e = absurd (omega arith)
sum_more g h (suc n) c a z e =
    let ih = sum_more g h n c in
    let same = sum_same h g n in
    let i = cases_eq c n in grind arith

-- no part above a limit
pub sum_limit : (g : ℕ → ℕ) (n most : ℕ) → ((c : ℕ) → c < n → g c ≤ most) → sum g n ≤ n * most
sum_limit g zero most e = omega arith
sum_limit g (suc n) most e = let ih = sum_limit g n most in let here = e n in grind arith

-- the sum over a list, by what stands at each place
front_each : {X : Type 0} (f : X → ℕ) (g : ℕ → ℕ) (xs : List X) (d : X) → ((c : ℕ) → c < length xs → f (get_or xs c d) ≡ g c) → (n : ℕ) → n ≤ length xs →
    sum_by f (take n xs) ≡ sum g n
front_each f g xs d e zero a = refl
front_each f g xs d e (suc n) a =
    omega (arith, front_each f g xs d e n (omega arith), ap (λ k. sum_by f (take k xs)) (sym (add-one n)), sum_by_more f xs n d (omega arith), e n (omega arith))

pub sum_each : {X : Type 0} (f : X → ℕ) (g : ℕ → ℕ) (xs : List X) (d : X) → ((c : ℕ) → c < length xs → f (get_or xs c d) ≡ g c) → sum_by f xs ≡ sum g (length xs)
sum_each f g xs d e = ap (sum_by f) (sym (take-length xs)) ∙ front_each f g xs d e (length xs) (omega arith)
