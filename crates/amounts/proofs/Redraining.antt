-- Old levels that stand in the front of the amounts while new ones are found.
use Rattle.std.proofs.Common.{Bool, not, count_by, ◌≡◌, ℕ, ◌<◌, ◌≤◌, cond, eqb, List, ◌++◌, length, get_or, take, drop, ap, ◌∙◌, arith, length-take}
use Rattle.std.proofs.lemmas.List.{take_at, drop_at, get_or-take}
use Rattle.std.proofs.lemmas.Bool.{cases_Bool}
use Rattle.std.proofs.lemmas.Bool.Decides.{nat_tests}
use Rattle.std.specs.List.{zip}
use Rattle.std.proofs.lemmas.Slice.Zip.{length-zip, get_or-zip}
use Rattle.flood.proofs.Sums.{sum_same}
use Rattle.amounts.proofs.Sums.{sum_each}
use Rattle.amounts.specs.Again.{differs, levels_changed}

-- they are as long as the front
front_long : (before front : List ℕ) (k : ℕ) → k ≤ length before → front ≡ take k before → length front ≡ k
front_long before front k long e = ap length e ∙ (length-take k before ∙ omega arith)

-- behind them the amounts are as they were
pub behind_kept : (before am front : List ℕ) (k n : ℕ) → k ≡ n → k ≤ length before → front ≡ take k before → drop n (front ++ drop k am) ≡ drop n am
behind_kept before am front k n same long e = drop_at front (drop k am) n (front_long before front k long e ∙ same) ∙ ap (λ x. drop x am) same

-- so what is counted against them is counted against the old levels
pub counted : (before after am front : List ℕ) (k n : ℕ) → k ≡ n → k ≤ length before → front ≡ take k before →
    levels_changed (take k (front ++ drop k am)) after (length (take k (front ++ drop k am))) ≡ levels_changed before after n
counted before after am front k n same long e =
    let first = take_at front (drop k am) k (front_long before front k long e) ∙ e in
    let size : length (take k before) ≡ n = length-take k before ∙ omega arith in
    ap (λ xs. levels_changed xs after (length xs)) first ∙
    (ap (levels_changed (take k before) after) size ∙
    sum_same (differs (take k before) after) (differs before after) n (λ c a.
    let within : c < k = omega arith in
    ap (λ x. cond (eqb x (get_or after c 0)) 0 1) (get_or-take k before c 0 within)))

-- whether two levels differ
abbrev pub pair_differs : ℕ × ℕ → Bool
pair_differs p = not (eqb p.0 p.1)

pub changes_counted : (before after : List ℕ) → length before ≤ length after → count_by pair_differs (zip before after) ≡ levels_changed before after (length before)
changes_counted before after same =
    let long : length (zip before after) ≡ length before = omega (arith, length-zip before after) in
    sum_each (λ p. cond (pair_differs p) 1 0) (differs before after) (zip before after) (0, 0) (λ c a. let at = get_or-zip before after c (0, 0) (omega arith) (omega arith) in let i = cases_Bool (eqb (get_or before c 0) (get_or after c 0)) in rw at (grind (arith, nat_tests))) ∙ ap (levels_changed before after) long
