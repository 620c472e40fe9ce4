-- Cells counted at their exits, as the program counts them.
use Rattle.std.proofs.Common.{◌≡◌, ℕ, ◌<◌, ◌≤◌, cond, eqb, List, length, get_or, ap, ◌∙◌, inl, inr, arith}
use Rattle.std.proofs.lemmas.List.FromFn.{fill_by_all}
use Rattle.std.proofs.lemmas.List.{get_or_past}
use Rattle.std.proofs.lemmas.Bool.{cases_lt}
use Rattle.std.proofs.lemmas.Bool.Decides.{nat_tests}
use Rattle.amounts.proofs.Sums.{sum_limit}
use Rattle.basins.specs.Parting.{cells_at, cells_of}

-- the first c cells are counted
abbrev pub Counted : (exits cells : List ℕ) → ℕ → Type 0
Counted exits cells c = (e : ℕ) → e < length cells → get_or cells e 0 ≡ cells_at exits e c

pub count_low : (exits cells : List ℕ) (c x : ℕ) → Counted exits cells c → get_or cells x 0 ≤ c
count_low exits cells c x counted = elim (cases_lt x (length cells)) [
  | inl a ↦ omega (arith, counted x a, sum_limit (λ k. cond (eqb (get_or exits k 0) x) 1 0) c 1 (λ k b. grind (arith, nat_tests)))
  | inr a ↦ omega (arith, get_or_past cells x 0 a)
]

pub count_all : (exits cells : List ℕ) (c : ℕ) → c ≡ length exits → length cells ≡ length exits → Counted exits cells c → cells ≡ cells_of exits
count_all exits cells c all long counted =
    fill_by_all (λ e. cells_at exits e (length exits)) cells (length exits) 0 long (λ e a. counted e (omega arith) ∙ ap (cells_at exits e) all)
