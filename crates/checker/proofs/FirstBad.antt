-- The first cell of which something does not hold, cell after cell.
use Rattle.std.proofs.Common.{◌≡◌, ℕ, zero, suc, ◌+◌, ◌-◌, ◌<◌, ◌≤◌, Bool, true, false, cond, Some, None, Option, refl, ap, add-one, arith}
use Rattle.std.proofs.lemmas.Bool.{cases_Bool, cases_lt}
use Rattle.std.specs.Option.{option_map}
use Rattle.model.specs.declared.units.Cell.{Cell}
use Rattle.model.specs.declared.refusal.Refusal.{Refusal}
use Rattle.checker.specs.Faults.{first_bad, refused_by}
use Rattle.checker.specs.Theorems.{FirstIsFirst}

-- cell c is the first of those that are left
pub bad_next : (ok : ℕ → Bool) (c n : ℕ) → c < n → first_bad ok c (n - c) ≡ cond (ok c) (first_bad ok (c + 1) (n - (c + 1))) (Some c)
unfolding first_bad
bad_next ok c n h = let e : n - c ≡ suc (n - (c + 1)) = omega arith in rw (e, add-one) refl

-- no cell is left
pub bad_none : (ok : ℕ → Bool) (c n : ℕ) → n ≤ c → first_bad ok c (n - c) ≡ None
unfolding first_bad
bad_none ok c n h = let e : n - c ≡ 0 = omega arith in rw e refl

-- there is none where it holds of all, and only there
all_good : (ok : ℕ → Bool) (k c : ℕ) → ((d : ℕ) → c ≤ d → d < c + k → ok d ≡ true) → first_bad ok c k ≡ None
unfolding first_bad
all_good ok zero c each = refl
all_good ok (suc k) c each = rw (each c (omega arith) (omega arith)) (all_good ok k (suc c) (λ d a b. each d (omega arith) (omega arith)))

each_good : (ok : ℕ → Bool) (k c d : ℕ) → first_bad ok c k ≡ None → c ≤ d → d < c + k → ok d ≡ true
unfolding first_bad
each_good ok zero c d e a b = absurd (omega arith)
each_good ok (suc k) c d e a b = let ih = each_good ok k (suc c) d in let o = cases_Bool (ok c) in let l = cases_lt c d in grind arith

-- what holds of the first of the k cells from c on
bad_first : (ok : ℕ → Bool) (k c d : ℕ) → first_bad ok c k ≡ Some d → (c ≤ d) × (d < c + k) × (ok d ≡ false) × ((x : ℕ) → c ≤ x → x < d → ok x ≡ true)
unfolding first_bad
bad_first ok zero c d e = cc
bad_first ok (suc k) c d e = let ih = bad_first ok k (suc c) d in let o = cases_Bool (ok c) in (grind arith, grind arith, grind arith, λ x a b. let l = cases_lt c x in grind arith)

pub first_is_first : FirstIsFirst
first_is_first ok n c e = let first = bad_first ok n 0 c e in (omega (arith, first.1), first.2, λ x b. first.3 x (omega arith) b)

-- so no cell is refused
no_number : {A B : Type 0} (f : A → B) (o : Option A) → option_map f o ≡ None → o ≡ None
no_number f None e = refl
no_number f (Some x) e = cc

pub none_refused : (why : Cell → Refusal) (ok : ℕ → Bool) (n : ℕ) → refused_by why ok n ≡ None → (c : ℕ) → c < n → ok c ≡ true
none_refused why ok n e c a = each_good ok n 0 c (no_number _ (first_bad ok 0 n) e) (omega arith) (omega arith)

pub none_to_refuse : (why : Cell → Refusal) (ok : ℕ → Bool) (n : ℕ) → ((c : ℕ) → c < n → ok c ≡ true) → refused_by why ok n ≡ None
none_to_refuse why ok n each = ap (option_map (λ c. why (record { 0 = c }))) (all_good ok n 0 (λ c a b. each c (omega arith)))
