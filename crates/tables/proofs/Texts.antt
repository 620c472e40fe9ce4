-- What is said of one cell more.
use Rattle.std.proofs.Common.{◌≡◌, ℕ, zero, suc, ◌+◌, ◌<◌, List, ◌++◌, sym, refl, ap, ◌∙◌, ap₂, append_assoc, add-one, arith}
use Rattle.amounts.specs.Joined.{joined}

pub joined_more : (first now after : List ℕ) (said : ℕ → List ℕ) (c : ℕ) → now ≡ first ++ joined said c → after ≡ now ++ said c → after ≡ first ++ joined said (c + 1)
joined_more first now after said c e f = f ∙ (ap (λ t. t ++ said c) e ∙ (append_assoc first (joined said c) (said c) ∙ ap (λ k. first ++ joined said k) (sym (add-one c))))

-- the same is said where it is the same of each cell
pub joined_same : (f g : ℕ → List ℕ) (n : ℕ) → ((c : ℕ) → c < n → f c ≡ g c) → joined f n ≡ joined g n
joined_same f g zero same = refl
joined_same f g (suc n) same = ap₂ ◌++◌ (joined_same f g n (λ c a. same c (omega arith))) (same n (omega arith))
