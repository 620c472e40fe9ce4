-- On any list a walk over as many cells as there are is long enough: it comes to no cell twice before it ends.
use Rattle.std.proofs.Common.{◌≡◌, ℕ, zero, suc, ◌+◌, ◌<◌, Bool, true, false, cond, not, ◌||◌, eqb, List, get_or, is_some, Some, None, Option, sym, refl, ap, ◌∙◌, inl, inr, arith}
use Rattle.std.proofs.lemmas.Bool.{cases_Bool, lt-ltb, or_from}
use Rattle.std.proofs.lemmas.Bool.Decides.{nat_tests}
use Rattle.flood.specs.Levels.{Flow}
use Rattle.flood.specs.Run.{none}
use Rattle.flood.specs.Sums.{sum}
use Rattle.flood.proofs.Sums.{sum_same}
use Rattle.amounts.specs.Amounts.{Acyclic}
use Rattle.basins.specs.Walks.{walked, WalkEndsOff, WalkLongEnough}
use Rattle.basins.proofs.Walking.{rank, rank_small, rank_falls}

module _ (flow : List ℕ) (n : ℕ) where
  ends_off : (k c e : ℕ) → walked flow n k c ≡ Some e → (e < n) × (get_or flow e 0 ≡ none)
  ends_off zero c e w = grind arith
  ends_off (suc k) c e w = let ih = ends_off k (get_or flow c 0) e in grind (arith, nat_tests)

  -- a walk that found an exit finds it in more steps too
  longer : (k c e : ℕ) → walked flow n k c ≡ Some e → walked flow n (suc k) c ≡ Some e
  longer zero c e w = grind arith
  longer (suc k) c e w = let ih = longer k (get_or flow c 0) e in grind (arith, nat_tests)

sum_first : (g : ℕ → ℕ) (m : ℕ) → sum g (suc m) ≡ g 0 + sum (λ j. g (suc j)) m
sum_first g zero = omega arith
sum_first g (suc m) = omega (arith, sum_first g m)

-- a cell is found if a walk of m + 1 cells from it ends
module _ (flow : List ℕ) (n m : ℕ) where
  abbrev found : ℕ → ℕ → Bool
  found j c = is_some (walked flow n j c)

  found_cell : (j c : ℕ) → found j c ≡ true → c < n
  found_cell zero c i = grind arith
  found_cell (suc j) c i = grind (arith, nat_tests)

  -- a walk of one cell more
  onward : (j c : ℕ) → c < n → eqb (get_or flow c 0) none ≡ false → walked flow n (suc j) c ≡ walked flow n j (get_or flow c 0)
  onward j c a o = rw (lt-ltb c n a, o)

  ended : (j c : ℕ) → c < n → eqb (get_or flow c 0) none ≡ true → walked flow n (suc j) c ≡ Some c
  ended j c a o = rw (lt-ltb c n a, o)

  settled : (j c : ℕ) → found j c ≡ true → walked flow n (suc j) c ≡ walked flow n j c
  settled j c i = kept (walked flow n j c) refl i
    where
      kept : (r : Option ℕ) → walked flow n j c ≡ r → is_some r ≡ true → walked flow n (suc j) c ≡ walked flow n j c
      kept (Some e) w i = longer flow n j c e w ∙ sym w
      kept None w i = grind arith

  -- how many walks of up to m + 1 cells from c do not end
  abbrev lacks : ℕ → ℕ → ℕ
  lacks c j = cond (found j c) 0 1

  -- the flow of the cells that are found; it ends where a cell is not
  abbrev part : Flow
  part = record {
    level = λ _. 0;
    off = λ c. eqb (get_or flow c 0) none || not (found (suc m) c);
    to = λ c. get_or flow c 0;
    far = λ c. sum (lacks c) (suc (suc m));
  }

  part_acyclic : Acyclic n part
  part_acyclic = record {
    inside = λ c a o. found_cell m (get_or flow c 0) (grind (arith, onward m c a));
    nearer = λ c a o.
        let t = get_or flow c 0 in
        let on : eqb t none ≡ false = grind arith in
        let there : found m t ≡ true = grind (arith, onward m c a on) in
        let first : lacks c 0 ≡ 1 = refl in
        let rest = sum_same (λ j. lacks c (suc j)) (lacks t) (suc m) (λ j b. ap (λ r. cond (is_some r) 0 1) (onward j c a on)) in
        let last : lacks t (suc m) ≡ 0 = rw (settled m t there, there) refl in
        omega (arith, sum_first (lacks c) (suc m), rest);
  }

  enough : (j c : ℕ) → c < n → found (suc m) c ≡ true → rank n part c < j → walked flow n j c ≡ walked flow n (suc m) c
  enough zero c a i b = absurd (omega arith)
  enough (suc j) c a i b =
      let t = get_or flow c 0 in
      elim (cases_Bool (eqb t none)) [
        | inl o ↦ ended j c a o ∙ sym (ended m c a o)
        | inr o ↦
            let there : found m t ≡ true = sym (ap is_some (onward m c a o)) ∙ i in
            let again = settled m t there in
            let fewer = rank_falls n part part_acyclic c a (or_from _ _ o (ap not i)) in
            onward j c a o ∙ (enough j t (found_cell m t there) (ap is_some again ∙ there) (omega arith) ∙ (again ∙ sym (onward m c a o)))
      ]

pub walk_ends_off : WalkEndsOff
walk_ends_off flow n c e w = ends_off flow n n c e w

pub walk_long_enough : WalkLongEnough
walk_long_enough flow n zero c e w = grind arith
walk_long_enough flow n (suc m) c e w =
    let i : found flow n m (suc m) c ≡ true = ap is_some w in
    let a = found_cell flow n m (suc m) c i in
    enough flow n m n c a i (rank_small n (part flow n m) c a) ∙ w
