-- The cells that a table of steps leads to.
use Rattle.std.proofs.Common.{◌≡◌, ℕ, ◌+◌, ◌-◌, ◌*◌, ◌<◌, ◌≤◌, Bool, true, false, ◌&&◌, ◌||◌, eqb, ltb, leb, ◌⊎◌, List, [], ◌∷◌, ◌++◌, Some, None, sym, refl, ap, ◌∙◌, ap₂, inl, inr, arith, ltb-true, eq-eqb}
use mathlib.Core.Bool.{or_assoc}
use Rattle.std.proofs.lemmas.Bool.{cases_lt, cases_Bool, and_parts, or_left}
use Rattle.std.proofs.lemmas.Bool.Decides.{nat_tests}
use Rattle.std.specs.Option.{option_to_list}
use Rattle.model.specs.declared.steps.Step.{Step}
use Rattle.model.specs.Grid.{row, column, cell_at, adjacent, moved, stepped, four_sides, neighbours, among}
use Rattle.model.specs.Theorems.{NeighboursShareASide}
use Rattle.model.proofs.Positions.{placed, numbered}

-- n moved, or that no number below the limit is n moved
moves : (limit less more n : ℕ) →
    ((m : ℕ) × (moved limit less more n ≡ Some m) × (m + less ≡ n + more) × (m < limit)) ⊎
    ((moved limit less more n ≡ None) × ((m : ℕ) → m < limit → m + less ≡ n + more → ⊥))
moves limit less more n = elim (cases_Bool (leb less (n + more) && ltb (n + more - less) limit)) [
  | inl e ↦ inl (n + more - less, rw e, grind (arith, nat_tests), grind (arith, nat_tests))
  | inr e ↦ inr (rw e, λ m l s. grind (arith, nat_tests))
]

-- a step leads from c to d
abbrev leads : ℕ → ℕ → ℕ → ℕ → Step → Bool
leads w h c d s = ltb d (w * h) && (eqb (row w d + s.up) (row w c + s.down) && eqb (column w d + s.left) (column w c + s.right))

-- one of a table of steps does
abbrev any_leads : ℕ → ℕ → ℕ → ℕ → List Step → Bool
any_leads w h c d [] = false
any_leads w h c d (s ∷ steps) = leads w h c d s || any_leads w h c d steps

-- d lies at row r and column x
at_both : (w h d r x : ℕ) → r < h → x < w → eqb d (cell_at w r x) ≡ (ltb d (w * h) && (eqb (row w d) r && eqb (column w d) x))
at_both w h d r x a b = elim (cases_lt d (w * h)) [
  | inl l ↦ let p = placed w h d l in let q = numbered w h r x a b in grind (arith, nat_tests)
  | inr l ↦ let q = numbered w h r x a b in grind (arith, nat_tests)
]

off_grid : (w h d : ℕ) → ((row w d < h) × (column w d < w)) ⊎ (w * h ≤ d)
off_grid w h d = elim (cases_lt d (w * h)) [ inl l ↦ inl ((placed w h d l).tall, (placed w h d l).wide) | inr l ↦ inr l ]

step_leads : (w h c d : ℕ) (s : Step) → among d (option_to_list (stepped w h s c)) ≡ leads w h c d s
step_leads w h c d s = elim (moves h s.up s.down (row w c)) [
  | inl r ↦ elim (moves w s.left s.right (column w c)) [
    | inl x ↦ let e = at_both w h d r.0 x.0 r.3 x.3 in rw (r.1, x.1) (grind (arith, nat_tests))
    | inr x ↦ let n = off_grid w h d in let no = x.1 (column w d) in rw (r.1, x.0) (grind (arith, nat_tests))
  ]
  | inr r ↦ let n = off_grid w h d in let no = r.1 (row w d) in rw r.0 (grind (arith, nat_tests))
]

pub among_append : (d : ℕ) (xs ys : List ℕ) → among d (xs ++ ys) ≡ (among d xs || among d ys)
among_append d [] ys = refl
among_append d (x ∷ xs) ys = ap (λ b. eqb d x || b) (among_append d xs ys) ∙ sym (or_assoc (eqb d x) (among d xs) (among d ys))

table_leads : (w h c d : ℕ) (steps : List Step) → among d (neighbours w h steps c) ≡ any_leads w h c d steps
table_leads w h c d [] = refl
table_leads w h c d (s ∷ steps) = among_append d (option_to_list (stepped w h s c)) (neighbours w h steps c) ∙ ap₂ ◌||◌ (step_leads w h c d s) (table_leads w h c d steps)

sides_lead : (w h c d : ℕ) → any_leads w h c d four_sides ≡ (ltb d (w * h) && adjacent w c d)
sides_lead w h c d = grind (arith, nat_tests)

pub neighbours_share_a_side : NeighboursShareASide
neighbours_share_a_side w h c d = table_leads w h c d four_sides ∙ sides_lead w h c d

-- a step leads to a cell of the grid
pub stepped_in : (w h c d : ℕ) (s : Step) → stepped w h s c ≡ Some d → d < w * h
stepped_in w h c d s e =
    let found : leads w h c d s ≡ true = sym (step_leads w h c d s) ∙ (ap (λ o. among d (option_to_list o)) e ∙ or_left (eqb d d) false (eq-eqb d d refl)) in
    ltb-true d (w * h) (and_parts (ltb d (w * h)) _ found).0
