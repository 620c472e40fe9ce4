-- What comes to a cell of a table comes from its neighbours, each of which is one cell.
use Rattle.std.proofs.Common.{◌≡◌, ℕ, ◌+◌, ◌-◌, ◌<◌, Bool, true, false, cond, not, ◌&&◌, ◌||◌, eqb, ltb, List, [], ◌∷◌, ◌++◌, Some, None, sum_by, Option, sym, refl, ap, ◌∙◌, arith, ltb-true, eq-eqb, ne_eqb}
use Rattle.std.proofs.lemmas.List.Sums.{sum_by-cons}
use Rattle.std.proofs.lemmas.Bool.{cases_Bool, cases_eq, and_parts, and_from, or_left, or_right, or_from, not_from_false}
use Rattle.std.proofs.lemmas.Bool.Decides.{nat_tests}
use Rattle.std.specs.Option.{option_to_list}
use Rattle.model.specs.declared.steps.Step.{Step}
use Rattle.model.specs.Bytes.{columns, rows, count, rain_at}
use Rattle.model.specs.Grid.{row, column, stepped, four_sides, neighbours, among}
use Rattle.model.specs.Terrain.{land}
use Rattle.model.proofs.Neighbours.{neighbours_share_a_side}
use Rattle.model.proofs.Positions.{numbered, adjacent_both_ways}
use Rattle.flood.specs.Levels.{Flow}
use Rattle.flood.specs.Sums.{sum}
use Rattle.flood.proofs.Sums.{sum_same, sum_zero}
use Rattle.amounts.specs.Amounts.{sends, sent}
use Rattle.amounts.proofs.Sums.{sum_more}
use Rattle.checker.specs.Conditions.{sends_ok, amount_ok}
use Rattle.checker.proofs.Parts.{sends_parts}
use Rattle.checker.proofs.Sides.{sides, next_among}

-- where a step leads
led : (w h c d : ℕ) (s : Step) → stepped w h s c ≡ Some d → (row w d + s.up ≡ row w c + s.down) × (column w d + s.left ≡ column w c + s.right)
led w h c d s e =
    let r = row w c + s.down - s.up in
    let x = column w c + s.right - s.left in
    let lies = numbered w h r x in
    (grind (arith, nat_tests), grind (arith, nat_tests))

abbrev up_step : Step
up_step = record { up = 1; left = 0; right = 0; down = 0 }

abbrev left_step : Step
left_step = record { up = 0; left = 1; right = 0; down = 0 }

abbrev right_step : Step
right_step = record { up = 0; left = 0; right = 1; down = 0 }

abbrev down_step : Step
down_step = record { up = 0; left = 0; right = 0; down = 1 }

-- no cell stands twice in a list
abbrev distinct : List ℕ → Bool
distinct [] = true
distinct (x ∷ xs) = not (among x xs) && distinct xs

apart : (d : ℕ) (o : Option ℕ) (ys : List ℕ) → (o ≡ Some d → ⊥) → among d ys ≡ false → among d (option_to_list o ++ ys) ≡ false
apart d None ys ne none = none
apart d (Some x) ys ne none = or_from (eqb d x) (among d ys) (ne_eqb d x (λ e. ne (ap Some (sym e)))) none

distinct_more : (o : Option ℕ) (ys : List ℕ) → distinct ys ≡ true → ((d : ℕ) → o ≡ Some d → among d ys ≡ false) → distinct (option_to_list o ++ ys) ≡ true
distinct_more None ys rest new = rest
distinct_more (Some x) ys rest new = and_from _ _ (not_from_false _ (new x refl)) rest

-- the sum over the cells of such a list
sum_among : (h : ℕ → ℕ) (n : ℕ) (xs : List ℕ) → distinct xs ≡ true → ((d : ℕ) → among d xs ≡ true → d < n) → sum (λ d. cond (among d xs) (h d) 0) n ≡ sum_by h xs
sum_among h n [] once within = sum_zero _ n (λ d a. refl)
sum_among h n (x ∷ xs) once within =
    let new : (not (among x xs) ≡ true) × (distinct xs ≡ true) = and_parts _ _ once in
    let rest = sum_among h n xs new.1 (λ d e. within d (or_right (eqb d x) (among d xs) e)) in
    let in_it = within x (or_left (eqb x x) (among x xs) (eq-eqb x x refl)) in
    let more = sum_more (λ d. cond (among d xs) (h d) 0) (λ d. cond (eqb d x || among d xs) (h d) 0) n x in_it (grind (arith, nat_tests)) (λ d a ne. grind (arith, nat_tests)) in
    let here : cond (eqb x x || among x xs) (h x) 0 ≡ h x = grind (arith, nat_tests) in
    more ∙ omega (arith, rest, here, sum_by-cons h x xs)

-- the neighbours of a cell are as many cells
distinct_sides : (w h c : ℕ) → distinct (neighbours w h four_sides c) ≡ true
distinct_sides w h c =
    let other : (d : ℕ) (s : Step) (t : Step) → ((row w d + s.up ≡ row w c + s.down) × (column w d + s.left ≡ column w c + s.right) → (row w d + t.up ≡ row w c + t.down) × (column w d + t.left ≡ column w c + t.right) → ⊥) →
    stepped w h s c ≡ Some d → stepped w h t c ≡ Some d → ⊥ = λ d s t no a b. no (led w h c d s a) (led w h c d t b) in
    distinct_more (stepped w h up_step c) _
    (distinct_more (stepped w h left_step c) _
    (distinct_more (stepped w h right_step c) _ (distinct_more (stepped w h down_step c) [] refl (λ d e. refl))
    (λ d e. apart d _ _ (other d right_step down_step (λ a b. omega arith) e) refl))
    (λ d e. apart d _ _ (other d left_step right_step (λ a b. omega arith) e) (apart d _ _ (other d left_step down_step (λ a b. omega arith) e) refl)))
    (λ d e. apart d _ _ (other d up_step left_step (λ a b. omega arith) e) (apart d _ _ (other d up_step right_step (λ a b. omega arith) e) (apart d _ _ (other d up_step down_step (λ a b. omega arith) e) refl)))

module _ (bs : List ℕ) (f : Flow) (g : ℕ → ℕ) (right : (n : ℕ) → n < count bs → sends_ok (land bs) f n ≡ true) where
  -- a cell that is no neighbour of c sends nothing to it
  from_afar : (c d : ℕ) → c < count bs → d < count bs → among d (sides bs 4 c) ≡ false → sends f g c d ≡ 0
  from_afar c d a b far =
      let there = sends_parts (land bs) f d (right d b) in
      let next = next_among bs c d b in
      let back = adjacent_both_ways (columns bs) c d in
      let o = cases_Bool (f.off d) in
      let i = cases_eq (f.to d) c in
      grind (arith, nat_tests)

  -- WHAT COMES TO A CELL comes from its neighbours
  pub gathered : (c : ℕ) → c < count bs → sum_by (sends f g c) (sides bs 4 c) ≡ sent f g c (count bs)
  gathered c a =
      let near = λ (d : ℕ) (e : among d (sides bs 4 c) ≡ true). ltb-true d (count bs) (and_parts (ltb d (count bs)) ((land bs).next c d) (sym (neighbours_share_a_side (columns bs) (rows bs) c d) ∙ e)).0 in
      sym (sum_among (sends f g c) (count bs) (sides bs 4 c) (distinct_sides (columns bs) (rows bs) c) near) ∙
      sum_same _ _ (count bs) (λ d b. let far = from_afar c d a b in let i = cases_Bool (among d (sides bs 4 c)) in grind arith)

  pub amount_by : (c v : ℕ) → c < count bs → v ≡ rain_at bs c + sum_by (sends f g c) (sides bs 4 c) → amount_ok (land bs) f g c ≡ eqb (g c) v
  unfolding amount_ok
  amount_by c v a e = ap (eqb (g c)) (sym (e ∙ ap (λ x. rain_at bs c + x) (gathered c a)))
