-- The four neighbours that the code asks a grid for are those that the steps lead to.
use Rattle.std.proofs.Common.{◌≡◌, ℕ, zero, suc, ◌*◌, ◌<◌, cond, ltb, List, map, get_or, None, Option, sym, refl, ap, ◌∙◌, arith}
use lib.ListN.{get_or-map}
use Rattle.std.specs.Option.{option_map}
use Rattle.model.specs.declared.grid.Grid.{Grid}
use Rattle.model.specs.declared.land.Model.{Model}
use Rattle.model.specs.declared.steps.Step.{Step}
use Rattle.model.specs.declared.units.Cell.{Cell}
use Rattle.model.specs.Bytes.{columns}
use Rattle.model.specs.Grid.{stepped, four_sides}
use Rattle.model.specs.OfModel.{bytes_of}
use Rattle.model.specs.Of.{Sized, number, neighbour, neighbour_in}

-- the first step; any one serves where the table is read within its length
abbrev pub first_step : Step
first_step = record { up = 1; left = 0; right = 0; down = 0 }

-- what a function gives for the step over side i
at_side : (f : Step → Option ℕ) (i : ℕ) → i < 4 → get_or (map f four_sides) i None ≡ f (get_or four_sides i first_step)
at_side f zero l = refl
at_side f (suc zero) l = refl
at_side f (suc (suc zero)) l = refl
at_side f (suc (suc (suc zero))) l = refl
at_side f (suc (suc (suc (suc i)))) l = absurd (omega arith)

-- a step leads to the same cell in a grid and in the file that it is of
same_step : (g : Grid) (bs : List ℕ) (s : Step) (c : Cell) → Sized g bs → neighbour g s c ≡ neighbour_in bs s c
same_step g bs s c sized =
    ap (λ w. cond (ltb c.0 (w * g.h)) (stepped w g.h s c.0) None) sized.w ∙
    ap (λ h. cond (ltb c.0 (columns bs * h)) (stepped (columns bs) h s c.0) None) sized.h

-- a model's grid is that of its bytes
sized_as : (g : Grid) (m : Model) → g ≡ m.grid → Sized g (bytes_of m)
sized_as g m is = record { w = ap (λ x. x.w) is ∙ m.w; h = ap (λ x. x.h) is ∙ m.h }

-- what stands at side i of the four neighbours
pub sides_lead : (m : Model) (g : Grid) (c : Cell) (sides : List (Option Cell)) → g ≡ m.grid → map (option_map number) sides ≡ map (λ s. neighbour g s c) four_sides →
    (i : ℕ) → i < 4 → option_map number (get_or sides i None) ≡ neighbour_in (bytes_of m) (get_or four_sides i first_step) c
sides_lead m g c sides of all i l =
    sym (get_or-map (option_map number) sides i None) ∙
    (ap (λ xs. get_or xs i None) all ∙ (at_side (λ s. neighbour g s c) i l ∙ same_step g (bytes_of m) (get_or four_sides i first_step) c (sized_as g m of)))
