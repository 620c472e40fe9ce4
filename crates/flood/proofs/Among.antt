-- What is among the cells of a list.
use Rattle.std.proofs.Common.{◌≡◌, ℕ, true, List, ◌++◌, ◌∙◌}
use Rattle.std.proofs.lemmas.Bool.{or_left}
use Rattle.model.specs.Grid.{among}
use Rattle.model.proofs.Neighbours.{among_append}

pub among_front : (x : ℕ) (xs ys : List ℕ) → among x xs ≡ true → among x (xs ++ ys) ≡ true
among_front x xs ys e = among_append x xs ys ∙ or_left (among x xs) (among x ys) e
