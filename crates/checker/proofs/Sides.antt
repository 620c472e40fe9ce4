-- The cells next to a cell, side after side.
use Rattle.std.proofs.Common.{◌≡◌, ℕ, zero, suc, ◌+◌, ◌<◌, true, false, eqb, ltb, List, [], ◌∷◌, ◌++◌, length, get_or, take, Some, None, Option, sym, refl, ap, ◌∙◌, arith, lt-ltb, eq-eqb}
use Rattle.std.proofs.lemmas.Bool.{cond-true, and_parts, and_from, or_left, or_right}
use Rattle.std.proofs.lemmas.List.{append-nil}
use Rattle.std.specs.Option.{option_to_list}
use Rattle.model.specs.declared.steps.Step.{Step}
use Rattle.model.specs.Bytes.{columns, rows, count}
use Rattle.model.specs.Grid.{stepped, four_sides, neighbours, among}
use Rattle.model.specs.Of.{neighbour_in}
use Rattle.model.specs.Terrain.{land}
use Rattle.model.proofs.Neighbours.{neighbours_share_a_side, stepped_in, among_append}
use Rattle.flood.proofs.Among.{among_front}
use Rattle.flood.proofs.Turns.{one_step_more}

-- the cells that the first i steps lead to from cell c of a model
abbrev pub sides : List ℕ → ℕ → ℕ → List ℕ
sides bs i c = neighbours (columns bs) (rows bs) (take i four_sides) c

-- the step over side i
side_at : (i : ℕ) (s t : Step) → i < 4 → get_or four_sides i s ≡ get_or four_sides i t
side_at zero s t l = refl
side_at (suc zero) s t l = refl
side_at (suc (suc zero)) s t l = refl
side_at (suc (suc (suc zero))) s t l = refl
side_at (suc (suc (suc (suc i)))) s t l = absurd (omega arith)

-- a step of a table leads to one of the cells that the table leads to
among_by : (w h c d : ℕ) (steps : List Step) (i : ℕ) (s : Step) → i < length steps → stepped w h (get_or steps i s) c ≡ Some d → among d (neighbours w h steps c) ≡ true
among_by w h c d [] i s l e = absurd (omega arith)
among_by w h c d (x ∷ steps) zero s l e =
    among_front d (option_to_list (stepped w h x c)) (neighbours w h steps c) (ap (λ o. among d (option_to_list o)) e ∙ or_left (eqb d d) false (eq-eqb d d refl))
among_by w h c d (x ∷ steps) (suc i) s l e =
    among_append d (option_to_list (stepped w h x c)) (neighbours w h steps c) ∙ or_right (among d (option_to_list (stepped w h x c))) _ (among_by w h c d steps i s (omega arith) e)

module _ (bs : List ℕ) (c i : ℕ) (s : Step) (l : i < 4) (a : c < count bs) where
  led : (o : Option ℕ) → o ≡ neighbour_in bs (get_or four_sides i s) (record { 0 = c }) → stepped (columns bs) (rows bs) (get_or four_sides i s) c ≡ o
  led o e = sym (e ∙ cond-true (ltb c (count bs)) _ _ (lt-ltb c (count bs) a))

  more : (o : Option ℕ) → o ≡ neighbour_in bs (get_or four_sides i s) (record { 0 = c }) → sides bs (i + 1) c ≡ sides bs i c ++ option_to_list o
  more o e = one_step_more (columns bs) (rows bs) i c (get_or four_sides i s) l (side_at i _ _ l) ∙ ap (λ x. sides bs i c ++ option_to_list x) (led o e)

  -- the next step leads nowhere, or to a cell d of the model
  pub side_none : None ≡ neighbour_in bs (get_or four_sides i s) (record { 0 = c }) → sides bs (i + 1) c ≡ sides bs i c
  side_none e = more None e ∙ append-nil (sides bs i c)

  pub side_some : (d : ℕ) → Some d ≡ neighbour_in bs (get_or four_sides i s) (record { 0 = c }) → sides bs (i + 1) c ≡ sides bs i c ++ (d ∷ [])
  side_some d e = more (Some d) e

  pub side_in : (d : ℕ) → Some d ≡ neighbour_in bs (get_or four_sides i s) (record { 0 = c }) → d < count bs
  side_in d e = stepped_in (columns bs) (rows bs) c d (get_or four_sides i s) (led (Some d) e)

  -- it is one of the cells that share a side with c
  pub side_among : (d : ℕ) → Some d ≡ neighbour_in bs (get_or four_sides i s) (record { 0 = c }) → among d (sides bs 4 c) ≡ true
  side_among d e = among_by (columns bs) (rows bs) c d four_sides i s l (led (Some d) e)

  pub side_next : (d : ℕ) → Some d ≡ neighbour_in bs (get_or four_sides i s) (record { 0 = c }) → (land bs).next c d ≡ true
  side_next d e = (and_parts (ltb d (count bs)) _ (sym (neighbours_share_a_side (columns bs) (rows bs) c d) ∙ side_among d e)).1

-- every cell next to c is one of its sides
pub next_among : (bs : List ℕ) (c d : ℕ) → d < count bs → (land bs).next c d ≡ true → among d (sides bs 4 c) ≡ true
next_among bs c d a e = neighbours_share_a_side (columns bs) (rows bs) c d ∙ and_from _ _ (lt-ltb d (count bs) a) e
