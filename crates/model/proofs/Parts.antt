-- The part of a file that a cell has.
use Rattle.std.proofs.Common.{◌≡◌, ℕ, ◌-◌, min, List, length, drop, ap, ◌∙◌, length-drop, length-take}
use Rattle.model.specs.Bytes.{start, cell_part}

-- how many bytes the part of a cell has
pub part_length : (bs : List ℕ) (c : ℕ) → length (cell_part bs c) ≡ min 9 (length bs - start c)
part_length bs c = length-take 9 (drop (start c) bs) ∙ ap (min 9) (length-drop (start c) bs)
