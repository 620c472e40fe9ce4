-- The rain on the cells of a model, and what leaves the land, added up.
use Rattle.std.proofs.Common.{◌≡◌, ℕ, cond, eqb, ltb, List, length, get_or, sum_by, refl, ap, ◌∙◌, inl, inr, arith}
use Rattle.std.specs.List.{zip, range_with_len}
use Rattle.std.proofs.lemmas.Bool.{cases_Bool}
use Rattle.std.proofs.lemmas.Bool.Decides.{nat_tests}
use Rattle.std.proofs.lemmas.List.FromFn.{length-range_with_len, get_or-range_with_len}
use Rattle.std.proofs.lemmas.Slice.Zip.{length-zip, get_or-zip}
use Rattle.model.specs.Bytes.{count}
use Rattle.model.specs.Terrain.{land}
use Rattle.flood.specs.Run.{none}
use Rattle.flood.specs.Sent.{sends_of}
use Rattle.amounts.specs.Amounts.{all_rain}
use Rattle.amounts.specs.Passing.{left_by, leaves_at, all_leaves}
use Rattle.amounts.proofs.Sums.{sum_each}

-- what is read for a cell: its rain, or 0 where there is no such cell
abbrev pub read_rain : List ℕ → ℕ → ℕ
read_rain bs c = cond (ltb c (count bs)) ((land bs).rain c) 0

pub rain_summed : (bs : List ℕ) → sum_by (read_rain bs) (range_with_len 0 (count bs)) ≡ all_rain (land bs) (count bs)
rain_summed bs =
    let cells = range_with_len 0 (count bs) in
    let long : length cells ≡ count bs = length-range_with_len 0 (count bs) in
    sum_each (read_rain bs) (land bs).rain cells 0 (λ c a. let at = get_or-range_with_len 0 (count bs) c 0 (omega arith) in grind (arith, nat_tests)) ∙ ap (all_rain (land bs)) long

-- what leaves at a cell, by where it sends and its amount
abbrev pub pair_left : ℕ × ℕ → ℕ
pair_left p = left_by (sends_of p.0) p.1

left_off : (code amount : ℕ) → left_by (sends_of code) amount ≡ cond (eqb code none) amount 0
left_off code amount = elim (cases_Bool (eqb code none)) [ inl o ↦ rw o refl | inr o ↦ rw o refl ]

pub leaves_summed : (flow amounts : List ℕ) → length amounts ≡ length flow → sum_by pair_left (zip flow amounts) ≡ all_leaves flow amounts (length flow)
leaves_summed flow amounts same =
    let long : length (zip flow amounts) ≡ length flow = omega (arith, length-zip flow amounts) in
    sum_each pair_left (leaves_at flow amounts) (zip flow amounts) (0, 0) (λ c a. let at = get_or-zip flow amounts c (0, 0) (omega arith) (omega arith) in rw at (left_off (get_or flow c 0) (get_or amounts c 0) ∙ grind (arith, nat_tests))) ∙ ap (all_leaves flow amounts) long
