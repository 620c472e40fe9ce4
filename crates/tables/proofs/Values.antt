-- The values of each cell, read from four slices side by side.
use Rattle.std.proofs.Common.{◌≡◌, ℕ, ◌<◌, ◌≤◌, List, length, get_or, Iter, Bor, Option, Some, None, ◌∙◌, subst, arith}
use Rattle.std.specs.declared.iter.Zip.{Zip}
use Rattle.std.specs.Iterator.{Yields}
use Rattle.std.specs.Iterator.Adapters.{zip_first, zip_second}
use Rattle.std.specs.List.{zip}
use Rattle.std.specs.Slice.Iter.{iter_rest}
use Rattle.std.proofs.iter.Yields.{fronts}
use Rattle.std.proofs.lemmas.Iterator.{YieldsList, zips, YieldsList-from_slice, YieldsList-from_zip}
use Rattle.std.proofs.lemmas.Iterator.Consumers.{YieldsList-turn, YieldsList-end}
use Rattle.std.proofs.lemmas.Option.{get_or_from_slice_get, slice_get-get_or}
use Rattle.std.proofs.lemmas.Slice.Zip.{length-zip, get_or-zip}

abbrev Values : Type 0
Values = ((ℕ × ℕ) × ℕ) × ℕ

abbrev Item : Type 0
Item = ((Bor ℕ × Bor ℕ) × Bor ℕ) × Bor ℕ

abbrev read : Item → Values
read p = (((p.0.0.0.now, p.0.0.1.now), p.0.1.now), p.1.now)

abbrev Side : Type 0
Side = Zip (Zip (Zip (Iter ℕ) (Iter ℕ)) (Iter ℕ)) (Iter ℕ)

abbrev next : Side → Option Item → Side → Type 0
next = zips (zips (zips fronts fronts) fronts) fronts

module _ (levels flow places amounts : List ℕ) where
  -- slices that are at least as long as the levels
  abbrev Long : Type 0
  Long = (length levels ≤ length flow) × (length levels ≤ length places) × (length levels ≤ length amounts)

  -- the values of all cells
  abbrev all : List Values
  all = zip (zip (zip levels flow) places) amounts

  long_all : Long → length all ≡ length levels
  long_all long = simp length-zip (omega arith)

  value_at : Long → (k : ℕ) (p : Values) → k < length levels → p ≡ get_or all k p → p ≡ (((get_or levels k 0, get_or flow k 0), get_or places k 0), get_or amounts k 0)
  value_at long k p a e =
      let in_two : k < length (zip levels flow) = simp length-zip (omega arith) in
      let in_three : k < length (zip (zip levels flow) places) = simp length-zip (omega arith) in
      let in_all : k < length all = simp length-zip (omega arith) in
      let d : Values = (((0, 0), 0), 0) in
      let two : get_or (zip levels flow) k d.0.0 ≡ (get_or levels k 0, get_or flow k 0) = get_or-zip levels flow k d.0.0 a (omega arith) in
      let three : get_or (zip (zip levels flow) places) k d.0 ≡ (get_or (zip levels flow) k d.0.0, get_or places k 0) = get_or-zip (zip levels flow) places k d.0 in_two (omega arith) in
      let four : get_or all k d ≡ (get_or (zip (zip levels flow) places) k d.0, get_or amounts k 0) = get_or-zip (zip (zip levels flow) places) amounts k d in_three (omega arith) in
      let default : get_or all k p ≡ get_or all k d = get_or_from_slice_get all k (get_or all k d) p (slice_get-get_or all k d in_all) in
      cc

  -- four slices that are read side by side, none shorter than the levels
  pub record Reads (s : Side) : Type 0 where
    pub levels_read : iter_rest (zip_first (zip_first (zip_first s))) ≡ levels
    pub flow_read : iter_rest (zip_second (zip_first (zip_first s))) ≡ flow
    pub places_read : iter_rest (zip_second (zip_first s)) ≡ places
    pub amounts_read : iter_rest (zip_second s) ≡ amounts
    pub long : Long

  gives : (s : Side) → Reads s → YieldsList next read s all
  gives s r =
      YieldsList-from_zip (YieldsList-from_zip (YieldsList-from_zip (YieldsList-from_slice levels r.levels_read) (YieldsList-from_slice flow r.flow_read)) (YieldsList-from_slice places r.places_read))
      (YieldsList-from_slice amounts r.amounts_read)

  -- in a loop over them, which values come next, and how many there were at the end
  pub values_next : (s : Side) → Reads s → (xs : List Item) (t u : Side) (o : Option Item) (p : Item) → Yields next s xs t → o ≡ Some p → next t o u →
      (length xs < length levels) × (read p ≡ (((get_or levels (length xs) 0, get_or flow (length xs) 0), get_or places (length xs) 0), get_or amounts (length xs) 0))
  values_next s r xs t u o p y e n =
      let turn = YieldsList-turn (gives s r) xs t y o u p e n in
      let a : length xs < length levels = subst (λ m. length xs < m) (long_all r.long) turn.0 in
      (a, value_at r.long (length xs) (read p) a turn.1)

  pub values_end : (s : Side) → Reads s → (xs : List Item) (t u : Side) (o : Option Item) → Yields next s xs t → o ≡ None → next t o u → length xs ≡ length levels
  values_end s r xs t u o y e n = (YieldsList-end (gives s r) xs t y o u e n).1 ∙ long_all r.long
