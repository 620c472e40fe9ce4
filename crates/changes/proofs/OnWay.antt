-- The loop down the way of a cell's water, over the table of a model.
use Rattle.std.proofs.Common.{◌≡◌, ℕ, ◌+◌, ◌-◌, ◌<◌, ◌≤◌, true, false, eqb, List, ◌++◌, length, get_or, set, take, drop, sym, ap, ◌∙◌, subst, arith, length-set, length-take}
use Rattle.std.proofs.lemmas.List.{get_or-set_other, ext_get_or, get_or_append_left, get_or-take, take-append-drop, drop-set-lt}
use Rattle.model.specs.declared.units.Cell.{Cell}
use Rattle.model.specs.Bytes.{count}
use Rattle.model.specs.Terrain.{land}
use Rattle.model.specs.WellFormed.{WellFormed}
use Rattle.flood.specs.Flooded.{table_of}
use Rattle.flood.specs.Run.{none}
use Rattle.flood.specs.declared.sends.Sends.TheVariants.{Off, To}
use Rattle.flood.specs.Sent.{sends_of}
use Rattle.flood.proofs.Turns.{small}
use Rattle.amounts.specs.Amounts.{Carried}
use Rattle.amounts.specs.Passing.{table_amounts}
use Rattle.amounts.specs.Promise.{flow_in, amount_in}
use Rattle.amounts.proofs.Carrying.{only_amounts}
use Rattle.amounts.proofs.Passes.{table_long, ordered}
use Rattle.amounts.proofs.Promised.{long_amounts, carried}
use Rattle.basins.specs.Exits.{way}
use Rattle.basins.proofs.Following.{way_off, way_on, way_short}
use Rattle.basins.proofs.Steps.{sends_on, sends_off}
use Rattle.changes.specs.Moved.{OffAt}
use Rattle.changes.proofs.RainMoves.{move_off, move_on}

-- the loop has come from the first cell down to `at`, and touched so many cells; behind the cells the amounts are as they were
pub record OnWay (bs before amounts : List ℕ) (first at touched old new : ℕ) : Type 0 where
  pub cell : at < count bs
  pub long : count bs ≤ length amounts
  pub low : (d : ℕ) → d < count bs → (flow_in bs).far d ≤ (flow_in bs).far at → get_or amounts d 0 ≤ 160000000000
  pub off : OffAt (land bs) (flow_in bs) (λ c. get_or amounts c 0) at old new
  pub counted : touched + length (way (flow_in bs) at) ≡ length (way (flow_in bs) first)
  pub behind : drop (count bs) amounts ≡ drop (count bs) before

module _ (bs : List ℕ) (wf : WellFormed bs) (flow rest : List ℕ) (i : ℕ) (inside : i < count bs) (holds : flow ≡ (table_of bs).flow ++ rest) where
  held : get_or flow i 0 ≡ (flow_in bs).to i
  held = ap (λ xs. get_or xs i 0) holds ∙ get_or_append_left (table_of bs).flow rest 0 i (omega (arith, inside, (table_long bs wf).flow))

  -- where the cell at i sends, by a slice that holds the flow
  pub told_on : (next : Cell) → To next ≡ sends_of (get_or flow i 0) → ((flow_in bs).off i ≡ false) × (next.0 ≡ (flow_in bs).to i)
  told_on next s = subst (λ x. (eqb x none ≡ false) × (next.0 ≡ x)) held (sends_on (get_or flow i 0) next s)

  pub told_off : Off ≡ sends_of (get_or flow i 0) → (flow_in bs).off i ≡ true
  told_off s = subst (λ x. eqb x none ≡ true) held (sends_off (get_or flow i 0) s)

-- amounts that add up are those of the table
settled : (bs : List ℕ) → WellFormed bs → (amounts : List ℕ) → count bs ≤ length amounts → Carried (land bs) (flow_in bs) (λ c. get_or amounts c 0) → amounts ≡ table_amounts bs ++ drop (count bs) amounts
settled bs wf amounts long q =
    let n = count bs in
    let front : take n amounts ≡ table_amounts bs =
    ext_get_or 0 (take n amounts) (table_amounts bs) (omega (arith, length-take n amounts, long, long_amounts bs wf))
    (λ c a. get_or-take n amounts c 0 (omega (arith, length-take n amounts)) ∙
    only_amounts (land bs) (flow_in bs) (λ d. get_or amounts d 0) (amount_in bs) (ordered bs wf).falling q (carried bs wf) c (omega (arith, length-take n amounts))) in
    sym (take-append-drop n amounts) ∙ ap (λ xs. xs ++ drop n amounts) front

module _ (bs : List ℕ) (wf : WellFormed bs) (before amounts : List ℕ) (first at touched old new : ℕ) (in_it : first < count bs) (w : OnWay bs before amounts first at touched old new) where
  -- no number on the way is too large or too small
  pub few_touched : touched < 160001
  few_touched = omega (arith, w.counted, way_short (flow_in bs) ((flow_in bs).far first) first, (ordered bs wf).place first in_it, small bs wf)

  old_in_it : old ≤ get_or amounts at 0 + new
  old_in_it = omega (arith, w.off.here)

  write : get_or amounts at 0 + new - old + old ≡ get_or amounts at 0 + new
  write = omega (arith, old_in_it)

  -- one cell further
  pub way_nearer : (flow_in bs).off at ≡ false → (flow_in bs).far ((flow_in bs).to at) < (flow_in bs).far at
  way_nearer on = (ordered bs wf).falling.nearer at w.cell on

  pub way_further : (flow_in bs).off at ≡ false → OnWay bs before (set amounts at (get_or amounts at 0 + new - old)) first ((flow_in bs).to at) (touched + 1) old new
  way_further on =
      let o = (ordered bs wf).falling in
      let v = get_or amounts at 0 + new - old in
      let nearer = o.nearer at w.cell on in
      record {
        cell = o.inside at w.cell on;
        long = omega (arith, length-set amounts at v, w.long);
        low = λ d a b.
            let apart : d ≡ at → ⊥ = λ e. let same = ap (flow_in bs).far e in omega arith in
            omega (arith, get_or-set_other amounts at d v 0 apart, w.low d a (omega arith));
        off = move_on (land bs) (flow_in bs) o amounts at v w.cell w.long old new write w.off on;
        counted = omega (arith, w.counted, way_on (count bs) (flow_in bs) o at w.cell on);
        behind = drop-set-lt (count bs) amounts at v w.cell ∙ w.behind;
      }

  -- the exit: all amounts are right, and the way was walked whole
  pub way_done : (flow_in bs).off at ≡ true → (set amounts at (get_or amounts at 0 + new - old) ≡ table_amounts bs ++ drop (count bs) before) × (touched + 1 ≡ length (way (flow_in bs) first))
  way_done off =
      let o = (ordered bs wf).falling in
      let v = get_or amounts at 0 + new - old in (
        settled bs wf _ (omega (arith, length-set amounts at v, w.long)) (move_off (land bs) (flow_in bs) o amounts at v w.cell w.long old new write w.off off) ∙ ap (λ xs. table_amounts bs ++ xs) (drop-set-lt (count bs) amounts at v w.cell ∙ w.behind),
        omega (arith, w.counted, way_off (count bs) (flow_in bs) o at off),
      )
