-- What an allowed change does to a well-formed file.
use Rattle.std.proofs.Common.{◌≡◌, ℕ, ◌+◌, ◌*◌, ◌<◌, ◌≤◌, true, cond, ◌||◌, eqb, ltb, ◌⊎◌, List, get_or, Some, None, Option, sym, refl, ap, ◌∙◌, ap₂, inl, inr, arith}
use mathlib.Core.Path.{fun_ext}
use Rattle.std.proofs.lemmas.Bool.{cases_Bool, cases_lt}
use Rattle.std.proofs.lemmas.Bool.Decides.{nat_tests}
use Rattle.model.specs.declared.grid.Grid.{Grid}
use Rattle.model.specs.declared.units.Cell.{Cell}
use Rattle.model.specs.Bytes.{columns, rows, count, start, height_at, rain_at, mark_at}
use Rattle.model.specs.Edits.{put_four, fits_cell, but, Rewritten}
use Rattle.model.specs.Grid.{border, neighbours, four_sides}
use Rattle.model.specs.Of.{Sized}
use Rattle.model.specs.WellFormed.{WellFormed}
use Rattle.model.specs.Faults.{fault}
use Rattle.model.proofs.Taken.{well_formed}
use Rattle.model.proofs.Writes.{height_is, mark_is, heights_read_back, rains_read_back, marks_read_back}
use Rattle.flood.specs.Flooded.{table_of}
use Rattle.flood.specs.Run.{Ground, table}
use Rattle.changes.specs.Applied.{allowed, edited, changed_by}
use Rattle.changes.specs.declared.asked.Change.{Change}
use Rattle.changes.specs.declared.asked.Change.TheVariants.{Height, Rain, Drain}

-- a cell of a grid of the file's size is wholly in the file
pub cell_fits : (g : Grid) (bs : List ℕ) (c : Cell) → Sized g bs → fault bs ≡ None → fits_cell g bs c ≡ ltb c.0 (count bs)
cell_fits g bs c s none =
    let size : g.w * g.h ≡ count bs = ap₂ ◌*◌ s.w s.h in
    rw size (grind (arith, nat_tests, (well_formed bs none).long))

-- a well-formed file of the same sizes
pub record Kept (bs cs : List ℕ) : Type 0 where
  pub w : columns cs ≡ columns bs
  pub h : rows cs ≡ rows bs
  pub sound : WellFormed cs

pub kept_count : (bs cs : List ℕ) → Kept bs cs → count cs ≡ count bs
kept_count bs cs k = ap₂ ◌*◌ k.w k.h

pub kept_sized : (g : Grid) (bs cs : List ℕ) → Kept bs cs → Sized g bs → Sized g cs
kept_sized g bs cs k s = record { w = s.w ∙ sym k.w; h = s.h ∙ sym k.h }

kept_by : (bs cs : List ℕ) (at n : ℕ) (height rain mark : ℕ → ℕ) → Rewritten bs cs at n height rain mark → Kept bs cs
kept_by bs cs at n height rain mark r = record { w = r.w; h = r.h; sound = r.sound }

pub edited_kept : (bs : List ℕ) (x : Change) → WellFormed bs → allowed bs x ≡ true → Kept bs (edited bs x)
edited_kept bs (Height c v) wf may = kept_by _ _ _ _ _ _ _ (heights_read_back bs c.0 v.0 wf (grind (arith, nat_tests)) (grind (arith, nat_tests)))
edited_kept bs (Rain c v) wf may = kept_by _ _ _ _ _ _ _ (rains_read_back bs c.0 v.0 wf (grind (arith, nat_tests)) (grind (arith, nat_tests)))
edited_kept bs (Drain c on) wf may = kept_by _ _ _ _ _ _ _ (marks_read_back bs c.0 (cond on 1 0) wf (grind (arith, nat_tests)) (grind (arith, nat_tests)))

pub changed_kept : (bs : List ℕ) (o : Option Change) → WellFormed bs → Kept bs (changed_by bs o)
changed_kept bs None wf = record { w = refl; h = refl; sound = wf }
changed_kept bs (Some x) wf = elim (cases_Bool (allowed bs x)) [
  | inl may ↦ rw may (edited_kept bs x wf may)
  | inr not ↦ rw not (record { w = refl; h = refl; sound = wf })
]

-- the rule reads no rain
module _ (bs : List ℕ) (c v : ℕ) (wf : WellFormed bs) (in_it : c < count bs) (low : v ≤ 1000000) where
  pub rain_rewritten : Rewritten bs (put_four bs (start c + 4) v) (start c + 4) 4 (height_at bs) (but (rain_at bs) c v) (mark_at bs)
  rain_rewritten = rains_read_back bs c v wf in_it low

  same : (k : ℕ) → (k < start c + 4) ⊎ (start c + 4 + 4 ≤ k) → get_or (put_four bs (start c + 4) v) k 0 ≡ get_or bs k 0
  same = rain_rewritten.others

  same_height : (d : ℕ) → height_at (put_four bs (start c + 4) v) d ≡ height_at bs d
  same_height d =
      let k = start d in
      let by : (k + 3 < start c + 4) ⊎ (start c + 4 + 4 ≤ k) = elim (cases_lt c d) [ inl a ↦ inr (omega arith) | inr a ↦ inl (omega arith) ] in
      let a = same k (grind arith) in
      let b = same (k + 1) (grind arith) in
      let e = same (k + 2) (grind arith) in
      let f = same (k + 3) (grind arith) in
      height_is (put_four bs (start c + 4) v) d ∙ (omega arith ∙ sym (height_is bs d))

  same_mark : (d : ℕ) → mark_at (put_four bs (start c + 4) v) d ≡ mark_at bs d
  same_mark d =
      let by : (start d + 8 < start c + 4) ⊎ (start c + 4 + 4 ≤ start d + 8) = elim (cases_lt d c) [ inl a ↦ inl (omega arith) | inr a ↦ inr (omega arith) ] in
      mark_is (put_four bs (start c + 4) v) d ∙ (same (start d + 8) by ∙ sym (mark_is bs d))

  pub rain_keeps_table : table_of (put_four bs (start c + 4) v) ≡ table_of bs
  rain_keeps_table =
      let ground : ℕ → ℕ → (ℕ → ℕ) → (ℕ → ℕ) → Ground =
      λ w h height mark. record { cells = w * h; leaves = λ d. border w h d || eqb (mark d) 1; height = height; around = neighbours w h four_sides } in
      ap table (
      ap (λ w. ground w (rows (put_four bs (start c + 4) v)) (height_at (put_four bs (start c + 4) v)) (mark_at (put_four bs (start c + 4) v))) rain_rewritten.w ∙
      (ap (λ h. ground (columns bs) h (height_at (put_four bs (start c + 4) v)) (mark_at (put_four bs (start c + 4) v))) rain_rewritten.h ∙
      (ap (λ height. ground (columns bs) (rows bs) height (mark_at (put_four bs (start c + 4) v))) (fun_ext same_height) ∙
      ap (λ mark. ground (columns bs) (rows bs) (height_at bs) mark) (fun_ext same_mark))))
