-- The text and the table of a model, from what draining left in slices of just the lengths that it needs.
use Rattle.std.proofs.Common.{◌≡◌, ℕ, ◌+◌, ◌*◌, ◌^◌, ◌<◌, List, ◌++◌, length, get_or, drop, sym, refl, ap, ◌∙◌, subst, append-nil, length-append, ap₂, arith}
use Rattle.std.proofs.lemmas.List.{length-replicate}
use Rattle.std.proofs.lemmas.List.{drop_all, drop-drop, drop_at}
use Rattle.model.specs.Bytes.{count}
use Rattle.model.specs.Slices.{Contents}
use Rattle.model.specs.Terrain.{terrain}
use Rattle.model.specs.WellFormed.{WellFormed}
use Rattle.flood.specs.Flooded.{table_of}
use Rattle.flood.proofs.Models.{models_right}
use Rattle.flood.proofs.Turns.{sound, small}
use Rattle.amounts.specs.declared.answer.Drained.{Drained}
use Rattle.amounts.specs.Joined.{joined, row_from}
use Rattle.amounts.specs.Passing.{table_amounts}
use Rattle.amounts.specs.Promise.{Promise, table_bytes}
use Rattle.amounts.proofs.Passes.{table_long}
use Rattle.amounts.proofs.Promised.{long_amounts}
use Rattle.tables.specs.Lines.{drain_lines}
use Rattle.tables.specs.Memory.{zeros, JustLong}
use Rattle.tables.specs.Reports.{drain_text}

-- memory that is lent whole
pub lent_long : (n : ℕ) (memory lent : Contents) → memory ≡ zeros n → lent ≡ memory → JustLong n lent
lent_long n memory lent e f =
    subst (JustLong n) (sym (f ∙ e)) (record { levels = length-replicate n 0; flow = length-replicate n 0; amounts = length-replicate n 0; work = length-replicate (3 * n) 0 })

-- nothing lies behind a table in a slice of its length
front_only : (xs ys zs : List ℕ) (n : ℕ) → ys ≡ zs ++ drop n xs → length xs ≡ n → ys ≡ zs
front_only xs ys zs n e long = e ∙ (ap (λ t. zs ++ t) (drop_all n xs (omega arith)) ∙ append-nil zs)

-- slices that hold a model's table, and nothing behind it
pub record Holds (bs : List ℕ) (s : Contents) : Type 0 where
  pub levels : s.levels ≡ (table_of bs).levels
  pub flow : s.flow ≡ (table_of bs).flow
  pub amounts : s.amounts ≡ table_amounts bs
  pub work : s.work ≡ (table_of bs).queue ++ ((table_of bs).order ++ (table_of bs).places)

pub holds : (bs : List ℕ) (old new : Contents) (d : Drained) → Promise bs old new d → JustLong (count bs) old → Holds bs new
holds bs old new d p long =
    let n = count bs in
    let s = table_of bs in
    record {
      levels = front_only old.levels new.levels s.levels n p.written.levels long.levels;
      flow = front_only old.flow new.flow s.flow n p.written.flow long.flow;
      amounts = front_only old.amounts new.amounts (table_amounts bs) n p.poured long.amounts;
      work = p.written.work ∙ ap (λ t. s.queue ++ (s.order ++ t)) (front_only old.work (s.places ++ drop (3 * n) old.work) s.places (3 * n) refl long.work);
    }

pub told : (bs : List ℕ) (old new : Contents) (d : Drained) (text : List ℕ) → Promise bs old new d → Holds bs new → text ≡ drain_lines bs new.levels new.flow new.amounts d.rain.0 d.leaves.0 → text ≡ drain_text bs
told bs old new d text p h e = e ∙ rw (h.levels, h.flow, h.amounts, p.rain, p.leaves) refl

module _ (bs : List ℕ) (wf : WellFormed bs) (s : Contents) (h : Holds bs s) where
  levels_long : length s.levels ≡ count bs
  levels_long = ap length h.levels ∙ (table_long bs wf).levels

  -- what is asked of slices that are put into rows
  pub just_long : JustLong (length s.levels) s
  just_long =
      let l = table_long bs wf in
      record {
        levels = refl;
        flow = ap length h.flow ∙ (l.flow ∙ sym levels_long);
        amounts = ap length h.amounts ∙ (long_amounts bs wf ∙ sym levels_long);
        work = ap length h.work ∙ simp length-append (omega (arith, levels_long));
      }

  -- the places stand in the last third of the work
  places_at : drop (2 * length s.levels) s.work ≡ (table_of bs).places
  places_at =
      let n = count bs in
      let t = table_of bs in
      let l = table_long bs wf in
      let twice : 2 * length s.levels ≡ n + n = omega (arith, levels_long) in
      ap₂ drop twice h.work ∙ (sym (drop-drop n n _) ∙ (ap (drop n) (drop_at t.queue _ n l.queue) ∙ drop_at t.order t.places n l.order))

  pub places_low : (c : ℕ) → c < length s.levels → get_or (drop (2 * length s.levels) s.work) c 0 < 2 ^ 32
  places_low c a = subst (λ ys. get_or ys c 0 < 2 ^ 32) (sym places_at) (omega (arith, small bs wf, (models_right (terrain bs) (sound bs wf)).lined.place c (omega (arith, levels_long))))

  pub rows_told : (rows : List ℕ) → rows ≡ joined (row_from s.levels s.flow (drop (2 * length s.levels) s.work) s.amounts) (length s.levels) → rows ≡ table_bytes bs
  rows_told rows e = e ∙ (ap₂ joined (rw (places_at, h.levels, h.flow, h.amounts) refl) levels_long)
