-- What the lent slices hold once the table is written into their fronts.
use Rattle.std.proofs.Common.{◌≡◌, ℕ, ◌*◌, List, ◌++◌, drop, refl, ap, ◌∙◌, append_assoc, arith}
use Rattle.model.specs.Bytes.{count}
use Rattle.model.specs.Terrain.{terrain}
use Rattle.model.specs.WellFormed.{WellFormed}
use Rattle.flood.specs.Flooded.{table_of, Flooded}
use Rattle.flood.proofs.Models.{models_right, models_few_looks}
use Rattle.flood.proofs.Turns.{sound}

pub flooded : (bs : List ℕ) → WellFormed bs → (ls fl wk a b w : List ℕ) (n looks : ℕ) → n ≡ count bs → a ≡ (table_of bs).levels → b ≡ (table_of bs).flow →
    w ≡ (table_of bs).queue ++ ((table_of bs).order ++ (table_of bs).places) → looks ≡ (table_of bs).looks → Flooded bs ls fl wk (a ++ drop n ls) (b ++ drop n fl) (w ++ drop (3 * n) wk) looks
flooded bs wf ls fl wk a b w n looks size levels flow work counted =
    let s = table_of bs in
    let behind = drop (3 * count bs) wk in
    record {
      written = record {
        levels = rw (levels, size) refl;
        flow = rw (flow, size) refl;
        work = rw (work, size) (append_assoc s.queue (s.order ++ s.places) behind ∙ ap (λ x. s.queue ++ x) (append_assoc s.order s.places behind));
      };
      counted = counted;
      right = models_right (terrain bs) (sound bs wf);
      few = omega (arith, counted, (models_few_looks (terrain bs) (sound bs wf)).1);
    }
