-- What changes mean for a model.
use Rattle.std.proofs.Common.{◌≡◌, ℕ, true, cond, List, Some, None, sym, refl, ap, ◌∙◌, subst, arith}
use Rattle.std.proofs.lemmas.Bool.Decides.{nat_tests}
use Rattle.model.specs.Bytes.{count}
use Rattle.model.specs.WellFormed.{WellFormed}
use Rattle.model.proofs.Writes.{heights_read_back, rains_read_back, marks_read_back}
use Rattle.flood.specs.Flooded.{table_of}
use Rattle.amounts.specs.Again.{levels_changed}
use Rattle.changes.specs.declared.asked.Change.{Change}
use Rattle.changes.specs.declared.asked.Change.TheVariants.{Height, Rain, Drain}
use Rattle.changes.specs.Applied.{allowed, edited, bytes_after}
use Rattle.changes.specs.Meaning.{ChangedOne, AllowedIfInRange, ChangesReadBack, RefusedChangesNothing, RowsKeepModels, RainChangesNoLevel}
use Rattle.changes.proofs.Holding.{none_changed}
use Rattle.changes.proofs.Outcomes.{made_bytes, refused_bytes}
use Rattle.changes.proofs.RainChange.{leaves_all, rain_stays}
use Rattle.changes.proofs.RowLoop.{row_kept}

pub allowed_if_in_range : AllowedIfInRange
allowed_if_in_range bs (Height c v) = (λ e. (grind (arith, nat_tests), grind (arith, nat_tests)), λ p. grind (arith, nat_tests, p.0, p.1))
allowed_if_in_range bs (Rain c v) = (λ e. (grind (arith, nat_tests), grind (arith, nat_tests)), λ p. grind (arith, nat_tests, p.0, p.1))
allowed_if_in_range bs (Drain c on) = (λ e. grind (arith, nat_tests), λ p. grind (arith, nat_tests))

one : (bs : List ℕ) (x : Change) → WellFormed bs → allowed bs x ≡ true → ChangedOne bs x (edited bs x)
one bs (Height c v) wf may = heights_read_back bs c.0 v.0 wf (grind (arith, nat_tests)) (grind (arith, nat_tests))
one bs (Rain c v) wf may = rains_read_back bs c.0 v.0 wf (grind (arith, nat_tests)) (grind (arith, nat_tests))
one bs (Drain c on) wf may = marks_read_back bs c.0 (cond on 1 0) wf (grind (arith, nat_tests)) (grind (arith, nat_tests))

pub changes_read_back : ChangesReadBack
changes_read_back bs x wf may = subst (ChangedOne bs x) (sym (made_bytes bs x may)) (one bs x wf may)

pub refused_changes_nothing : RefusedChangesNothing
refused_changes_nothing bs None not = refl
refused_changes_nothing bs (Some x) not = refused_bytes bs x not

pub rows_keep_models : RowsKeepModels
rows_keep_models bs row k wf =
    let kept = row_kept bs row wf k in
    record { w = kept.w; h = kept.h; sound = kept.sound; nothing_lost = leaves_all (bytes_after bs row k) kept.sound }

pub rain_changes_no_level : RainChangesNoLevel
rain_changes_no_level bs c v wf =
    let same = rain_stays bs c v wf in
    (same, ap (λ s. levels_changed (table_of bs).levels s.levels (count bs)) same ∙ none_changed (table_of bs).levels (count bs))
