-- What a row of changes leaves in memory for just the model that it is applied to.
use Rattle.std.proofs.Common.{◌≡◌, ℕ, List, length, map, Result, sym, ap, ◌∙◌, subst}
use Rattle.std.specs.List.{range_with_len, flat_map}
use Rattle.model.specs.declared.refusal.Refusal.{Refusal}
use Rattle.model.specs.Bytes.{count}
use Rattle.model.specs.Slices.{Contents}
use Rattle.model.specs.WellFormed.{WellFormed}
use Rattle.changes.specs.declared.answer.Changed.{Changed}
use Rattle.changes.specs.declared.asked.Asked.{Asked}
use Rattle.changes.specs.Applied.{answer_at}
use Rattle.changes.specs.Row.{Applied, drained_of}
use Rattle.changes.proofs.Edits.{Kept, kept_count}
use Rattle.changes.proofs.RowLoop.{row_kept}
use Rattle.tables.specs.Changing.{answer_line, changed_bytes, changes_text}
use Rattle.tables.specs.Memory.{JustLong}
use Rattle.tables.proofs.Told.{Holds, holds}

-- the model in cs is the one that the row makes of that in bs, and the slices hold its table
pub record Left (bs : List ℕ) (row : List Asked) (cs : List ℕ) (new : Contents) : Type 0 where
  pub bytes : cs ≡ changed_bytes bs row
  pub sound : WellFormed cs
  pub held : Holds cs new

-- so it is where the row was applied to a copy of bs
module _ (bs copy cs : List ℕ) (old new : Contents) (row : List Asked) (answers : List (Result Changed Refusal)) (same : copy ≡ bs) (a : Applied copy old row cs new answers) where
  pub row_left : WellFormed bs → JustLong (count bs) old → Left bs row cs new
  row_left wf long =
      let bytes = a.bytes ∙ ap (λ b. changed_bytes b row) same in
      let kept = subst (Kept bs) (sym bytes) (row_kept bs row wf (length row)) in
      record { bytes = bytes; sound = kept.sound; held = holds cs old new (drained_of cs) a.promise (subst (λ n. JustLong n old) (sym (kept_count bs cs kept)) long) }

  pub row_answered : (text : List ℕ) → text ≡ flat_map answer_line answers → text ≡ changes_text bs row
  row_answered text e = e ∙ ap (flat_map answer_line) (a.answered ∙ ap (λ b. map (answer_at b row) (range_with_len 0 (length row))) same)
