-- The loop over a row of changes.
use Rattle.std.proofs.Common.{◌≡◌, ℕ, zero, suc, ◌+◌, List, [], ◌∷◌, ◌++◌, map, None, Option, Result, length, sym, refl, ap, ◌∙◌, subst, ap₂, add-one, arith}
use Rattle.std.specs.List.{range_with_len}
use Rattle.std.proofs.lemmas.List.FromFn.{map-range_with_len_more}
use Rattle.model.specs.declared.refusal.Refusal.{Refusal}
use Rattle.model.specs.Bytes.{count}
use Rattle.model.specs.Faults.{or_else, fault}
use Rattle.model.specs.Of.{Sized}
use Rattle.model.specs.declared.slices.Slices.{Slices}
use Rattle.model.specs.Slices.{Contents, lists_of}
use Rattle.model.specs.WellFormed.{WellFormed}
use Rattle.model.proofs.Taken.{well_formed, taken}
use Rattle.amounts.specs.declared.answer.Drained.{Drained}
use Rattle.amounts.specs.Draining.{room_fault}
use Rattle.amounts.specs.Promise.{Promise}
use Rattle.changes.specs.declared.answer.Changed.{Changed}
use Rattle.changes.specs.declared.applying.Current.{Current}
use Rattle.changes.specs.declared.asked.Asked.{Asked}
use Rattle.changes.specs.declared.asked.Change.{Change}
use Rattle.changes.specs.Applied.{changed_by, leaves_in, answer_to, asked_for, bytes_after, answer_at, Tabled}
use Rattle.changes.specs.Current.{IsDrained, SameLent, Changes}
use Rattle.changes.specs.Row.{Applied}
use Rattle.changes.proofs.Edits.{Kept, kept_count, changed_kept}
use Rattle.changes.proofs.Holding.{first_tabled, tabled_on, tabled_now, tabled_promise}

-- every model on the way is well formed and of the same sizes
pub row_kept : (bs : List ℕ) (row : List Asked) → WellFormed bs → (k : ℕ) → Kept bs (bytes_after bs row k)
unfolding bytes_after
row_kept bs row wf zero = record { w = refl; h = refl; sound = wf }
row_kept bs row wf (suc k) =
    let before = row_kept bs row wf k in
    let here = changed_kept (bytes_after bs row k) (asked_for row k) before.sound in
    record { w = here.w ∙ before.w; h = here.h ∙ before.h; sound = here.sound }

-- what holds of the slices from the start holds of them as they are
pub drained_now : (m : Current) (old new : Contents) → IsDrained m old new → IsDrained m new new
drained_now m old new d = record { sized = d.sized; taken = d.taken; tabled = tabled_now m.bytes.now (well_formed m.bytes.now d.taken) old new d.tabled; leaves = d.leaves }

-- after the first k of a row: the model, the slices and the answers so far
pub record Answered (m : Current) (s : Slices) (row : List Asked) (k : ℕ) (n : Current) (t : Slices) (answers : List (Result Changed Refusal)) : Type 0 where
  pub drained : IsDrained n (lists_of s) (lists_of t)
  pub lent : SameLent m n s t
  pub bytes : n.bytes.now ≡ bytes_after m.bytes.now row k
  pub told : answers ≡ map (answer_at m.bytes.now row) (range_with_len 0 k)

pub none_answered : (m : Current) (s : Slices) (row : List Asked) → IsDrained m (lists_of s) (lists_of s) → Answered m s row 0 m s []
unfolding bytes_after
none_answered m s row d = record { drained = d; lent = record { bytes = refl; slices = record { levels = refl; flow = refl; amounts = refl; work = refl } }; bytes = refl; told = refl }

-- one more
pub one_answered : (m : Current) (s : Slices) (row : List Asked) (k : ℕ) (n : Current) (t : Slices) (answers : List (Result Changed Refusal)) → Answered m s row k n t answers →
    (o : Option Change) (r : Result Changed Refusal) (l : Current) (u : Slices) → o ≡ asked_for row k → r ≡ answer_to k n.bytes.now o → Changes n o l t u → Answered m s row (k + 1) l u (answers ++ (r ∷ []))
unfolding bytes_after
one_answered m s row k n t answers a o r l u asked e c =
    let wf = well_formed n.bytes.now a.drained.taken in
    let kept = subst (Kept n.bytes.now) (sym c.bytes) (changed_kept n.bytes.now o wf) in
    let after : l.bytes.now ≡ bytes_after m.bytes.now row (suc k) = c.bytes ∙ ap₂ changed_by a.bytes asked in
    let answered : r ≡ answer_at m.bytes.now row k = e ∙ ap₂ (answer_to k) a.bytes asked in
    record {
      drained = record {
        sized = c.drained.sized;
        taken = c.drained.taken;
        tabled = tabled_on n.bytes.now wf (lists_of s) (lists_of t) a.drained.tabled l.bytes.now (lists_of u) (kept_count n.bytes.now l.bytes.now kept) c.drained.tabled;
        leaves = c.drained.leaves;
      };
      lent = record {
        bytes = c.lent.bytes ∙ a.lent.bytes;
        slices = record {
          levels = c.lent.slices.levels ∙ a.lent.slices.levels;
          flow = c.lent.slices.flow ∙ a.lent.slices.flow;
          amounts = c.lent.slices.amounts ∙ a.lent.slices.amounts;
          work = c.lent.slices.work ∙ a.lent.slices.work;
        };
      };
      bytes = after ∙ ap (bytes_after m.bytes.now row) (sym (add-one k));
      told = ap₂ (λ xs x. xs ++ (x ∷ [])) a.told answered ∙ sym (map-range_with_len_more (answer_at m.bytes.now row) 0 k k (omega arith));
    }

-- a row that was applied to a model, after it was drained
module _ (bs : List ℕ) (wf : WellFormed bs) (old first : Contents) (d : Drained) (p : Promise bs old first d) where
  pub row_begins : (m : Current) → m.bytes.now ≡ bs → Sized m.grid bs → m.leaves ≡ d.leaves → IsDrained m first first
  row_begins m same sized leaves = record {
    sized = subst (Sized m.grid) (sym same) sized;
    taken = ap fault same ∙ taken bs wf;
    tabled = subst (λ b. Tabled b first first) (sym same) (tabled_now bs wf old first (first_tabled bs old first d p));
    leaves = ap (λ a. a.0) leaves ∙ (p.leaves ∙ ap leaves_in (sym same));
  }

  pub row_ends : (row : List Asked) (n : Current) (last : Contents) (cs : List ℕ) (answers : List (Result Changed Refusal)) → None ≡ room_fault (count bs) old → IsDrained n first last → n.bytes.now ≡ bytes_after bs row (length row) →
      answers ≡ map (answer_at bs row) (range_with_len 0 (length row)) → cs ≡ n.bytes.now → Applied bs old row cs last answers
  row_ends row n last cs answers room e after told same =
      let k = subst (Kept bs) (sym (same ∙ after)) (row_kept bs row wf (length row)) in
      record {
        taken = ap₂ or_else (taken bs wf) (sym room);
        bytes = same ∙ after;
        promise = tabled_promise cs k.sound old last (tabled_on bs wf old first (first_tabled bs old first d p) cs last (kept_count bs cs k) (subst (λ b. Tabled b first last) (sym same) e.tabled));
        answered = told;
      }
