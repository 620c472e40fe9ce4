-- What comes of a change that is refused, and of one that is made.
use Rattle.std.proofs.Common.{None, ◌≡◌, ℕ, true, false, cond, List, Some, Ok, Err, Result, sym, ap, ◌∙◌, subst, ap₂}
use Rattle.model.specs.declared.edits.OutOfRange.{OutOfRange}
use Rattle.model.specs.Bytes.{count}
use Rattle.model.specs.Faults.{fault}
use Rattle.model.specs.Of.{Sized}
use Rattle.model.specs.declared.slices.Slices.{Slices}
use Rattle.model.specs.Slices.{lists_of}
use Rattle.model.specs.WellFormed.{WellFormed}
use Rattle.model.proofs.Taken.{well_formed, taken}
use Rattle.amounts.specs.declared.answer.DrainedAgain.{DrainedAgain}
use Rattle.amounts.specs.Again.{Again}
use Rattle.amounts.specs.Draining.{room_fault}
use Rattle.changes.specs.declared.answer.Changed.{Changed}
use Rattle.changes.specs.declared.applying.Current.{Current}
use Rattle.changes.specs.declared.asked.Change.{Change}
use Rattle.changes.specs.Applied.{allowed, edited, changed_by, leaves_in, levels_between, outcome, Tabled}
use Rattle.changes.specs.Current.{IsDrained, SameLent, Changes}
use Rattle.changes.proofs.Edits.{Kept, kept_count, kept_sized, changed_kept}
use Rattle.changes.proofs.Holding.{tabled_room, changed_levels}

-- what comes of a change that is made
abbrev came_of : List ℕ → Change → Changed
came_of bs x = record { leaves = record { 0 = leaves_in (changed_by bs (Some x)) }; levels = levels_between bs (changed_by bs (Some x)) }

pub made_bytes : (bs : List ℕ) (x : Change) → allowed bs x ≡ true → changed_by bs (Some x) ≡ edited bs x
made_bytes bs x may = ap (λ b. cond b (edited bs x) bs) may

-- refused: the bytes stay
pub refused_bytes : (bs : List ℕ) (x : Change) → allowed bs x ≡ false → changed_by bs (Some x) ≡ bs
refused_bytes bs x not = ap (λ b. cond b (edited bs x) bs) not

pub made_outcome : (bs : List ℕ) (x : Change) (d : Changed) → allowed bs x ≡ true → d.leaves.0 ≡ leaves_in (changed_by bs (Some x)) → d.levels ≡ levels_between bs (changed_by bs (Some x)) → Ok d ≡ outcome bs x
made_outcome bs x d may l k =
    let none : Result Changed OutOfRange = Err (record {}) in
    ap₂ {C = Result Changed OutOfRange} (λ (u v : ℕ). Ok (record { leaves = record { 0 = u }; levels = v })) l k ∙ sym (ap (λ b. cond b (Ok (came_of bs x)) none) may)

module _ (m : Current) (s : Slices) (d : IsDrained m (lists_of s) (lists_of s)) (x : Change) (cs : List ℕ) (bytes : cs ≡ changed_by m.bytes.now (Some x)) where
  wf : WellFormed m.bytes.now
  wf = well_formed m.bytes.now d.taken

  kept : Kept m.bytes.now cs
  kept = subst (Kept m.bytes.now) (sym bytes) (changed_kept m.bytes.now (Some x) wf)

  -- the changed bytes are a model of the same size, for which the slices have room
  pub changed_sized : Sized m.grid cs
  changed_sized = kept_sized m.grid m.bytes.now cs kept d.sized

  pub changed_taken : fault cs ≡ None
  changed_taken = taken cs kept.sound

  pub changed_room : room_fault (count cs) (lists_of s) ≡ None
  changed_room = ap (λ k. room_fault k (lists_of s)) (kept_count m.bytes.now cs kept) ∙ tabled_room m.bytes.now wf (lists_of s) (lists_of s) d.tabled

  -- what holds of the model then, whose slices hold the table of these bytes
  pub now_changes : (n : Current) (t : Slices) → n.grid ≡ m.grid → n.bytes.now ≡ cs → n.leaves.0 ≡ leaves_in cs → Tabled cs (lists_of s) (lists_of t) → SameLent m n s t → Changes m (Some x) n s t
  now_changes n t grid same leaves tabled lent = record {
    bytes = same ∙ bytes;
    drained = record {
      sized = subst (λ g. Sized g n.bytes.now) (sym grid) (subst (Sized m.grid) (sym same) changed_sized);
      taken = ap fault same ∙ changed_taken;
      tabled = subst (λ b. Tabled b (lists_of s) (lists_of t)) (sym same) tabled;
      leaves = leaves ∙ ap leaves_in (sym same);
    };
    lent = lent;
  }

  -- where the change is refused, the model is as it was
  pub refused_changes : (n : Current) → allowed m.bytes.now x ≡ false → n.grid ≡ m.grid → n.bytes.now ≡ cs → n.leaves.0 ≡ m.leaves.0 → SameLent m n s s → Changes m (Some x) n s s
  refused_changes n not grid same leaves lent =
      let stays = bytes ∙ refused_bytes m.bytes.now x not in
      now_changes n s grid same (leaves ∙ (d.leaves ∙ ap leaves_in (sym stays))) (subst (λ b. Tabled b (lists_of s) (lists_of s)) (sym stays) d.tabled) lent

  -- where it is made and drained again, what comes of it is what draining answers
  pub redrained_outcome : (t : Slices) (a : DrainedAgain) → Again cs (lists_of s) (lists_of t) a → allowed m.bytes.now x ≡ true → Ok (record { leaves = a.drained.leaves; levels = a.changed }) ≡ outcome m.bytes.now x
  redrained_outcome t a again may =
      let levels = changed_levels m.bytes.now cs _ _ _ _ wf kept.sound (kept_count m.bytes.now cs kept) d.tabled.written.levels again.promise.written.levels in
      made_outcome m.bytes.now x _ may (again.promise.leaves ∙ ap leaves_in bytes) (again.changed ∙ (levels ∙ ap (levels_between m.bytes.now) bytes))
