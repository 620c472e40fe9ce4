use Rattle.std.proofs.Common.{sym, refl, rules, ◌∙◌}
use Rattle.changes.proofs.Outcomes.{changed_sized, changed_taken, changed_room, refused_changes, now_changes, redrained_outcome}
use Rattle.changes.proofs.applying.Current.apply.Goals as goal

pub returns-in_err-write_change-clause-after : goal.returns-in_err-write_change-clause-after
returns-in_err-write_change-clause-after c =
    let w = c.in_err-write_change.ensures in
    refused_changes c.args.self.now c.args.slices.now c.requires c.args.change _ w.bytes _ (sym w.done) refl refl refl (search rules)

pub new-model-requires : goal.new-model-requires
new-model-requires c =
    let w = c.in_ok-write_change.ensures in
    record {
      sized = changed_sized c.args.self.now c.args.slices.now c.requires c.args.change _ w.bytes;
      taken = changed_taken c.args.self.now c.args.slices.now c.requires c.args.change _ w.bytes;
    }

pub unreachable-requires : goal.unreachable-requires
unreachable-requires c =
    let room = changed_room c.args.self.now c.args.slices.now c.requires c.args.change _ (c.new-model.ensures.bytes ∙ c.in_ok-write_change.ensures.bytes) in
    cc (c.in_default-drain_again.ensures.refused ∙ room)

pub returns : goal.returns
returns c =
    let w = c.in_ok-write_change.ensures in
    let same = c.new-model.ensures.bytes in
    let p = c.in-Ok.ensures.after.promise in
    record {
      outcome = redrained_outcome c.args.self.now c.args.slices.now c.requires c.args.change _ (same ∙ w.bytes) c.drain_again.new.slices c.in-Ok.again c.in-Ok.ensures.after (sym w.done);
      after = now_changes c.args.self.now c.args.slices.now c.requires c.args.change _ (same ∙ w.bytes) _ _ refl (sym same) p.leaves (record { written = p.written; poured = p.poured }) (search rules);
    }
