-- The slices hold the table of the model after its first drain, and after the row that of the changed one.
use Rattle.std.proofs.Common.{sym, refl, ap, ◌∙◌, subst, rules}
use Rattle.model.specs.Bytes.{count}
use Rattle.model.specs.Of.{Sized}
use Rattle.model.specs.Slices.{lists_of}
use Rattle.amounts.specs.Draining.{room_fault}
use Rattle.amounts.specs.Promise.{Promise}
use Rattle.changes.proofs.RowLoop.{row_begins, row_ends}
use Rattle.changes.proofs.row.apply_row.Goals as goal

pub answer_all-requires-clause-drained : goal.answer_all-requires-clause-drained
answer_all-requires-clause-drained c =
    let bs = c.args.bytes.now in
    let r = c.in_ok-model.ensures in
    let p = subst (λ b. Promise b (lists_of c.args.slices.now) (lists_of c.drain_model.new.slices) c.in_ok-leaves.field-0) r.model c.in_ok-leaves.ensures.after in
    row_begins bs r.meaning _ _ _ p _ refl (subst (λ g. Sized g bs) (sym c.grid-grid.ensures) r.grid) refl

pub returns-clause-after : goal.returns-clause-after
returns-clause-after c =
    let bs = c.args.bytes.now in
    let r = c.in_ok-model.ensures in
    let e = c.answer_all.ensures in
    let p = subst (λ b. Promise b (lists_of c.args.slices.now) (lists_of c.drain_model.new.slices) c.in_ok-leaves.field-0) r.model c.in_ok-leaves.ensures.after in
    row_ends bs r.meaning (lists_of c.args.slices.now) (lists_of c.drain_model.new.slices) c.in_ok-leaves.field-0 p c.args.row.now c.answer_all.new.current (lists_of c.answer_all.new.slices) _ _ (c.in_ok-leaves.ensures.refused ∙ ap (λ b. room_fault (count b) (lists_of c.args.slices.now)) r.model) e.after e.bytes e.answers (search rules)
