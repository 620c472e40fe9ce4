-- What the row left is what the text and the table say.
use Rattle.std.proofs.Common.{◌++◌, sym, ap, ap₂, ◌∙◌}
use Rattle.std.specs.List.{flat_map}
use Rattle.std.proofs.lemmas.List.{with_items_is}
use Rattle.model.specs.Bytes.{count}
use Rattle.model.specs.Slices.{lists_of}
use Rattle.model.proofs.Taken.{formed}
use Rattle.amounts.specs.Promise.{table_bytes}
use Rattle.checker.specs.Faults.{check_fault}
use Rattle.checker.proofs.DrainedTable.{drained_accepted}
use Rattle.tables.specs.Changing.{answer_line, hint, changed_bytes, changes_text}
use Rattle.tables.proofs.Told.{lent_long, just_long, places_low, rows_told}
use Rattle.tables.proofs.Rowed.{row_left, row_answered}
use Rattle.tables.proofs.changing.changed.Goals as goal

pub table_rows-requires : goal.table_rows-requires
table_rows-requires c =
    let model = c.in_ok-read.field-0 in
    let copied = c.deref_mut.ensures.value ∙ (c.in_ok-extend_from_slice.ensures.items ∙ (ap (λ xs. xs ++ c.args.bytes.now) c.new-model.ensures.items ∙ sym c.in_ok-read.ensures.model)) in
    let long = lent_long (count model.bytes.now) _ _ c.in_ok-memory.ensures c.slices-slices.ensures in
    let left = row_left model.bytes.now _ c.apply_row.new.bytes _ (lists_of c.apply_row.new.slices) _ _ copied c.in_ok-answers.ensures.after (formed model.bytes.now model.taken) long in
    record { long = just_long c.apply_row.new.bytes left.sound _ left.held; places = places_low c.apply_row.new.bytes left.sound _ left.held }

pub returns : goal.returns
returns c =
    let model = c.in_ok-read.field-0 in
    let bs = model.bytes.now in
    let cs = c.apply_row.new.bytes in
    let copied = c.deref_mut.ensures.value ∙ (c.in_ok-extend_from_slice.ensures.items ∙ (ap (λ xs. xs ++ c.args.bytes.now) c.new-model.ensures.items ∙ sym c.in_ok-read.ensures.model)) in
    let long = lent_long (count bs) _ _ c.in_ok-memory.ensures c.slices-slices.ensures in
    let applied = c.in_ok-answers.ensures.after in
    let left = row_left bs _ cs _ (lists_of c.apply_row.new.slices) _ _ copied applied (formed bs model.taken) long in
    let rows = rows_told cs left.sound _ left.held _ c.in_ok-table_rows.ensures in
    let whole = with_items_is c.extend_from_slice.new.self cs (c.apply_row.auto.bytes ∙ c.deref_mut.ensures.len) in
    let same = c.in_ok-read.ensures.model in
    let asked = c.deref.ensures.value ∙ c.in_ok-row.ensures in
    let bytes = left.bytes ∙ ap₂ changed_bytes same asked in
    record {
      taken = sym c.in_ok-read.ensures.fault;
      told = record {
        lines = row_answered bs _ cs _ _ _ _ copied applied _ (c.in_ok-lines_of_answers.ensures ∙ ap (flat_map answer_line) c.deref-2.ensures.value) ∙ ap₂ changes_text same asked;
        hints = c.in_ok-lines_of_hints.ensures ∙ ap (flat_map hint) (c.deref-3.ensures.value ∙ c.in_ok-row.ensures);
        model = whole ∙ bytes;
        rows = rows ∙ ap table_bytes bytes;
        accepted = ap₂ check_fault whole rows ∙ drained_accepted cs left.sound;
      };
    }
