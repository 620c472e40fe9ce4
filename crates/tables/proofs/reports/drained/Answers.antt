-- What draining left is what the text and the table say.
use Rattle.std.proofs.Common.{sym, ap, ap₂, ◌∙◌}
use Rattle.model.specs.Bytes.{count}
use Rattle.model.specs.Slices.{lists_of}
use Rattle.model.proofs.Taken.{formed}
use Rattle.amounts.specs.Promise.{table_bytes}
use Rattle.checker.specs.Faults.{check_fault}
use Rattle.checker.proofs.DrainedTable.{drained_accepted}
use Rattle.tables.specs.Reports.{drain_text}
use Rattle.tables.proofs.Told.{lent_long, holds, told, just_long, places_low, rows_told}
use Rattle.tables.proofs.reports.drained.Goals as goal

pub table_rows-requires : goal.table_rows-requires
table_rows-requires c =
    let model = c.in_ok-model.model in
    let bs = model.bytes.now in
    let long = lent_long (count bs) _ _ c.in_ok-memory.ensures c.slices-slices.ensures in
    let held = holds bs _ (lists_of c.drain_model.new.slices) c.in_ok-answer.answer c.in_ok-answer.ensures.after long in
    record { long = just_long bs (formed bs model.taken) _ held; places = places_low bs (formed bs model.taken) _ held }

pub returns : goal.returns
returns c =
    let model = c.in_ok-model.model in
    let bs = model.bytes.now in
    let wf = formed bs model.taken in
    let promise = c.in_ok-answer.ensures.after in
    let long = lent_long (count bs) _ _ c.in_ok-memory.ensures c.slices-slices.ensures in
    let held = holds bs _ (lists_of c.drain_model.new.slices) c.in_ok-answer.answer promise long in
    let same = c.in_ok-model.ensures.model in
    let rows = rows_told bs wf _ held _ c.in_ok-table.ensures in
    record {
      lines = told bs _ _ _ _ promise held c.in_ok-text.ensures ∙ ap drain_text same;
      rows = rows ∙ ap table_bytes same;
      accepted = ap₂ check_fault (sym same) rows ∙ drained_accepted bs wf;
    }
