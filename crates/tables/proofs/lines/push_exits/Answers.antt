use Rattle.std.proofs.Common.{refl, rules, tests, lt-ltb}
use Rattle.std.proofs.lemmas.Result.{on_ok_weaker}
use Rattle.model.specs.Bytes.{count}
use Rattle.tables.specs.declared.lines.Exit.{Exit}
use Rattle.tables.specs.Lines.{exit_text, exit_of, exit_above}
use Rattle.tables.proofs.Printed.{cells_printed, line_tested}
use Rattle.tables.proofs.lines.push_exits.Goals as goal

pub returns : goal.returns
returns c =
    let bs = c.args.model.now.bytes.now in
    let flow = c.args.flow.now in
    let amounts = c.args.amounts.now in
    let text = λ (e : Exit). exit_text e.cell.0 e.amount.0 in
    on_ok_weaker c.push_lines.result (λ p. cells_printed _ _ text (exit_above bs flow amounts) (exit_of bs flow amounts) (count bs) p (λ x. refl) (cc) c.filter_map-exits.ensures.closure (λ x r q k. search (rules, tests)) (λ x a. line_tested text _ _ _ (lt-ltb x (count bs) a))) c.push_lines.ensures
