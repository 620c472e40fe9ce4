use Rattle.std.proofs.Common.{refl, rules, tests, lt-ltb}
use Rattle.std.proofs.lemmas.Result.{on_ok_weaker}
use Rattle.model.specs.Bytes.{count}
use Rattle.tables.specs.declared.lines.Level.{Level}
use Rattle.tables.specs.Lines.{level_text, level_of, level_above}
use Rattle.tables.proofs.Printed.{cells_printed, line_tested}
use Rattle.tables.proofs.lines.push_levels.Goals as goal

pub returns : goal.returns
returns c =
    let bs = c.args.model.now.bytes.now in
    let levels = c.args.levels.now in
    let text = λ (l : Level). level_text l.cell.0 l.level.0 in
    on_ok_weaker c.push_lines.result (λ p. cells_printed _ _ text (level_above bs levels) (level_of bs levels) (count bs) p (λ x. refl) (cc) c.filter_map-levels.ensures.closure (λ x r q k. search (rules, tests)) (λ x a. line_tested text _ _ _ (lt-ltb x (count bs) a))) c.push_lines.ensures
