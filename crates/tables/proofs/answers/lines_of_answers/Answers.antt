use Rattle.std.proofs.Common.{Result, refl, rules}
use Rattle.std.proofs.lemmas.Iterator.{YieldsList-from_slice, YieldsList-from_map}
use Rattle.std.proofs.lemmas.Iterator.Consumers.{YieldsList-at, YieldsList-from_copied}
use Rattle.std.proofs.lemmas.List.Folds.{flat_map-map}
use Rattle.model.specs.declared.refusal.Refusal.{Refusal}
use Rattle.changes.specs.declared.answer.Changed.{Changed}
use Rattle.tables.specs.declared.answers.AnswerLine.{AnswerLine}
use Rattle.tables.specs.Changing.{answer_text}
use Rattle.tables.proofs.Printed.{all_lines}
use Rattle.tables.proofs.answers.lines_of_answers.Goals as goal

abbrev line_of : Result Changed Refusal → AnswerLine
line_of a = record { 0 = a }

pub returns : goal.returns
returns c =
    let answers = c.args.answers.now in
    all_lines (λ l. answer_text l.0) _ c.lines_of.result c.lines_of.ensures (λ x. refl)
    (YieldsList-from_map _ line_of (YieldsList-at c.map.ensures.source (YieldsList-from_copied (YieldsList-from_slice answers cc))) c.map.ensures.closure (λ x r q k. search rules)) (flat_map-map _ line_of answers)
