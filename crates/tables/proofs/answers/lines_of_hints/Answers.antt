use Rattle.std.proofs.Common.{◌≡◌, ℕ, [], Option, Some, None, refl, append-nil, rules, tests}
use Rattle.std.specs.List.{flat_map, cons_option}
use Rattle.std.proofs.lemmas.Iterator.{YieldsList-from_slice}
use Rattle.std.proofs.lemmas.Iterator.Consumers.{YieldsList-from_filter_map}
use Rattle.changes.specs.declared.asked.Change.{Change}
use Rattle.tables.specs.Changing.{hint_text, hint_if, hint, hint_at}
use Rattle.tables.specs.Printing.{line}
use Rattle.tables.proofs.Printed.{all_lines, flat_map-filter_map}
use Rattle.tables.proofs.answers.lines_of_hints.Goals as goal

-- a line that is no change has its hint
hinted : (number : ℕ) (o : Option Change) → flat_map (λ h. line (hint_text h.line)) (cons_option (hint_at (record { line = number; change = o })) []) ≡ hint_if number o
hinted number None = append-nil (line (hint_text number))
hinted number (Some x) = refl

pub returns : goal.returns
returns c =
    let row = c.args.row.now in
    all_lines (λ h. hint_text h.line) _ c.lines_of.result c.lines_of.ensures (λ x. refl)
    (YieldsList-from_filter_map _ hint_at (YieldsList-from_slice row cc) c.filter_map.ensures.closure (λ x r q k. search (rules, tests))) (flat_map-filter_map (λ h. line (hint_text h.line)) hint_at hint (λ a. hinted a.line a.change) row)
