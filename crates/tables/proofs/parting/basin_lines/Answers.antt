use Rattle.std.proofs.Common.{◌≡◌, ℕ, List, [], Option, Some, None, refl, append-nil, rules, tests, arith, ap, ◌∙◌}
use Rattle.std.specs.List.{flat_map, filter_map, cons_option, range_with_len}
use Rattle.std.proofs.lemmas.Iterator.{YieldsList-from_range, YieldsList-from_map}
use Rattle.std.proofs.lemmas.Iterator.Consumers.{YieldsList-at, YieldsList-from_filter_map}
use Rattle.std.proofs.lemmas.List.Folds.{flat_map-map}
use Rattle.amounts.specs.Joined.{joined}
use Rattle.basins.specs.Parting.{basin_at}
use Rattle.basins.specs.declared.parting.Basin.{Basin}
use Rattle.tables.specs.declared.parting.BasinLine.{BasinLine}
use Rattle.tables.specs.Basins.{basin_text, basin_if}
use Rattle.tables.specs.Printing.{line}
use Rattle.tables.proofs.Printed.{all_lines, flat_map-chosen}
use Rattle.tables.proofs.parting.basin_lines.Goals as goal

abbrev line_of : Basin → BasinLine
line_of b = record { 0 = b }

abbrev text : Basin → List ℕ
text b = basin_text b.outlet.0 b.cells b.amount.0

line_if : (o : Option Basin) → flat_map (λ b. line (text b)) (cons_option o []) ≡ basin_if o
line_if None = refl
line_if (Some b) = append-nil (line (text b))

pub returns : goal.returns
returns c =
    let n = c.cells.result in
    let basin = λ (e : ℕ). basin_at c.args.flow.now c.args.amounts.now c.args.cells.now e in
    all_lines (λ l. text l.0) _ c.lines_of.result c.lines_of.ensures (λ x. refl)
    (YieldsList-from_map _ line_of (YieldsList-at c.map.ensures.source (YieldsList-from_filter_map _ basin (YieldsList-from_range 0 n n (cc) (omega arith)) c.filter_map-basins.ensures.closure (λ x r q k. search (rules, tests)))) c.map.ensures.closure (λ x r q k. search rules))
    (flat_map-map (λ l. line (text l.0)) line_of (filter_map basin (range_with_len 0 n)) ∙ flat_map-chosen (λ b. line (text b)) basin (λ e. basin_if (basin e)) n (λ e a. line_if (basin e)) ∙ ap (joined (λ e. basin_if (basin e))) c.cells.ensures)
