use Rattle.std.proofs.Common.{◌≡◌, ◌+◌, ◌≤◌, length, drop, take, sym, ap, ◌∙◌, arith, le-leb}
use Rattle.std.proofs.lemmas.Bool.{cond-true}
use Rattle.std.proofs.lemmas.List.{take_rest, drop-drop, take-take}
use Rattle.std.specs.Int.{from_le_bytes, w32, w64}
use Rattle.model.specs.Bytes.{four}
use Rattle.flood.specs.Sent.{sends_of}
use Rattle.amounts.specs.Row.{eight, row_start, row_size, row_part, has_row, level_at, sends_at, place_at, amount_at}
use Rattle.amounts.proofs.RowBytes.{four_part, eight_part}
use Rattle.amounts.proofs.rows.read_row.Goals as goal

pub returns : goal.returns
returns c =
    let t = c.args.table.now in
    let n = c.args.cell.0 in
    let xs = row_part t n in
    let left : c.in_ok-get.field-0.now ≡ drop (row_start n) t = c.in_ok-get.ensures.lookup.0.2 ∙ (take_rest t c.row_start.result ∙ ap (λ k. drop k t) c.row_start.ensures) in
    let part : c.in_ok-part.part.now ≡ xs = c.in_ok-part.ensures.cases.same ∙ ap (take row_size) left in
    let whole_part : take row_size xs ≡ xs = take-take row_size row_size (drop (row_start n) t) (omega arith) in
    let after_level : c.in_ok-level.part.now ≡ drop 4 xs = c.in_ok-level.ensures.cases.1 ∙ ap (drop 4) part in
    let after_sends : c.in_ok-sends.part.now ≡ drop 8 xs = c.in_ok-sends.ensures.cases.1 ∙ (ap (drop 4) after_level ∙ drop-drop 4 4 xs) in
    let after_place : c.in_ok-place.part.now ≡ drop 12 xs = c.in_ok-place.ensures.cases.1 ∙ (ap (drop 4) after_sends ∙ drop-drop 4 8 xs) in
    let level : c.from_le_bytes.result ≡ level_at t n = c.from_le_bytes.ensures ∙ (ap (from_le_bytes w32) (c.in_ok-level.ensures.cases.0 ∙ ap (take 4) part) ∙ (four_part xs 0 row_size (omega arith) ∙ ap four whole_part)) in
    let sends : c.from_le_bytes-2.result ≡ sends_at t n = c.from_le_bytes-2.ensures ∙ (ap (from_le_bytes w32) (c.in_ok-sends.ensures.cases.0 ∙ ap (take 4) after_level) ∙ (four_part xs 4 row_size (omega arith) ∙ ap (λ ys. four (drop 4 ys)) whole_part)) in
    let place : c.from_le_bytes-3.result ≡ place_at t n = c.from_le_bytes-3.ensures ∙ (ap (from_le_bytes w32) (c.in_ok-place.ensures.cases.0 ∙ ap (take 4) after_sends) ∙ (four_part xs 8 row_size (omega arith) ∙ ap (λ ys. four (drop 8 ys)) whole_part)) in
    let amount : c.from_le_bytes-4.result ≡ amount_at t n = c.from_le_bytes-4.ensures ∙ (ap (from_le_bytes w64) (c.in_ok-amount.ensures.cases.same ∙ ap (take 8) after_place) ∙ (eight_part xs 12 row_size (omega arith) ∙ ap (λ ys. eight (drop 12 ys)) whole_part)) in
    let sent = c.from.ensures.0 ∙ ap sends_of sends in
    let long : row_start n + row_size ≤ length t = omega (arith, c.row_start.ensures, c.in_ok-get.ensures.lookup.0.3, c.in_ok-part.ensures.cases.enough) in
    let whole = cond-true (has_row t n) _ _ (le-leb (row_start n + row_size) (length t) long) in
    sym (whole ∙ cc)
