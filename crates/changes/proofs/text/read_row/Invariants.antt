use Rattle.std.proofs.Common.{◌≡◌, ◌+◌, ◌++◌, length, vec_items, drop}
use Rattle.changes.specs.Text.{lines, asked_from, row_of}
use Rattle.changes.proofs.text.read_row.Given as goal

abbrev pub invariant-lines : goal.invariant-lines
invariant-lines l = vec_items l.row ++ asked_from (length l.yielded + 1) (drop (length l.yielded) (lines l.text)) ≡ row_of l.text
