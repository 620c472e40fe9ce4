use Rattle.std.proofs.Common.{◌≡◌, min, take, drop}
use Rattle.std.specs.Str.{all_ascii_digits}
use Rattle.changes.specs.Text.{written, largest}
use Rattle.changes.proofs.text.number.read_number.Given as goal

abbrev pub invariant-loop-byte : goal.invariant-loop-byte
invariant-loop-byte l = (all_ascii_digits (drop l.byte-index l.word) ≡ all_ascii_digits l.word) × (l.sum ≡ min (written (take l.byte-index l.word)) largest)
