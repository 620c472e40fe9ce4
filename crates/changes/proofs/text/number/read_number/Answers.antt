use Rattle.changes.proofs.Decimal.{more_digits, more_written}
use Rattle.changes.proofs.text.number.read_number.Goals as goal

pub loop-byte-preserved : goal.loop-byte-preserved
loop-byte-preserved c = (
  more_digits _ _ c.loop-byte-test.true c.loop-byte.invariant.0 c.if-not-is_ascii_digit.ensures.value,
  rw (c.saturating_add-sum.ensures, c.saturating_mul.ensures, c.from-digit.ensures) (more_written _ _ c.loop-byte-test.true _ c.loop-byte.invariant.1),
)
