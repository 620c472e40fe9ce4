use Rattle.std.proofs.Common.{◌≡◌}
use Rattle.std.specs.Result.{result_err}
use Rattle.checker.specs.Faults.{check_fault}
use Rattle.checker.proofs.Meaning.{meaning}
use Rattle.checker.proofs.checking.check.Goals as goal

pub returns-clause-meaning : goal.returns-clause-meaning
returns-clause-meaning c =
    let first : result_err c.check_table.result ≡ check_fault c.args.bytes.now c.args.table.now = rw (← c.in_ok-read.ensures.fault, ← c.in_ok-read.ensures.model) c.check_table.ensures in
    meaning c.args.bytes.now c.args.table.now c.check_table.result first
