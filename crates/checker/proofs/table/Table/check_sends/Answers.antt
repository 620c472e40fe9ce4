-- Each way through the loops is one of Sending.
use Rattle.std.proofs.Common.{arith}
use Rattle.std.proofs.lemmas.Grind.{common_steps}
use Rattle.std.proofs.lemmas.Bool.Decides.{nat_tests}
use Rattle.checker.proofs.FirstBad.{bad_next, bad_none}
use Rattle.checker.proofs.Sides.{side_none, side_some, side_in, side_among}
use Rattle.checker.proofs.Sending.{off_right, off_wrong, on, still_none}
use Rattle.checker.proofs.table.Table.check_sends.Goals as goal

pub returns-then-not-is_off_right : goal.returns-then-not-is_off_right
returns-then-not-is_off_right c = grind (arith, common_steps, bad_next, off_wrong)

pub cells-preserved-in_default : goal.cells-preserved-in_default
cells-preserved-in_default c = grind (arith, common_steps, nat_tests, bad_next, off_right)

pub sides-preserved-in_default-neighbour : goal.sides-preserved-in_default-neighbour
sides-preserved-in_default-neighbour c = grind (arith, common_steps, side_none)

pub sides-preserved : goal.sides-preserved
sides-preserved c =
    let more = side_some c.args.self.now.model.bytes.now c.cells.c c.sides.side-index _ (omega arith) (omega arith) c.in-Some.next.0 c.in-Some.ensures in
    grind (arith, nat_tests, still_none)

pub row-requires : goal.row-requires
row-requires c = omega (arith, side_in c.args.self.now.model.bytes.now c.cells.c c.sides.side-index _ (omega arith) (omega arith) c.in-Some.next.0 c.in-Some.ensures)

pub cells-preserved : goal.cells-preserved
cells-preserved c =
    let beside = side_among c.args.self.now.model.bytes.now c.cells.c c.sides.side-index _ (omega arith) (omega arith) c.in-Some.next.0 c.in-Some.ensures in
    grind (arith, nat_tests, bad_next, on)

pub returns-in-sides : goal.returns-in-sides
returns-in-sides c =
    let beside = side_among c.args.self.now.model.bytes.now c.cells.c c.sides.side-index _ (omega arith) (omega arith) c.in-Some.next.0 c.in-Some.ensures in
    grind (arith, nat_tests, bad_next, on)

pub returns-in-cells : goal.returns-in-cells
returns-in-cells c = grind (arith, common_steps, nat_tests, bad_next, on)

pub returns : goal.returns
returns c = grind (arith, common_steps, bad_none)
