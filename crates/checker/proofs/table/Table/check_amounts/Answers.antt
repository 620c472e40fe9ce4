-- The sum over the sides of a cell is what all cells send to it.
use Rattle.std.proofs.Common.{◌≡◌, ◌+◌, eqb, sum_by, ap, ◌∙◌, arith}
use Rattle.std.proofs.lemmas.Bool.Decides.{nat_tests}
use Rattle.std.proofs.lemmas.List.Sums.{sum_by_push}
use Rattle.model.specs.declared.refusal.Refusal.TheVariants.{Sends}
use Rattle.model.specs.Bytes.{rain_at}
use Rattle.model.specs.Terrain.{land}
use Rattle.amounts.specs.Amounts.{sends}
use Rattle.amounts.specs.Row.{amount_at}
use Rattle.checker.specs.Table.{flow_from}
use Rattle.checker.specs.Conditions.{amount_ok}
use Rattle.checker.proofs.FirstBad.{none_refused, bad_next, bad_none}
use Rattle.checker.proofs.Sides.{sides, side_none, side_some, side_in}
use Rattle.checker.proofs.Gathering.{amount_by}
use Rattle.checker.proofs.table.Table.check_amounts.Goals as goal
use Rattle.checker.proofs.table.Table.check_amounts.Goals.{After-sides}

pub sides-preserved-in_default : goal.sides-preserved-in_default
sides-preserved-in_default c =
    let same = side_none c.args.self.now.model.bytes.now c.cells.c c.sides.side-index _ (omega arith) (omega arith) c.in_default.ensures in
    (rw same c.sides.invariant.0, omega arith)

pub sent-requires : goal.sent-requires
sent-requires c = omega (arith, side_in c.args.self.now.model.bytes.now c.cells.c c.sides.side-index _ (omega arith) (omega arith) c.in-Some.next.0 c.in-Some.ensures)

pub sides-preserved : goal.sides-preserved
sides-preserved c =
    let bs = c.args.self.now.model.bytes.now in
    let t = c.args.self.now.bytes.now in
    let more = side_some bs c.cells.c c.sides.side-index _ (omega arith) (omega arith) c.in-Some.next.0 c.in-Some.ensures in
    let pushed = sum_by_push (sends (flow_from t) (amount_at t) c.cells.c) (sides bs c.sides.side-index c.cells.c) c.in-Some.next.0 in
    (rw (more, pushed) (omega arith), omega (arith, c.sent.type_inv))

-- the sum over all four sides is compared with the amount
compared : (c : After-sides) →
    amount_ok (land c.args.self.now.model.bytes.now) (flow_from c.args.self.now.bytes.now) (amount_at c.args.self.now.bytes.now) c.cells.c ≡
    eqb (amount_at c.args.self.now.bytes.now c.cells.c) c.sides.sum
compared c =
    let bs = c.args.self.now.model.bytes.now in
    let t = c.args.self.now.bytes.now in
    let all : c.sides.side-index ≡ 4 = omega arith in
    let summed = c.sides.invariant.0 ∙ ap (λ i. rain_at bs c.cells.c + sum_by (sends (flow_from t) (amount_at t) c.cells.c) (sides bs i c.cells.c)) all in
    amount_by bs (flow_from t) (amount_at t) (none_refused Sends _ _ c.requires) c.cells.c c.sides.sum (omega arith) summed

pub cells-preserved : goal.cells-preserved
cells-preserved c = let same = compared (goal.at.cells-preserved c).After-sides in grind (arith, nat_tests, bad_next)

pub returns-then-sum-from : goal.returns-then-sum-from
returns-then-sum-from c = let same = compared (goal.at.returns-then-sum-from c).After-sides in grind (arith, nat_tests, bad_next)

pub returns : goal.returns
returns c = grind (arith, bad_none)
