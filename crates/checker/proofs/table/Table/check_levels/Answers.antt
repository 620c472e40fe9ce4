-- Each way through the loops is one of Standing.
use Rattle.std.proofs.Common.{◌≡◌, ℕ, ◌≤◌, true, subst, arith}
use Rattle.std.proofs.lemmas.Bool.Decides.{nat_tests}
use Rattle.model.specs.Grid.{among}
use Rattle.model.specs.declared.refusal.Refusal.TheVariants.{Sends}
use Rattle.model.specs.Terrain.{land}
use Rattle.amounts.specs.Row.{level_at}
use Rattle.checker.specs.Table.{flow_from}
use Rattle.checker.proofs.FirstBad.{none_refused, bad_next, bad_none}
use Rattle.checker.proofs.Parts.{sends_parts}
use Rattle.checker.proofs.Sides.{sides, side_none, side_some, side_in, side_next}
use Rattle.checker.proofs.Standing.{wrong_fill, at_height, lower_side, no_lower_side, still_no_lower}
use Rattle.checker.proofs.table.Table.check_levels.Goals as goal

pub fill_of-requires-clause-to : goal.fill_of-requires-clause-to
fill_of-requires-clause-to c on =
    let bs = c.args.self.now.model.bytes.now in
    let f = flow_from c.args.self.now.bytes.now in
    (sends_parts (land bs) f c.cells.c (none_refused Sends _ _ c.requires c.cells.c (omega arith))).inside on

pub returns-then-ne : goal.returns-then-ne
returns-then-ne c = grind (arith, nat_tests, bad_next, wrong_fill)

pub cells-preserved-then-eq : goal.cells-preserved-then-eq
cells-preserved-then-eq c = grind (arith, nat_tests, bad_next, at_height)

pub sides-preserved-in_default : goal.sides-preserved-in_default
sides-preserved-in_default c d h =
    let same = side_none c.args.self.now.model.bytes.now c.cells.c c.sides.side-index _ (omega arith) (omega arith) c.in_default.ensures in
    c.sides.invariant d (rw same at h)

pub row-requires-in-sides : goal.row-requires-in-sides
row-requires-in-sides c = omega (arith, side_in c.args.self.now.model.bytes.now c.cells.c c.sides.side-index _ (omega arith) (omega arith) c.in-Some.next.0 c.in-Some.ensures)

pub returns-then-lt : goal.returns-then-lt
returns-then-lt c =
    let bs = c.args.self.now.model.bytes.now in
    let d = c.in-Some.next.0 in
    let inside = side_in bs c.cells.c c.sides.side-index _ (omega arith) (omega arith) d c.in-Some.ensures in
    let next = side_next bs c.cells.c c.sides.side-index _ (omega arith) (omega arith) d c.in-Some.ensures in
    let lower = lower_side bs c.args.self.now.bytes.now c.cells.c d inside next in
    grind (arith, nat_tests, bad_next)

pub sides-preserved : goal.sides-preserved
sides-preserved c =
    let more = side_some c.args.self.now.model.bytes.now c.cells.c c.sides.side-index _ (omega arith) (omega arith) c.in-Some.next.0 c.in-Some.ensures in
    let high : level_at c.args.self.now.bytes.now c.cells.c ≤ level_at c.args.self.now.bytes.now c.in-Some.next.0 = grind (arith, nat_tests) in
    still_no_lower c.args.self.now.model.bytes.now c.args.self.now.bytes.now c.cells.c c.sides.side-index c.in-Some.next.0 more c.sides.invariant high

pub cells-preserved : goal.cells-preserved
cells-preserved c =
    let bs = c.args.self.now.model.bytes.now in
    let t = c.args.self.now.bytes.now in
    let all : c.sides.side-index ≡ 4 = omega arith in
    let each = subst (λ i. (d : ℕ) → among d (sides bs i c.cells.c) ≡ true → level_at t c.cells.c ≤ level_at t d) all c.sides.invariant in
    let stands = no_lower_side bs t c.cells.c in
    grind (arith, nat_tests, bad_next)

pub returns : goal.returns
returns c = grind (arith, bad_none)
