-- The fault of the file is that of its head, of the cell at which the loop stops, or of the end.
use Rattle.std.proofs.Common.{◌*◌, sym, ap, ◌∙◌, ap₂, arith}
use Rattle.std.proofs.lemmas.Result.{err_from_is_err_and}
use Rattle.model.specs.Bytes.{start}
use Rattle.model.proofs.Causes.{refused_at}
use Rattle.model.proofs.CellFaults.{cell_first, cell_passed, cells_none, fault_in_cells, fault_past_cells, no_fault}
use Rattle.model.proofs.Taken.{well_formed}
use Rattle.model.proofs.reading.read.Goals as goal

pub returns-in_err-check_cell : goal.returns-in_err-check_cell
returns-in_err-check_cell c =
    let p = err_from_is_err_and c.from_residual-in_err-check_cell.result c.from_residual-in_err-check_cell.ensures.1 in
    let bs = c.args.bytes.now in
    let head = c.in_ok-grid.ensures in
    let at = c.loop-c.invariant ∙ cell_first bs c.loop-c.c _ _ (omega arith) c.in_err-check_cell.ensures in
    let first = fault_in_cells bs _ _ head.fault (ap₂ ◌*◌ head.grid.w head.grid.h) at in
    rw (p.1, p.2) (record { fault = first; model = tt; grid = tt; meaning = refused_at bs _ first })

pub loop-c-preserved : goal.loop-c-preserved
loop-c-preserved c = c.loop-c.invariant ∙ cell_passed c.args.bytes.now c.loop-c.c _ (omega arith) c.in_ok-check_cell.ensures

pub returns-then-bytes-end : goal.returns-then-bytes-end
returns-then-bytes-end c =
    let bs = c.args.bytes.now in
    let head = c.in_ok-grid.ensures in
    let none = c.loop-c.invariant ∙ cells_none bs c.loop-c.c _ (omega arith) in
    let end = c.cell_start-end.ensures ∙ ap start c.cells.ensures in
    let first = fault_past_cells bs _ _ head.fault (ap₂ ◌*◌ head.grid.w head.grid.h) none end c.if-bytes-end.true in
    record { fault = first; model = tt; grid = tt; meaning = refused_at bs _ first }

pub new-requires-clause-taken : goal.new-requires-clause-taken
new-requires-clause-taken c =
    let bs = c.args.bytes.now in
    let head = c.in_ok-grid.ensures in
    let none = c.loop-c.invariant ∙ cells_none bs c.loop-c.c _ (omega arith) in
    let end = c.cell_start-end.ensures ∙ ap start c.cells.ensures in
    sym (no_fault bs _ _ head.fault (ap₂ ◌*◌ head.grid.w head.grid.h) none end c.if-bytes-end.false)

pub returns : goal.returns
returns c =
    let bs = c.args.bytes.now in
    let head = c.in_ok-grid.ensures in
    let none = c.loop-c.invariant ∙ cells_none bs c.loop-c.c _ (omega arith) in
    let end = c.cell_start-end.ensures ∙ ap start c.cells.ensures in
    let nothing = no_fault bs _ _ head.fault (ap₂ ◌*◌ head.grid.w head.grid.h) none end c.if-bytes-end.false in
    record { fault = nothing; model = c.new.ensures.bytes; grid = rw c.new.ensures.grid c.in_ok-grid.ensures.grid; meaning = well_formed bs (sym nothing) }
