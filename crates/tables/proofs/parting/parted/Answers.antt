-- What is read for each cell is its basin.
use Rattle.std.proofs.Common.{cond, Some, None, sym, ap, ◌∙◌}
use Rattle.model.specs.Bytes.{count}
use Rattle.amounts.specs.Joined.{joined}
use Rattle.amounts.specs.Promise.{flow_in}
use Rattle.basins.specs.Draining.{basin_of}
use Rattle.basins.specs.Parting.{basin_at}
use Rattle.tables.specs.Basins.{basin_if, basins_text}
use Rattle.tables.proofs.Texts.{joined_same}
use Rattle.tables.proofs.parting.parted.Goals as goal

pub returns : goal.returns
returns c =
    let bs = c.in_ok-model.model.bytes.now in
    let flow = c.drain_basins.new.slices.flow.now in
    let amounts = c.drain_basins.new.slices.amounts.now in
    let cells = c.drain_basins.new.cells in
    let same = c.in_ok-model.ensures.model in
    let listed = joined_same (λ e. basin_if (basin_at flow amounts cells e)) (λ e. basin_if (cond ((flow_in bs).off e) (Some (basin_of bs e)) None)) (count bs) (λ x a. ap basin_if (c.in-Ok.ensures.after.listed x a)) in
    (sym c.in_ok-model.ensures.fault, c.in_ok-basin_lines.ensures ∙ (listed ∙ ap basins_text same))
