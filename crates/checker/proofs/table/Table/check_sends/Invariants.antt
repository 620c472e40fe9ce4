use Rattle.std.proofs.Common.{◌≡◌, ◌-◌, false}
use Rattle.model.specs.Bytes.{count}
use Rattle.model.specs.Grid.{among}
use Rattle.model.specs.OfModel.{bytes_of}
use Rattle.model.specs.Terrain.{land}
use Rattle.checker.specs.Table.{flow_from}
use Rattle.checker.specs.Conditions.{sends_ok}
use Rattle.checker.specs.Faults.{first_bad}
use Rattle.checker.proofs.Sides.{sides}
use Rattle.checker.proofs.table.Table.check_sends.Given as goal

abbrev pub invariant-cells : goal.invariant-cells
invariant-cells l =
    first_bad (sends_ok (land (bytes_of l.self.model)) (flow_from l.self.bytes.now)) 0 (count (bytes_of l.self.model)) ≡
    first_bad (sends_ok (land (bytes_of l.self.model)) (flow_from l.self.bytes.now)) l.c (count (bytes_of l.self.model) - l.c)

abbrev pub invariant-sides : goal.invariant-sides
invariant-sides l = among l.to.0 (sides (bytes_of l.self.model) l.side-index l.c) ≡ false
