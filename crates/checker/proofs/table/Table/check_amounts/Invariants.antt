use Rattle.std.proofs.Common.{◌≡◌, ◌+◌, ◌-◌, ◌*◌, ◌^◌, ◌<◌, sum_by}
use Rattle.model.specs.Bytes.{count, rain_at}
use Rattle.model.specs.OfModel.{bytes_of}
use Rattle.model.specs.Terrain.{land}
use Rattle.amounts.specs.Amounts.{sends}
use Rattle.amounts.specs.Row.{amount_at}
use Rattle.checker.specs.Table.{flow_from}
use Rattle.checker.specs.Conditions.{amount_ok}
use Rattle.checker.specs.Faults.{first_bad}
use Rattle.checker.proofs.Sides.{sides}
use Rattle.checker.proofs.table.Table.check_amounts.Given as goal

abbrev pub invariant-cells : goal.invariant-cells
invariant-cells l =
    first_bad (amount_ok (land (bytes_of l.self.model)) (flow_from l.self.bytes.now) (amount_at l.self.bytes.now)) 0 (count (bytes_of l.self.model)) ≡
    first_bad (amount_ok (land (bytes_of l.self.model)) (flow_from l.self.bytes.now) (amount_at l.self.bytes.now)) l.c (count (bytes_of l.self.model) - l.c)

abbrev pub invariant-sides : goal.invariant-sides
invariant-sides l =
    (l.sum ≡ rain_at (bytes_of l.self.model) l.c + sum_by (sends (flow_from l.self.bytes.now) (amount_at l.self.bytes.now) l.c) (sides (bytes_of l.self.model) l.side-index l.c)) ×
    (l.sum < (l.side-index + 1) * 2 ^ 64)
