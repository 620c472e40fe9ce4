use Rattle.std.proofs.Common.{◌≡◌, ℕ, ◌-◌, ◌≤◌, true}
use Rattle.model.specs.Bytes.{count}
use Rattle.model.specs.Grid.{among}
use Rattle.model.specs.OfModel.{bytes_of}
use Rattle.model.specs.Terrain.{land}
use Rattle.amounts.specs.Row.{level_at}
use Rattle.checker.specs.Table.{flow_from}
use Rattle.checker.specs.Conditions.{level_ok}
use Rattle.checker.specs.Faults.{first_bad}
use Rattle.checker.proofs.Sides.{sides}
use Rattle.checker.proofs.table.Table.check_levels.Given as goal

abbrev pub invariant-cells : goal.invariant-cells
invariant-cells l =
    first_bad (level_ok (land (bytes_of l.self.model)) (flow_from l.self.bytes.now)) 0 (count (bytes_of l.self.model)) ≡
    first_bad (level_ok (land (bytes_of l.self.model)) (flow_from l.self.bytes.now)) l.c (count (bytes_of l.self.model) - l.c)

abbrev pub invariant-sides : goal.invariant-sides
invariant-sides l = (d : ℕ) → among d (sides (bytes_of l.self.model) l.side-index l.c) ≡ true → level_at l.self.bytes.now l.c ≤ level_at l.self.bytes.now d
