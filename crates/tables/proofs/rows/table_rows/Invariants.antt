use Rattle.std.proofs.Common.{◌≡◌, ◌*◌, length, drop, vec_items}
use Rattle.amounts.specs.Joined.{joined, row_from}
use Rattle.tables.proofs.Values.{Reads}
use Rattle.tables.proofs.rows.table_rows.Given as goal

abbrev pub invariant-loop-level : goal.invariant-loop-level
invariant-loop-level l = record {
  reads : Reads l.slices.levels.now l.slices.flow.now (drop (2 * l.n) l.slices.work.now) l.slices.amounts.now l.initial.level-iterator;
  rows : vec_items l.table ≡ joined (row_from l.slices.levels.now l.slices.flow.now (drop (2 * l.n) l.slices.work.now) l.slices.amounts.now) (length l.yielded);
}
