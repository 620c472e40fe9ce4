-- What is told of the model in the bytes of a file.
use Rattle.std.specs.Prelude.{◌≡◌, ℕ, List, Some, None, vec_items, string_bytes}
use Rattle.model.specs.Bytes.{count}
use Rattle.model.specs.Faults.{fault}
use Rattle.model.specs.Terrain.{land}
use Rattle.flood.specs.Flooded.{table_of}
use Rattle.amounts.specs.Amounts.{all_rain, all_off}
use Rattle.amounts.specs.Passing.{table_amounts}
use Rattle.amounts.specs.Promise.{flow_in, amount_in, table_bytes}
use Rattle.checker.specs.Faults.{check_fault}
use Rattle.tables.specs.declared.report.Report.{Report}
use Rattle.changes.specs.declared.failure.Failure.{Failure}
use Rattle.changes.specs.declared.failure.Failure.TheVariants.{Refused, Memory}
use Rattle.tables.specs.Lines.{drain_lines}

-- THE TEXT of a drained model: the lines of the levels, the flow and the amounts that the rule gives
abbrev pub drain_text : List ℕ → List ℕ
drain_text bs = drain_lines bs (table_of bs).levels (table_of bs).flow (table_amounts bs) (all_rain (land bs) (count bs)) (all_off (flow_in bs) (amount_in bs) (count bs))

-- what is reported of a model: its text, and the bytes of its table, which the checker accepts
pub record Reported (bs : List ℕ) (r : Report) : Type 0 where
  pub lines : string_bytes r.text ≡ drain_text bs
  pub rows : vec_items r.table ≡ table_bytes bs
  pub accepted : check_fault bs (vec_items r.table) ≡ None

-- why there is none: the first fault of the file; or want of memory, which may come for any file
abbrev pub Fails : List ℕ → Failure → Type 0
Fails bs (Refused r) = fault bs ≡ Some r
Fails bs Memory = Unit {0}
