-- The first fault of a table.
use Rattle.std.specs.Prelude.{ℕ, zero, suc, ◌*◌, Bool, cond, List, length, Some, None, Option, ◌==◌}
use Rattle.std.specs.Option.{option_map}
use Rattle.model.specs.declared.units.Cell.{Cell}
use Rattle.model.specs.declared.refusal.Refusal.{Refusal}
use Rattle.model.specs.declared.refusal.Refusal.TheVariants.{Table, Level, Sends, Amount}
use Rattle.model.specs.Bytes.{count}
use Rattle.model.specs.Faults.{or_else, fault}
use Rattle.model.specs.Terrain.{land}
use Rattle.amounts.specs.Row.{row_size, amount_at}
use Rattle.checker.specs.Table.{flow_from}
use Rattle.checker.specs.Conditions.{sends_ok, level_ok, amount_ok}

-- the first of the k cells from cell c on of which something does not hold
unfoldable pub first_bad : (ℕ → Bool) → (c k : ℕ) → Option ℕ
first_bad ok c zero = None
first_bad ok c (suc k) = cond (ok c) (first_bad ok (suc c) k) (Some c)

-- a refusal of the first of n cells of which something does not hold
abbrev pub refused_by : (Cell → Refusal) → (ℕ → Bool) → ℕ → Option Refusal
refused_by why ok n = option_map (λ c. why (record { 0 = c })) (first_bad ok 0 n)

-- the table is longer or shorter than the model's
abbrev pub length_fault : (bs t : List ℕ) → Option Refusal
length_fault bs t = cond (length t == row_size * count bs) None (Some (Table (length t)))

-- the first cell that sends to a wrong place, that has a wrong level, that has a wrong amount
abbrev pub sends_fault : (bs t : List ℕ) → Option Refusal
sends_fault bs t = refused_by Sends (sends_ok (land bs) (flow_from t)) (count bs)

abbrev pub level_fault : (bs t : List ℕ) → Option Refusal
level_fault bs t = refused_by Level (level_ok (land bs) (flow_from t)) (count bs)

abbrev pub amount_fault : (bs t : List ℕ) → Option Refusal
amount_fault bs t = refused_by Amount (amount_ok (land bs) (flow_from t) (amount_at t)) (count bs)

-- THE FIRST FAULT OF A TABLE for a model, if it has one
abbrev pub table_fault : (bs t : List ℕ) → Option Refusal
table_fault bs t = or_else (length_fault bs t) (or_else (sends_fault bs t) (or_else (level_fault bs t) (amount_fault bs t)))

-- WHY A TABLE IS REFUSED: the first fault of the model's bytes, then that of the table
abbrev pub check_fault : (bs t : List ℕ) → Option Refusal
check_fault bs t = or_else (fault bs) (table_fault bs t)
