-- What is told of a row of changes.
use Rattle.std.specs.Prelude.{◌≡◌, ℕ, cond, List, [], ◌++◌, map, length, Some, None, Ok, Err, Result, vec_items, string_bytes, codes, decimal, Option, is_some}
use Rattle.std.specs.List.{range_with_len, flat_map}
use Rattle.model.specs.declared.refusal.Refusal.{Refusal}
use Rattle.model.specs.Faults.{fault}
use Rattle.model.specs.Refusals.{refused_text}
use Rattle.amounts.specs.Promise.{table_bytes}
use Rattle.changes.specs.declared.answer.Changed.{Changed}
use Rattle.changes.specs.declared.asked.Asked.{Asked}
use Rattle.changes.specs.declared.asked.Change.{Change}
use Rattle.changes.specs.Applied.{bytes_after, answer_at}
use Rattle.changes.specs.Text.{row_of}
use Rattle.checker.specs.Faults.{check_fault}
use Rattle.tables.specs.declared.report.RowReport.{RowReport}
use Rattle.tables.specs.declared.answers.Hint.{Hint}
use Rattle.tables.specs.Printing.{line}

-- what leaves after a change, and how many levels it changed
abbrev pub changed_text : ℕ → ℕ → List ℕ
changed_text leaves levels = codes "leaves " ++ (decimal leaves ++ (codes " changed " ++ decimal levels))

-- an answer, and its line
abbrev pub answer_text : Result Changed Refusal → List ℕ
answer_text (Ok d) = changed_text d.leaves.0 d.levels
answer_text (Err r) = refused_text r

abbrev pub answer_line : Result Changed Refusal → List ℕ
answer_line a = line (answer_text a)

-- a hint at a line that is no change
abbrev pub hint_text : ℕ → List ℕ
hint_text number = codes "change: line " ++ (decimal number ++ codes " is no change")

abbrev pub hint_line : ℕ → List ℕ
hint_line number = line (hint_text number)

-- the hint, if there is no change
abbrev pub hint_if : ℕ → Option Change → List ℕ
hint_if number None = hint_line number
hint_if number (Some x) = []

-- the hint at what is asked
abbrev pub hint : Asked → List ℕ
hint a = hint_if a.line a.change

-- what that hint says
abbrev pub hint_at : Asked → Option Hint
hint_at a = cond (is_some a.change) None (Some (record { line = a.line }))

-- the bytes of a model after all that a row asks for
abbrev pub changed_bytes : List ℕ → List Asked → List ℕ
changed_bytes bs row = bytes_after bs row (length row)

-- THE TEXT of a row of changes: to each change what leaves the model that it made and how many levels it changed, or its refusal
abbrev pub changes_text : List ℕ → List Asked → List ℕ
changes_text bs row = flat_map answer_line (map (answer_at bs row) (range_with_len 0 (length row)))

-- what is told of a row: its text, its hints, the changed model, and the table of that model from the start, which the checker accepts
pub record RowTold (bs : List ℕ) (row : List Asked) (r : RowReport) : Type 0 where
  pub lines : string_bytes r.text ≡ changes_text bs row
  pub hints : string_bytes r.hints ≡ flat_map hint row
  pub model : vec_items r.model ≡ changed_bytes bs row
  pub rows : vec_items r.table ≡ table_bytes (changed_bytes bs row)
  pub accepted : check_fault (vec_items r.model) (vec_items r.table) ≡ None

-- what is reported of the row of changes in a text: the model is taken, and what is told of that row
pub record RowReported (bs text : List ℕ) (r : RowReport) : Type 0 where
  pub taken : fault bs ≡ None
  pub told : RowTold bs (row_of text) r
