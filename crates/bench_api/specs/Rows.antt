-- What the plain numbers of a row's answer stand for.
use Rattle.std.specs.Prelude.{◌≡◌, ℕ, List, length, Ok, Err, Result, MatchResult}
use Rattle.model.specs.declared.refusal.Refusal.{Refusal}
use Rattle.model.specs.Refusals.{number, place}
use Rattle.model.specs.Slices.{Contents}
use Rattle.changes.specs.declared.answer.Changed.{Changed}
use Rattle.changes.specs.declared.asked.Asked.{Asked}
use Rattle.changes.specs.declared.failure.Failure.{Failure}
use Rattle.changes.specs.declared.failure.Failure.TheVariants.{Refused, Memory}
use Rattle.changes.specs.Row.{Applied, Untouched, Fails}
use Rattle.bench_api.specs.declared.RowAnswer.{RowAnswer}

-- a failure: the refusal's number from 1 to 9 and its place, or 10 for want of memory
abbrev pub failed_row : Failure → RowAnswer
failed_row (Refused e) = record { failed = number e; answers = 0; place = place e }
failed_row Memory = record { failed = 10; answers = 0; place = 0 }

-- a row that was applied, or why it was not
abbrev pub told_row : Result (List (Result Changed Refusal)) Failure → RowAnswer
told_row (Ok answers) = record { failed = 0; answers = length answers; place = 0 }
told_row (Err f) = failed_row f

-- THE ROW WAS APPLIED, or it failed and nothing is written; the plain numbers say which
pub record RowTold (bs : List ℕ) (old : Contents) (row : List Asked) (bs' : List ℕ) (new : Contents) (r : RowAnswer) : Type 0 where
  pub came : Result (List (Result Changed Refusal)) Failure
  pub told : r ≡ told_row came
  pub holds : MatchResult came (λ answers. Applied bs old row bs' new answers) (λ f. Fails bs old f × Untouched bs old bs' new)
