-- What a row of changes leaves and answers.
use Rattle.std.specs.Prelude.{◌≡◌, ℕ, List, map, length, Some, None, Result}
use Rattle.std.specs.List.{range_with_len}
use Rattle.model.specs.declared.refusal.Refusal.{Refusal}
use Rattle.model.specs.Bytes.{count}
use Rattle.model.specs.Slices.{Contents}
use Rattle.model.specs.Terrain.{land}
use Rattle.flood.specs.Flooded.{table_of}
use Rattle.amounts.specs.declared.answer.Drained.{Drained}
use Rattle.amounts.specs.Amounts.{all_rain}
use Rattle.amounts.specs.Draining.{drain_fault, Unchanged}
use Rattle.amounts.specs.Promise.{Promise}
use Rattle.changes.specs.declared.answer.Changed.{Changed}
use Rattle.changes.specs.declared.asked.Asked.{Asked}
use Rattle.changes.specs.declared.failure.Failure.{Failure}
use Rattle.changes.specs.declared.failure.Failure.TheVariants.{Refused, Memory}
use Rattle.changes.specs.Applied.{leaves_in, bytes_after, answer_at}

-- what draining the model in bs from the start answers
abbrev pub drained_of : List ℕ → Drained
drained_of bs = record { looks = (table_of bs).looks; rain = record { 0 = all_rain (land bs) (count bs) }; leaves = record { 0 = leaves_in bs } }

-- A ROW THAT WAS APPLIED to a model and to slices
pub record Applied (bs : List ℕ) (old : Contents) (row : List Asked) (bs' : List ℕ) (new : Contents) (answers : List (Result Changed Refusal)) : Type 0 where
  -- it was refused neither for its bytes nor for a slice
  pub taken : drain_fault bs old ≡ None
  -- the bytes are those with exactly the accepted changes
  pub bytes : bs' ≡ bytes_after bs row (length row)
  -- the slices are as if that model had been drained into them from the start, and all that draining promises holds of it
  pub promise : Promise bs' old new (drained_of bs')
  -- to each change its answer, by the models just before and just after it, each drained from the start
  pub answered : answers ≡ map (answer_at bs row) (range_with_len 0 (length row))

-- nothing is written, neither into the bytes nor into a slice
pub record Untouched (bs : List ℕ) (old : Contents) (bs' : List ℕ) (new : Contents) : Type 0 where
  pub bytes : bs' ≡ bs
  pub slices : Unchanged old new

-- why a row was not applied: the first fault of the bytes or the first slice that is too short; or want of memory, which may come for any row
abbrev pub Fails : List ℕ → Contents → Failure → Type 0
Fails bs old (Refused r) = drain_fault bs old ≡ Some r
Fails bs old Memory = Unit {0}
