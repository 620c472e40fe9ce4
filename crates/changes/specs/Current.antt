-- What holds of a model while a row changes it.
use Rattle.std.specs.Prelude.{◌≡◌, None, Option}
use Rattle.model.specs.Faults.{fault}
use Rattle.model.specs.Of.{Sized}
use Rattle.model.specs.declared.slices.Slices.{Slices}
use Rattle.model.specs.Slices.{Contents, lists_of, SameSlices}
use Rattle.changes.specs.declared.applying.Current.{Current}
use Rattle.changes.specs.declared.asked.Change.{Change}
use Rattle.changes.specs.Applied.{changed_by, leaves_in, Tabled}

-- the bytes are a model of the grid's size, of which so much leaves; slices hold its table, and behind it what they held before
pub record IsDrained (m : Current) (old new : Contents) : Type 0 where
  pub sized : Sized m.grid m.bytes.now
  pub taken : fault m.bytes.now ≡ None
  pub tabled : Tabled m.bytes.now old new
  pub leaves : m.leaves.0 ≡ leaves_in m.bytes.now

-- the same bytes and slices are lent, whatever stands in them
pub record SameLent (m n : Current) (s t : Slices) : Type 0 where
  pub bytes : n.bytes.ghost_name ≡ m.bytes.ghost_name
  pub slices : SameSlices s t

-- a change was done, or refused, and the model is drained
pub record Changes (m : Current) (o : Option Change) (n : Current) (s t : Slices) : Type 0 where
  pub bytes : n.bytes.now ≡ changed_by m.bytes.now o
  pub drained : IsDrained n (lists_of s) (lists_of t)
  pub lent : SameLent m n s t
