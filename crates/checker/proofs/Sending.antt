-- Where a cell of a table sends: each way to find it right or wrong.
use Rattle.std.proofs.Common.{◌≡◌, ℕ, ◌+◌, true, false, ◌&&◌, eqb, ltb, [], ◌∷◌, ◌++◌, refl, List, arith}
use Rattle.std.proofs.lemmas.Bool.Decides.{nat_tests}
use Rattle.model.specs.Bytes.{columns, rows}
use Rattle.model.specs.Grid.{among}
use Rattle.model.specs.Terrain.{land}
use Rattle.model.proofs.Neighbours.{neighbours_share_a_side, among_append}
use Rattle.flood.specs.Run.{none}
use Rattle.amounts.specs.Row.{sends_at, place_at}
use Rattle.checker.specs.Table.{flow_from}
use Rattle.checker.specs.Conditions.{off_ok, sends_ok}
use Rattle.checker.proofs.Sides.{sides}

module _ (bs t : List ℕ) (c : ℕ) where
  pub off_wrong : off_ok (land bs) (flow_from t) c ≡ false → sends_ok (land bs) (flow_from t) c ≡ false
  unfolding sends_ok
  off_wrong e = rw e refl

  pub off_right : off_ok (land bs) (flow_from t) c ≡ true → eqb (sends_at t c) none ≡ true → sends_ok (land bs) (flow_from t) c ≡ true
  unfolding sends_ok
  off_right e off = rw (e, off) refl

  -- a cell that does not send off sends to a neighbour with an earlier place
  pub on : off_ok (land bs) (flow_from t) c ≡ true → eqb (sends_at t c) none ≡ false →
      sends_ok (land bs) (flow_from t) c ≡ (among (sends_at t c) (sides bs 4 c) && ltb (place_at t (sends_at t c)) (place_at t c))
  unfolding sends_ok
  on e h = rw (e, h, neighbours_share_a_side (columns bs) (rows bs) c (sends_at t c)) refl

  -- the sides of c up to one more: x is none of them yet, or is the next
  pub still_none : (i x d : ℕ) → sides bs (i + 1) c ≡ sides bs i c ++ (d ∷ []) → among x (sides bs i c) ≡ false → (d ≡ x → ⊥) → among x (sides bs (i + 1) c) ≡ false
  still_none i x d e before ne = rw (e, among_append) (grind (arith, nat_tests))
