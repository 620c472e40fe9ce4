-- How high water stands at a cell of a table: each way to find it right or wrong.
use Rattle.std.proofs.Common.{◌≡◌, ℕ, ◌+◌, ◌<◌, ◌≤◌, true, false, List, [], ◌∷◌, ◌++◌, sym, inl, inr, arith}
use Rattle.std.proofs.lemmas.Bool.{cases_Bool, cases_eq}
use Rattle.std.proofs.lemmas.Bool.Decides.{nat_tests}
use Rattle.model.specs.Bytes.{count, height_at}
use Rattle.model.specs.Grid.{among}
use Rattle.model.specs.Terrain.{land}
use Rattle.model.proofs.Neighbours.{among_append}
use Rattle.amounts.specs.Row.{level_at}
use Rattle.checker.specs.Table.{flow_from}
use Rattle.checker.specs.Conditions.{filled, level_ok}
use Rattle.checker.proofs.Parts.{level_parts, level_whole}
use Rattle.checker.proofs.Sides.{sides, next_among}

module _ (bs t : List ℕ) (c : ℕ) where
  pub wrong_fill : (level_at t c ≡ filled (land bs) (flow_from t) c → ⊥) → level_ok (land bs) (flow_from t) c ≡ false
  unfolding level_ok
  wrong_fill ne = grind (arith, nat_tests)

  pub at_height : level_at t c ≡ filled (land bs) (flow_from t) c → level_at t c ≡ height_at bs c → level_ok (land bs) (flow_from t) c ≡ true
  at_height e h = level_whole (land bs) (flow_from t) c (record { fills = e; unfilled = inl (sym h) })

  pub lower_side : (d : ℕ) → d < count bs → (land bs).next c d ≡ true → (level_at t c ≡ height_at bs c → ⊥) → level_at t d < level_at t c → level_ok (land bs) (flow_from t) c ≡ false
  lower_side d a b ne low = elim (cases_Bool (level_ok (land bs) (flow_from t) c)) [
    | inl right ↦ elim (level_parts (land bs) (flow_from t) c right).unfilled [ inl same ↦ absurd (ne (sym same)) | inr each ↦ absurd (omega (arith, each d a b)) ]
    | inr wrong ↦ wrong
  ]

  pub no_lower_side : level_at t c ≡ filled (land bs) (flow_from t) c → ((d : ℕ) → among d (sides bs 4 c) ≡ true → level_at t c ≤ level_at t d) → level_ok (land bs) (flow_from t) c ≡ true
  no_lower_side e each = level_whole (land bs) (flow_from t) c (record { fills = e; unfilled = inr (λ d a b. each d (next_among bs c d a b)) })

  -- one side more
  pub still_no_lower : (i d : ℕ) → sides bs (i + 1) c ≡ sides bs i c ++ (d ∷ []) → ((x : ℕ) → among x (sides bs i c) ≡ true → level_at t c ≤ level_at t x) → level_at t c ≤ level_at t d →
      (x : ℕ) → among x (sides bs (i + 1) c) ≡ true → level_at t c ≤ level_at t x
  still_no_lower i d e before here x h =
      let either = rw (e, among_append) at h in
      let old = before x in let o = cases_Bool (among x (sides bs i c)) in let s = cases_eq x d in grind (arith, nat_tests)
