-- The loop that passes amounts on, from the last place to the first, over the table of a model.
use Rattle.std.proofs.Common.{◌≡◌, ℕ, suc, ◌+◌, ◌-◌, ◌^◌, ◌<◌, ◌≤◌, false, eqb, List, length, get_or, reverse, sym, ap, ◌∙◌, subst, add-one, arith}
use Rattle.std.proofs.lemmas.Grind.{get_or_default_zero}
use Rattle.std.proofs.lemmas.List.{get_or-reverse, length-reverse}
use Rattle.std.proofs.lemmas.List.FromFn.{length-map-range_with_len}
use Rattle.model.specs.Bytes.{count}
use Rattle.model.specs.Terrain.{terrain, land}
use Rattle.model.specs.WellFormed.{WellFormed}
use Rattle.flood.specs.Fair.{sides_of}
use Rattle.flood.specs.Flooded.{table_of}
use Rattle.flood.specs.Right.{Right}
use Rattle.flood.specs.Run.{none, flow_of}
use Rattle.flood.proofs.Models.{models_right}
use Rattle.flood.proofs.Kept.{Long}
use Rattle.flood.proofs.Reaching.{reached}
use Rattle.flood.proofs.Turns.{sound, fair, small}
use Rattle.amounts.specs.Accumulation.{OrderedFlow, passed_on, accumulated, rains}
use Rattle.amounts.specs.Amounts.{all_rain}
use Rattle.amounts.proofs.Accumulating.{run_ordered, rule_keeps_length, rule_sums_fit}
use Rattle.amounts.proofs.Carrying.{rain_bounded}

-- what the program needs before a cell passes its amount on
pub record Passable (flow amounts : List ℕ) (c : ℕ) : Type 0 where
  pub in_flow : c < length flow
  pub in_amounts : c < length amounts
  pub sum : eqb (get_or flow c 0) none ≡ false → (get_or flow c 0 < length amounts) × (get_or amounts (get_or flow c 0) 0 + get_or amounts c 0 < 2 ^ 64)

module _ (bs : List ℕ) (wf : WellFormed bs) where
  -- the lists of the table are as long as the land has cells
  pub table_long : Long (count bs) (table_of bs)
  table_long = (reached (land bs) (sides_of (terrain bs)) (fair bs wf) (count bs) (omega arith)).1.good.frame.long

  right : Right (land bs) (table_of bs)
  right = models_right (terrain bs) (sound bs wf)

  pub ordered : OrderedFlow (count bs) (flow_of (table_of bs)) (table_of bs).flow (table_of bs).order
  ordered = run_ordered (land bs) (table_of bs) right

  -- all the rain is at most 1.6 × 10 ^ 11
  pub rain_low : all_rain (land bs) (count bs) ≤ 160000000000
  rain_low = omega (arith, small bs wf, rain_bounded (land bs) 1000000 wf.rains)

  pub passable : (amounts : List ℕ) (done : ℕ) → done < count bs → amounts ≡ accumulated (table_of bs).flow (table_of bs).order (rains (land bs)) done (count bs - done) →
      Passable (table_of bs).flow amounts (get_or (table_of bs).order (count bs - 1 - done) 0)
  passable amounts done some passed =
      let s = table_of bs in
      let k = count bs - 1 - done in
      let at : count bs - done ≡ suc k = omega arith in
      let e = passed ∙ ap (accumulated s.flow s.order (rains (land bs)) done) at in
      let c = get_or s.order k 0 in
      let o = ordered in
      let inside = o.cell k (omega arith) in
      let long : length amounts ≡ count bs = ap length e ∙ (rule_keeps_length s.flow s.order (rains (land bs)) done (suc k) ∙ length-map-range_with_len (land bs).rain 0 (count bs)) in
      let fits = rule_sums_fit (land bs) (flow_of s) s.flow s.order o done k (omega arith) in
      record {
        in_flow = omega (arith, inside, table_long.flow);
        in_amounts = omega (arith, inside, long);
        sum = λ on_land.
            let off = sym (o.coded.offs c inside) ∙ on_land in (
              omega (arith, o.coded.sends c inside off, o.falling.inside c inside off, long),
              subst (λ xs. get_or xs (get_or s.flow c 0) 0 + get_or xs c 0 < 2 ^ 64) (sym e) (omega (arith, fits on_land, rain_low)),
            );
      }

-- an item of a list that is gone through from its end
pub from_end : (xs : List ℕ) (n k x : ℕ) → length xs ≡ n → k < length (reverse xs) → x ≡ get_or (reverse xs) k x → (k < n) × (x ≡ get_or xs (n - 1 - k) 0)
from_end xs n k x long a e =
    let within : k < length xs = omega (arith, length-reverse xs) in (
      omega arith,
      e ∙ (get_or-reverse xs k x within ∙ (get_or_default_zero xs (length xs - 1 - k) x (omega arith) ∙ ap (λ m. get_or xs (m - 1 - k) 0) long)),
    )

-- one place more
pub pass_more : (flow order first amounts amounts' : List ℕ) (n done : ℕ) → done < n → amounts ≡ accumulated flow order first done (n - done) →
    amounts' ≡ passed_on flow (get_or order (n - 1 - done) 0) amounts → amounts' ≡ accumulated flow order first (done + 1) (n - (done + 1))
unfolding accumulated
pass_more flow order first amounts amounts' n done some e f =
    let k = n - 1 - done in
    let at : n - done ≡ suc k = omega arith in
    let left : k ≡ n - (done + 1) = omega arith in
    f ∙ (ap (passed_on flow (get_or order k 0)) (e ∙ ap (accumulated flow order first done) at) ∙ (ap (λ d. accumulated flow order first d k) (sym (add-one done)) ∙ ap (accumulated flow order first (done + 1)) left))
