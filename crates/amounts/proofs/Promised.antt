-- What draining a model leaves and answers, from what the flood wrote.
use Rattle.std.proofs.Common.{◌≡◌, ℕ, ◌<◌, ◌≤◌, List, ◌++◌, length, take, drop, sym, refl, ap, ◌∙◌, ap₂, arith, lt-ltb}
use Rattle.std.proofs.lemmas.List.FromFn.{length-map-range_with_len}
use Rattle.std.proofs.lemmas.List.{take_at, drop_at}
use Rattle.model.specs.Bytes.{count}
use Rattle.model.specs.Slices.{Contents}
use Rattle.model.specs.Terrain.{land}
use Rattle.model.specs.WellFormed.{WellFormed}
use Rattle.flood.specs.Flooded.{table_of, Written, Flooded}
use Rattle.flood.proofs.Sums.{sum_same}
use Rattle.amounts.specs.declared.answer.Drained.{Drained}
use Rattle.amounts.specs.Accumulation.{rains}
use Rattle.amounts.specs.Amounts.{Carried, all_rain, leaving, all_off}
use Rattle.amounts.specs.Passing.{leaves_at, all_leaves, table_amounts}
use Rattle.amounts.specs.Promise.{flow_in, amount_in, Promise}
use Rattle.amounts.proofs.Accumulating.{rule_keeps_length, rule_adds_up, rule_stays_below}
use Rattle.amounts.proofs.Carrying.{only_amounts, nothing_lost}
use Rattle.amounts.proofs.Passes.{table_long, ordered, rain_low}

module _ (bs : List ℕ) (wf : WellFormed bs) where
  pub long_amounts : length (table_amounts bs) ≡ count bs
  long_amounts = rule_keeps_length (table_of bs).flow (table_of bs).order (rains (land bs)) (count bs) 0 ∙ length-map-range_with_len (land bs).rain 0 (count bs)

  -- the part of the slice that holds the amounts
  pub amounts_front : (amounts front : List ℕ) (k : ℕ) → k ≡ count bs → front ≡ table_amounts bs → take k (front ++ drop k amounts) ≡ table_amounts bs
  amounts_front amounts front k e w = take_at front (drop k amounts) k (ap length w ∙ (long_amounts ∙ sym e)) ∙ w

  pub amounts_low : (c : ℕ) → amount_in bs c ≤ 160000000000
  amounts_low c = omega (arith, rain_low bs wf, rule_stays_below (land bs) (flow_in bs) (table_of bs).flow (table_of bs).order (ordered bs wf) (count bs) 0 (omega arith) c)

  -- what the program adds up is what leaves
  leaves_is : (c : ℕ) → c < count bs → leaves_at (table_of bs).flow (table_amounts bs) c ≡ leaving (flow_in bs) (amount_in bs) c
  leaves_is c a =
      let in_flow = lt-ltb c (length (table_of bs).flow) (omega (arith, a, (table_long bs wf).flow)) in
      let in_amounts = lt-ltb c (length (table_amounts bs)) (omega (arith, a, long_amounts)) in
      rw (in_flow, in_amounts) refl

  all_leave : all_leaves (table_of bs).flow (table_amounts bs) (length (table_of bs).flow) ≡ all_off (flow_in bs) (amount_in bs) (count bs)
  all_leave = ap (all_leaves (table_of bs).flow (table_amounts bs)) (table_long bs wf).flow ∙ sum_same (leaves_at (table_of bs).flow (table_amounts bs)) (leaving (flow_in bs) (amount_in bs)) (count bs) leaves_is

  pub carried : Carried (land bs) (flow_in bs) (amount_in bs)
  carried = rule_adds_up (land bs) (flow_in bs) (table_of bs).flow (table_of bs).order (ordered bs wf)

  -- as the program reads them from slices that may be longer
  pub leaves_read : (flow amounts front : List ℕ) (k : ℕ) → k ≡ count bs → take (count bs) flow ≡ (table_of bs).flow → front ≡ table_amounts bs →
      all_leaves (take k flow) (take k (front ++ drop k amounts)) (length (take k flow)) ≡ all_off (flow_in bs) (amount_in bs) (count bs)
  leaves_read flow amounts front k e f w =
      ap₂ (λ x y. all_leaves x y (length x)) (ap (λ m. take m flow) e ∙ f) (amounts_front amounts front k e w) ∙ all_leave

  -- no more than all the rain
  pub leaves_low : all_off (flow_in bs) (amount_in bs) (count bs) ≤ 160000000000
  leaves_low = omega (arith, nothing_lost (land bs) (flow_in bs) (amount_in bs) (ordered bs wf).falling carried, rain_low bs wf)

  -- what the amounts need of what the flood wrote
  pub pourable : (ls fl wk ls' fl' wk' : List ℕ) → Written (table_of bs) (count bs) ls fl wk ls' fl' wk' →
      (take (count bs) fl' ≡ (table_of bs).flow) × (take (count bs) (drop (count bs) wk') ≡ (table_of bs).order)
  pourable ls fl wk ls' fl' wk' w =
      let s = table_of bs in
      let n = count bs in (
        ap (take n) w.flow ∙ take_at s.flow (drop n fl) n (table_long bs wf).flow,
        ap (λ x. take n (drop n x)) w.work ∙ (ap (take n) (drop_at s.queue _ n (table_long bs wf).queue) ∙ take_at s.order _ n (table_long bs wf).order),
      )

  pub promised : (old new : Contents) (d : Drained) (looks : ℕ) → Flooded bs old.levels old.flow old.work new.levels new.flow new.work looks → d.looks ≡ looks →
      new.amounts ≡ table_amounts bs ++ drop (count bs) old.amounts → d.rain.0 ≡ all_rain (land bs) (count bs) → d.leaves.0 ≡ all_off (flow_in bs) (amount_in bs) (count bs) → Promise bs old new d
  promised old new d looks f k a r l = record {
    written = f.written;
    poured = a;
    looks = k ∙ f.counted;
    few = omega (arith, k, f.few);
    right = f.right;
    carried = carried;
    only = λ g h c i. only_amounts (land bs) (flow_in bs) g (amount_in bs) (ordered bs wf).falling h carried c i;
    low = amounts_low;
    rain = r;
    leaves = l;
    nothing_lost = l ∙ (nothing_lost (land bs) (flow_in bs) (amount_in bs) (ordered bs wf).falling carried ∙ sym r);
  }
