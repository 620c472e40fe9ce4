-- Steps of the walk along a flow, as the program takes them, and what the pass leaves in the slice of a model.
use Rattle.std.proofs.Common.{◌≡◌, ℕ, suc, ◌+◌, ◌-◌, ◌<◌, ◌≤◌, true, false, cond, eqb, ltb, List, length, get_or, take, drop, Some, None, ap, ◌∙◌, ap₂, arith, length-take-le}
use Rattle.std.proofs.lemmas.List.{get_or_append_left}
use Rattle.std.proofs.lemmas.Bool.{cases_Bool}
use Rattle.std.proofs.lemmas.Bool.Decides.{nat_tests}
use Rattle.model.specs.declared.units.Cell.{Cell}
use Rattle.model.specs.Bytes.{count}
use Rattle.model.specs.WellFormed.{WellFormed}
use Rattle.flood.specs.declared.sends.Sends.TheVariants.{Off, To}
use Rattle.flood.specs.Run.{none}
use Rattle.flood.specs.Sent.{sends_of}
use Rattle.flood.specs.Flooded.{table_of}
use Rattle.amounts.specs.Promise.{flow_in}
use Rattle.amounts.proofs.Passes.{ordered}
use Rattle.basins.specs.Exits.{exit}
use Rattle.basins.specs.Walks.{walked, exits_after}
use Rattle.basins.specs.Tracing.{exits_written, HoldsFlow, Traced}
use Rattle.basins.proofs.Walking.{pass_finds_exits, pass_keeps_length}

-- what a code that was read says
pub sends_on : (code : ℕ) (next : Cell) → To next ≡ sends_of code → (eqb code none ≡ false) × (next.0 ≡ code)
sends_on code next e = let i = cases_Bool (eqb code none) in grind (arith, nat_tests)

pub sends_off : (code : ℕ) → Off ≡ sends_of code → eqb code none ≡ true
sends_off code e = let i = cases_Bool (eqb code none) in grind (arith, nat_tests)

-- the rest of a walk after k cells
pub walk_more : (flow : List ℕ) (n k at : ℕ) → k < n →
    walked flow n (n - k) at ≡ cond (ltb at n) (cond (eqb (get_or flow at 0) none) (Some at) (walked flow n (n - (k + 1)) (get_or flow at 0))) None
walk_more flow n k at a = let left : n - k ≡ suc (n - (k + 1)) = omega arith in ap (λ j. walked flow n j at) left

module _ (bs : List ℕ) (wf : WellFormed bs) (flow work exits : List ℕ) (fits : count bs ≤ length exits) where
  abbrev told : List ℕ
  told = exits_after (take (count bs) flow) (take (count bs) (drop (count bs) work)) (take (count bs) exits) (count bs)

  told_long : length told ≡ count bs
  told_long = pass_keeps_length (take (count bs) flow) (take (count bs) (drop (count bs) work)) (take (count bs) exits) (count bs) ∙ length-take-le (count bs) exits fits

  told_exit : HoldsFlow bs flow work → (c : ℕ) → c < count bs → get_or told c 0 ≡ exit (flow_in bs) c
  told_exit h c a =
      let s = table_of bs in
      let same : told ≡ exits_after s.flow s.order (take (count bs) exits) (count bs) = ap₂ (λ x y. exits_after x y (take (count bs) exits) (count bs)) h.flow_part h.order_part in
      ap (λ xs. get_or xs c 0) same ∙
      pass_finds_exits (count bs) (flow_in bs) s.flow s.order (take (count bs) exits) (ordered bs wf) (omega (arith, length-take-le (count bs) exits fits)) c a

  pub traced : (exits' : List ℕ) → exits' ≡ exits_written (count bs) flow work exits → Traced bs flow work exits exits'
  traced exits' w = record {
    written = w;
    found = λ h c a. ap (λ xs. get_or xs c 0) w ∙ (get_or_append_left told (drop (count bs) exits) 0 c (omega (arith, told_long)) ∙ told_exit h c a);
  }
