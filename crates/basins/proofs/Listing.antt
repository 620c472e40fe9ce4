-- What the slices of a drained model say of its basins.
use Rattle.std.proofs.Common.{◌≡◌, ℕ, ◌*◌, ◌<◌, ◌≤◌, Bool, true, cond, eqb, List, length, get_or, take, Some, None, sym, refl, ap, ◌∙◌, arith, length-append}
use Rattle.std.proofs.lemmas.List.{get_or-take}
use Rattle.std.proofs.lemmas.Bool.{cases_Bool}
use Rattle.std.proofs.lemmas.Bool.Decides.{nat_tests}
use Rattle.model.specs.Bytes.{count}
use Rattle.model.specs.Slices.{Contents}
use Rattle.model.specs.WellFormed.{WellFormed}
use Rattle.flood.specs.Flooded.{table_of}
use Rattle.flood.specs.Run.{none}
use Rattle.amounts.proofs.Passes.{table_long}
use Rattle.amounts.specs.declared.answer.Drained.{Drained}
use Rattle.amounts.specs.Passing.{table_amounts}
use Rattle.amounts.specs.Promise.{flow_in, amount_in, Promise}
use Rattle.amounts.proofs.Promised.{pourable, long_amounts, amounts_front}
use Rattle.basins.specs.declared.short.Short.{Short}
use Rattle.basins.specs.Tracing.{HoldsFlow}
use Rattle.basins.specs.Parting.{basin_at, basins_fault, Parted, BasinsFound}
use Rattle.basins.specs.Draining.{basin_of, BasinsPromise}

-- the basin that the slices have for a cell
basin_read : (flow amounts cells : List ℕ) (e : ℕ) (off : Bool) (number amount : ℕ) → e < length flow → e < length amounts → e < length cells → eqb (get_or flow e 0) none ≡ off →
    get_or cells e 0 ≡ number → (off ≡ true → get_or amounts e 0 ≡ amount) →
    basin_at flow amounts cells e ≡ cond off (Some (record { outlet = record { 0 = e }; cells = number; amount = record { 0 = amount } })) None
basin_read flow amounts cells e off number amount a b c o n m = let i = cases_Bool off in grind (arith, nat_tests)

module _ (bs : List ℕ) (wf : WellFormed bs) (old new : Contents) (d : Drained) (p : Promise bs old new d) where
  holds : HoldsFlow bs new.flow new.work
  holds = let held = pourable bs wf old.levels old.flow old.work new.levels new.flow new.work p.written in record { flow_part = held.0; order_part = held.1 }

  flow_is : (e : ℕ) → e < count bs → get_or new.flow e 0 ≡ get_or (table_of bs).flow e 0
  flow_is e a = sym (get_or-take (count bs) new.flow e 0 a) ∙ ap (λ xs. get_or xs e 0) holds.flow_part

  amount_is : (e : ℕ) → e < count bs → get_or new.amounts e 0 ≡ amount_in bs e
  amount_is e a = sym (get_or-take (count bs) new.amounts e 0 a) ∙ ap (λ xs. get_or xs e 0) (ap (take (count bs)) p.poured ∙ amounts_front bs wf old.amounts (table_amounts bs) (count bs) refl refl)

  -- the slices are long enough for the basins to be found in them
  in_flow : count bs ≤ length new.flow
  in_flow = omega (arith, ap length p.written.flow, (table_long bs wf).flow, length-append {A = ℕ})

  in_amounts : count bs ≤ length new.amounts
  in_amounts = omega (arith, ap length p.poured, long_amounts bs wf, length-append {A = ℕ})

  in_work : 2 * count bs ≤ length new.work
  in_work = omega (arith, ap length p.written.work, (table_long bs wf).queue, (table_long bs wf).order, length-append {A = ℕ})

  pub never_short : (exits cells : List ℕ) → count bs ≤ length exits → count bs ≤ length cells → (e : Short) → Some e ≡ basins_fault (count bs) new.flow new.work exits cells → ⊥
  never_short exits cells a b e short = grind (arith, nat_tests, in_flow, in_work)

  module _ (exits cells exits' cells' : List ℕ) (b : BasinsFound bs new.flow new.work exits cells exits' cells') (in_cells : count bs ≤ length cells') where
    listed : Parted bs exits' cells' → (e : ℕ) → e < count bs → basin_at new.flow new.amounts cells' e ≡ cond ((flow_in bs).off e) (Some (basin_of bs e)) None
    listed q e a =
        basin_read new.flow new.amounts cells' e ((flow_in bs).off e) _ _ (omega (arith, in_flow)) (omega (arith, in_amounts)) (omega arith) (ap (λ x. eqb x none) (flow_is e a)) (q.cells_of_each e a)
        (λ o. amount_is e a ∙ q.amount_of_each e a o)

    pub promised : BasinsPromise bs old new exits cells exits' cells' d
    promised = let q = b.parted holds in record { drained = p; found = b; parted = q; listed = listed q }
