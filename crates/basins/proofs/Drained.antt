-- What the exits and the counts that are written mean for a drained model.
use Rattle.std.proofs.Common.{◌≡◌, ℕ, ◌<◌, ◌≤◌, true, false, cond, eqb, List, ◌++◌, length, get_or, take, drop, sym, ap, ◌∙◌, subst, arith, length-take-le}
use Rattle.std.proofs.lemmas.List.FromFn.{length-map-range_with_len, get_or-map-range_with_len}
use Rattle.std.proofs.lemmas.List.{get_or_append_left, get_or-take}
use Rattle.std.proofs.lemmas.Bool.{cases_Bool}
use Rattle.std.proofs.lemmas.Bool.Decides.{nat_tests}
use Rattle.model.specs.Bytes.{count}
use Rattle.model.specs.Terrain.{terrain, land}
use Rattle.model.specs.WellFormed.{WellFormed}
use Rattle.flood.specs.Flooded.{table_of}
use Rattle.flood.specs.Levels.{Flow}
use Rattle.flood.specs.Sums.{sum}
use Rattle.flood.proofs.Models.{models_right}
use Rattle.flood.proofs.Sums.{sum_same, sum_zero}
use Rattle.flood.proofs.Turns.{sound}
use Rattle.amounts.specs.Amounts.{Acyclic, Carried}
use Rattle.amounts.specs.Promise.{flow_in, amount_in}
use Rattle.amounts.proofs.Accumulating.{rule_adds_up}
use Rattle.amounts.proofs.Carrying.{nothing_lost}
use Rattle.amounts.proofs.Passes.{ordered}
use Rattle.basins.specs.Exits.{exit, in_basin, basin_sum}
use Rattle.basins.specs.Tracing.{Traced}
use Rattle.basins.specs.Parting.{cells_at, cells_of, Parted, BasinsFound}
use Rattle.basins.proofs.Exits.{one_exit, exits_are_outlets, one_basin, no_exit_no_basin}
use Rattle.basins.proofs.Basins.{exit_amount, basins_have_all_cells}

module _ (bs : List ℕ) (wf : WellFormed bs) where
  abbrev n : ℕ
  n = count bs

  abbrev f : Flow
  f = flow_in bs

  falling : Acyclic n f
  falling = (ordered bs wf).falling

  carried : Carried (land bs) f (amount_in bs)
  carried = rule_adds_up (land bs) f (table_of bs).flow (table_of bs).order (ordered bs wf)

  module _ (exits' cells cells' : List ℕ) (fits : n ≤ length exits') (found : (c : ℕ) → c < n → get_or exits' c 0 ≡ exit f c)
      (counted : cells' ≡ cells_of (take n exits') ++ drop n cells) where
    -- the count of a basin's cells
    cells_are : (e : ℕ) → e < n → get_or cells' e 0 ≡ basin_sum f (λ _. 1) e n
    cells_are e a =
        let front = take n exits' in
        let long = length-take-le n exits' fits in
        let at : ℕ → ℕ = λ x. cells_at front x (length front) in
        ap (λ xs. get_or xs e 0) counted ∙ (get_or_append_left (cells_of front) (drop n cells) 0 e (omega (arith, length-map-range_with_len at 0 (length front), long)) ∙
        (get_or-map-range_with_len at 0 (length front) e e 0 (omega (arith, long)) (omega arith) ∙ (ap (cells_at front e) long ∙
        sum_same (λ c. cond (eqb (get_or front c 0) e) 1 0) (λ c. cond (in_basin f e c) 1 0) n (λ c b. ap (λ x. cond (eqb x e) 1 0) (get_or-take n exits' c 0 b ∙ found c b)))))

    empty : (e : ℕ) → e < n → f.off e ≡ false → get_or cells' e 0 ≡ 0
    empty e a o =
        cells_are e a ∙ sum_zero (λ c. cond (in_basin f e c) 1 0) n (λ c b. rw (no_exit_no_basin n f falling e o c b))

    all : sum (λ e. get_or cells' e 0) n ≡ n
    all =
        sum_same (λ e. get_or cells' e 0) (λ e. cond (f.off e) (basin_sum f (λ _. 1) e n) 0) n
        (λ e a. let i = cells_are e a in let z = empty e a in let o = cases_Bool (f.off e) in grind (arith, nat_tests)) ∙ basins_have_all_cells n f falling

    pub parted : Parted bs exits' cells'
    parted = record {
      exit_of_each = found;
      one_exit = λ c a. one_exit n f falling c a;
      outlet = λ c a. subst (λ (x : ℕ). (land bs).leaves x ≡ true) (sym (found c a)) (exits_are_outlets (land bs) f (models_right (terrain bs) (sound bs wf)).drained c a);
      one_basin = λ c a. one_basin n f falling c a;
      cells_of_each = cells_are;
      no_exit_none = empty;
      all_cells = all;
      amount_of_each = λ e a o. exit_amount (land bs) f (amount_in bs) falling carried e a o;
      all_amounts = nothing_lost (land bs) f (amount_in bs) falling carried;
    }

  pub basins_found : (flow work exits cells exits' cells' : List ℕ) → n ≤ length exits' → Traced bs flow work exits exits' →
      cells' ≡ cells_of (take n exits') ++ drop n cells → BasinsFound bs flow work exits cells exits' cells'
  basins_found flow work exits cells exits' cells' fits t there =
      record { exits_there = t.written; cells_there = there; parted = λ h. parted exits' cells cells' fits (t.found h) there }
