-- Slices that hold the table of a model.
use Rattle.std.proofs.Common.{◌≡◌, ℕ, ◌*◌, ◌≤◌, cond, eqb, List, ◌++◌, length, get_or, drop, None, sym, refl, ap, ◌∙◌, ap₂, append_assoc, arith, length-append}
use Rattle.std.proofs.lemmas.List.{drop_at, get_or_append_left}
use Rattle.std.proofs.lemmas.Bool.Decides.{nat_tests}
use Rattle.model.specs.Bytes.{count}
use Rattle.model.specs.Slices.{Contents}
use Rattle.model.specs.Terrain.{terrain}
use Rattle.model.specs.WellFormed.{WellFormed}
use Rattle.flood.specs.Flooded.{table_of, Flooded}
use Rattle.flood.proofs.Models.{models_right, models_few_looks}
use Rattle.flood.proofs.Sums.{sum_same, sum_zero}
use Rattle.flood.proofs.Turns.{sound}
use Rattle.amounts.specs.declared.answer.Drained.{Drained}
use Rattle.amounts.specs.Again.{differs, levels_changed}
use Rattle.amounts.specs.Draining.{room_fault}
use Rattle.amounts.specs.Passing.{table_amounts}
use Rattle.amounts.specs.Promise.{Promise}
use Rattle.amounts.proofs.Passes.{table_long}
use Rattle.amounts.proofs.Promised.{long_amounts, promised}
use Rattle.changes.specs.Applied.{Tabled}
use Rattle.changes.specs.Row.{drained_of}

-- what lies behind the front of a slice, and how long a slice with that front is
behind : (xs ys front : List ℕ) (n : ℕ) → length front ≡ n → ys ≡ front ++ drop n xs → drop n ys ≡ drop n xs
behind xs ys front n long e = ap (drop n) e ∙ drop_at front (drop n xs) n long

pub enough : (xs front rest : List ℕ) (n : ℕ) → length front ≡ n → xs ≡ front ++ rest → n ≤ length xs
enough xs front rest n long e = omega (arith, ap length e, length-append front rest)

module _ (bs : List ℕ) (wf : WellFormed bs) where
  -- queue, order and places are the front of the work
  kept_words : List ℕ
  kept_words = (table_of bs).queue ++ ((table_of bs).order ++ (table_of bs).places)

  words_long : length kept_words ≡ 3 * count bs
  unfolding kept_words
  words_long =
      let s = table_of bs in
      let l = table_long bs wf in
      omega (arith, length-append s.queue (s.order ++ s.places), length-append s.order s.places, l.queue, l.order, l.places)

  words_front : (rest : List ℕ) → (table_of bs).queue ++ ((table_of bs).order ++ ((table_of bs).places ++ rest)) ≡ kept_words ++ rest
  unfolding kept_words
  words_front rest = simp append_assoc

  module _ (old new : Contents) (t : Tabled bs old new) where
    work_is : new.work ≡ kept_words ++ drop (3 * count bs) old.work
    work_is = t.written.work ∙ words_front (drop (3 * count bs) old.work)

    -- what they held behind the table still stands there
    pub behind_levels : drop (count bs) new.levels ≡ drop (count bs) old.levels
    behind_levels = behind old.levels new.levels (table_of bs).levels (count bs) (table_long bs wf).levels t.written.levels

    pub behind_flow : drop (count bs) new.flow ≡ drop (count bs) old.flow
    behind_flow = behind old.flow new.flow (table_of bs).flow (count bs) (table_long bs wf).flow t.written.flow

    pub behind_amounts : drop (count bs) new.amounts ≡ drop (count bs) old.amounts
    behind_amounts = behind old.amounts new.amounts (table_amounts bs) (count bs) (long_amounts bs wf) t.poured

    pub behind_work : drop (3 * count bs) new.work ≡ drop (3 * count bs) old.work
    behind_work = behind old.work new.work kept_words (3 * count bs) words_long work_is

    -- there is room for the table of this model
    pub tabled_room : room_fault (count bs) new ≡ None
    tabled_room =
        let a = enough new.levels (table_of bs).levels _ (count bs) (table_long bs wf).levels t.written.levels in
        let b = enough new.flow (table_of bs).flow _ (count bs) (table_long bs wf).flow t.written.flow in
        let c = enough new.amounts (table_amounts bs) _ (count bs) (long_amounts bs wf) t.poured in
        let d = enough new.work kept_words _ (3 * count bs) words_long work_is in
        grind (arith, nat_tests)

    -- a table that another model leaves behind it, from the first slices on
    pub tabled_on : (cs : List ℕ) (last : Contents) → count cs ≡ count bs → Tabled cs new last → Tabled cs old last
    tabled_on cs last same u =
        let s = table_of cs in
        let thrice : 3 * count cs ≡ 3 * count bs = omega arith in record {
          written = record {
            levels = u.written.levels ∙ ap (λ x. s.levels ++ x) (ap (λ k. drop k new.levels) same ∙ (behind_levels ∙ ap (λ k. drop k old.levels) (sym same)));
            flow = u.written.flow ∙ ap (λ x. s.flow ++ x) (ap (λ k. drop k new.flow) same ∙ (behind_flow ∙ ap (λ k. drop k old.flow) (sym same)));
            work = u.written.work ∙ ap (λ x. s.queue ++ (s.order ++ (s.places ++ x))) (ap (λ k. drop k new.work) thrice ∙ (behind_work ∙ ap (λ k. drop k old.work) (sym thrice)));
          };
          poured = u.poured ∙ ap (λ x. table_amounts cs ++ x) (ap (λ k. drop k new.amounts) same ∙ (behind_amounts ∙ ap (λ k. drop k old.amounts) (sym same)));
        }

    -- the same, said of the slices as they are now
    pub tabled_now : Tabled bs new new
    tabled_now =
        let s = table_of bs in record {
          written = record {
            levels = t.written.levels ∙ ap (λ x. s.levels ++ x) (sym behind_levels);
            flow = t.written.flow ∙ ap (λ x. s.flow ++ x) (sym behind_flow);
            work = t.written.work ∙ ap (λ x. s.queue ++ (s.order ++ (s.places ++ x))) (sym behind_work);
          };
          poured = t.poured ∙ ap (λ x. table_amounts bs ++ x) (sym behind_amounts);
        }

    -- all that draining promises from the start
    pub tabled_promise : Promise bs old new (drained_of bs)
    tabled_promise =
        let flooded : Flooded bs old.levels old.flow old.work new.levels new.flow new.work (table_of bs).looks = record { written = t.written; counted = refl; right = models_right (terrain bs) (sound bs wf); few = (models_few_looks (terrain bs) (sound bs wf)).1 } in
        promised bs wf old new (drained_of bs) (table_of bs).looks flooded refl t.poured refl refl

-- slices that hold two tables, one after the other, differ in so many levels as the tables
pub changed_levels : (bs cs ls ls' rest rest' : List ℕ) → WellFormed bs → WellFormed cs → count cs ≡ count bs → ls ≡ (table_of bs).levels ++ rest → ls' ≡ (table_of cs).levels ++ rest' →
    levels_changed ls ls' (count cs) ≡ levels_changed (table_of bs).levels (table_of cs).levels (count bs)
changed_levels bs cs ls ls' rest rest' wf wf' same e f =
    ap (levels_changed ls ls') same ∙
    sum_same (differs ls ls') (differs (table_of bs).levels (table_of cs).levels) (count bs) (λ c a.
    let first = ap (λ xs. get_or xs c 0) e ∙ get_or_append_left (table_of bs).levels rest 0 c (omega (arith, (table_long bs wf).levels)) in
    let second = ap (λ xs. get_or xs c 0) f ∙ get_or_append_left (table_of cs).levels rest' 0 c (omega (arith, (table_long cs wf').levels)) in
    ap₂ (λ x y. cond (eqb x y) 0 1) first second)

-- none differs from itself
pub none_changed : (xs : List ℕ) (n : ℕ) → levels_changed xs xs n ≡ 0
none_changed xs n = sum_zero (differs xs xs) n (λ c a. grind (arith, nat_tests))

-- what draining leaves is the table
pub first_tabled : (bs : List ℕ) (old new : Contents) (d : Drained) → Promise bs old new d → Tabled bs old new
first_tabled bs old new d p = record { written = p.written; poured = p.poured }
