-- Following the flow: every way ends at an exit, and a cell's exit is that of the cell that it sends to.
use Rattle.std.proofs.Common.{◌≡◌, ℕ, zero, suc, ◌<◌, ◌≤◌, true, false, sym, refl, ◌∙◌, arith}
use Rattle.std.proofs.lemmas.Bool.{cases_Bool}
use Rattle.std.proofs.lemmas.Bool.Decides.{nat_tests}
use Rattle.flood.specs.Levels.{Flow}
use Rattle.amounts.specs.Amounts.{Acyclic}
use Rattle.amounts.proofs.Carrying.{drained_acyclic}
use Rattle.basins.specs.Exits.{along, exit, in_basin}
use Rattle.basins.specs.Promises.{OneExit, ExitsAreOutlets, OneBasin, ExitInBasin, FlowStaysInBasin, NoExitNoBasin}

pub along_off : (f : Flow) (k c : ℕ) → f.off c ≡ true → along f k c ≡ c
unfolding along
along_off f zero c o = refl
along_off f (suc k) c o = rw o

along_on : (f : Flow) (k c : ℕ) → f.off c ≡ false → along f (suc k) c ≡ along f k (f.to c)
unfolding along
along_on f k c o = rw o

module _ (n : ℕ) (f : Flow) (p : Acyclic n f) where
  pub near_off : (c : ℕ) → c < n → f.far c ≤ 0 → f.off c ≡ true
  near_off c a b = let o = cases_Bool (f.off c) in grind (arith, p.nearer c)

  -- two walks that are long enough end at one cell
  along_same : (j k c : ℕ) → c < n → f.far c ≤ j → f.far c ≤ k → along f j c ≡ along f k c
  unfolding along
  along_same zero k c a x y = sym (along_off f k c (near_off c a x))
  along_same (suc j) zero c a x y = along_off f (suc j) c (near_off c a y)
  along_same (suc j) (suc k) c a x y = let ih = along_same j k (f.to c) in grind (arith, p.inside c, p.nearer c)

  pub exit_step : (c : ℕ) → c < n → f.off c ≡ false → exit f c ≡ exit f (f.to c)
  exit_step c a o =
      let b = p.nearer c a o in
      along_same (f.far c) (suc (f.far c)) c a (omega arith) (omega arith) ∙
      (along_on f (f.far c) c o ∙ along_same (f.far c) (f.far (f.to c)) (f.to c) (p.inside c a o) (omega arith) (omega arith))

  ends : (k c : ℕ) → c < n → f.far c ≤ k → (along f k c < n) × (f.off (along f k c) ≡ true)
  unfolding along
  ends zero c a x = (a, near_off c a x)
  ends (suc k) c a x = let ih = ends k (f.to c) in grind (arith, p.inside c, p.nearer c)

  only : (k c : ℕ) → c < n → f.off (along f k c) ≡ true → along f k c ≡ exit f c
  unfolding along
  only zero c a o = sym (along_off f (f.far c) c o)
  only (suc k) c a o =
      let ih = only k (f.to c) in
      let here = along_off f (f.far c) c in
      let there = exit_step c a in
      grind (arith, p.inside c)

pub one_exit : OneExit
one_exit n f p c a = let e = ends n f p (f.far c) c a (omega arith) in record { cell = e.0; off = e.1; only = λ k o. only n f p k c a o }

pub exits_are_outlets : ExitsAreOutlets
exits_are_outlets l f d c a = let e = one_exit l.cells f (drained_acyclic l f d) c a in d.leaves (exit f c) e.cell e.off

pub one_basin : OneBasin
one_basin n f p c a =
    let e = one_exit n f p c a in
    record { outlet = exit f c; cell = e.cell; off = e.off; holds = grind (arith, nat_tests); only = λ x i. grind (arith, nat_tests) }

pub exit_in_basin : ExitInBasin
exit_in_basin f e o = let i = along_off f (f.far e) e o in grind (arith, nat_tests)

pub flow_stays_in_basin : FlowStaysInBasin
flow_stays_in_basin n f p c e a o = rw (exit_step n f p c a o)

pub no_exit_no_basin : NoExitNoBasin
no_exit_no_basin n f p e on c a = let x = (one_exit n f p c a).off in let i = cases_Bool (in_basin f e c) in grind (arith, nat_tests)
