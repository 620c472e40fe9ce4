-- The rain of a basin: amounts of water that rains there alone add up again, and nothing of it is lost.
use Rattle.std.proofs.Common.{◌≡◌, ℕ, zero, suc, ◌<◌, ◌≤◌, Bool, true, false, cond, eqb, sym, ◌∙◌, arith}
use Rattle.std.proofs.lemmas.Bool.Decides.{nat_tests}
use Rattle.model.specs.Land.{Land}
use Rattle.flood.specs.Levels.{Flow}
use Rattle.flood.proofs.Sums.{sum_same, sum_ones}
use Rattle.amounts.specs.Amounts.{sent, Carried, leaving}
use Rattle.amounts.proofs.Sums.{sum_one}
use Rattle.amounts.proofs.Carrying.{nothing_lost, some_amounts}
use Rattle.basins.specs.Exits.{in_basin, basin_sum}
use Rattle.basins.specs.Promises.{ExitAmount, BasinsHaveAllRain, BasinsHaveAllCells}
use Rattle.basins.proofs.Exits.{along_off, flow_stays_in_basin}

-- the land with other rain
abbrev with_rain : Land → (ℕ → ℕ) → Land
with_rain l rain = record { cells = l.cells; next = l.next; leaves = l.leaves; height = l.height; rain = rain }

-- g where w holds, else 0
abbrev only_where : (ℕ → Bool) → (ℕ → ℕ) → ℕ → ℕ
only_where w g c = cond (w c) (g c) 0

-- where the flow leads from no cell of w to one outside, nor back, amounts on w alone add up
module _ (l : Land) (f : Flow) (g : ℕ → ℕ) (w : ℕ → Bool) (stays : (c : ℕ) → c < l.cells → f.off c ≡ false → w (f.to c) ≡ w c) where
  sent_where : (c m : ℕ) → m ≤ l.cells → sent f (only_where w g) c m ≡ cond (w c) (sent f g c m) 0
  sent_where c zero a = grind arith
  sent_where c (suc m) a = let ih = sent_where c m in grind (arith, nat_tests, stays m)

  carried_where : Carried l f g → Carried (with_rain l (only_where w l.rain)) f (only_where w g)
  carried_where q = record { each = λ c a. grind (arith, q.each c, sent_where c l.cells) }

-- of the exits only e has basin e
leaving_one : (f : Flow) (g : ℕ → ℕ) (e c : ℕ) → f.off e ≡ true → leaving f (only_where (in_basin f e) g) c ≡ cond (eqb e c) (g e) 0
leaving_one f g e c o = grind (arith, nat_tests, along_off f (f.far c) c)

pub exit_amount : ExitAmount
exit_amount l f g p q e a o =
    let w = in_basin f e in
    let n = l.cells in
    let all = nothing_lost (with_rain l (only_where w l.rain)) f (only_where w g) p
    (carried_where l f g w (λ c b on. flow_stays_in_basin n f p c e b on) q) in
    sym (sum_same (leaving f (only_where w g)) (λ c. cond (eqb e c) (g e) 0) n (λ c b. leaving_one f g e c o) ∙ sum_one e (g e) n a) ∙ all

pub basins_have_all_rain : BasinsHaveAllRain
basins_have_all_rain l f p =
    let s = some_amounts l f p in
    let g = s.0 in
    let same = sum_same (λ e. cond (f.off e) (basin_sum f l.rain e l.cells) 0) (leaving f g) l.cells
    (λ e a. let i = exit_amount l f g p s.1 e a in grind arith) in
    same ∙ nothing_lost l f g p s.1

-- a land of n cells on which 1 rains everywhere
abbrev one_each : ℕ → Land
one_each n = record { cells = n; next = λ _ _. false; leaves = λ _. false; height = λ _. 0; rain = λ _. 1 }

pub basins_have_all_cells : BasinsHaveAllCells
basins_have_all_cells n f p = basins_have_all_rain (one_each n) f p ∙ sum_ones n
