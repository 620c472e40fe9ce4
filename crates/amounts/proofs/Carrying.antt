-- Amounts: what leaves is what rained; they exist, are the only ones that add up, and none is above all the rain.
use Rattle.std.proofs.Common.{◌≡◌, ℕ, zero, suc, ◌+◌, ◌<◌, ◌≤◌, Bool, false, cond, eqb, refl, subst, arith}
use Rattle.std.proofs.lemmas.Bool.Decides.{nat_tests}
use Rattle.std.proofs.lemmas.Bool.{cases_Bool, cases_eq}
use Rattle.model.specs.Land.{Land}
use Rattle.flood.specs.Levels.{Flow}
use Rattle.flood.specs.Sums.{sum}
use Rattle.flood.proofs.Sums.{sum_same, sum_add, sum_zero, le_sum}
use Rattle.flood.proofs.Existing.{levels_exist}
use Rattle.amounts.specs.Amounts.{sends, sent, Carried, Acyclic, all_rain, all_off, leaving}
use Rattle.amounts.specs.Promises.{DrainedAcyclic, SomeAmounts, OnlyAmounts, NothingLost, Bounded, RainBounded, Always}
use Rattle.amounts.proofs.Sums.{sum_one, sum_limit}

pub drained_acyclic : DrainedAcyclic
drained_acyclic l f d = record { inside = λ c a o. (d.goes c a o).0; nearer = λ c a o. (d.goes c a o).3 }

-- what one cell sends to all
sends_to_all : (b : Bool) (t x n : ℕ) → (b ≡ false → t < n) → sum (λ c. cond b 0 (cond (eqb t c) x 0)) n ≡ cond b 0 x
sends_to_all b t x n a = grind (arith, sum_zero (λ _. 0) n, sum_one t x n)

-- what comes to all cells is what all others than exits have
sum_sent : (f : Flow) (g : ℕ → ℕ) (n m : ℕ) → ((k : ℕ) → k < m → f.off k ≡ false → f.to k < n) →
    sum (λ c. sent f g c m) n ≡ sum (λ k. cond (f.off k) 0 (g k)) m
sum_sent f g n zero a = sum_zero (λ _. 0) n (λ c b. refl)
sum_sent f g n (suc m) a = omega (
  arith,
  sum_add (λ c. sends f g c m) (λ c. sent f g c m) n,
  sends_to_all (f.off m) (f.to m) (g m) n (a m (omega arith)),
  sum_sent f g n m (λ k b. a k (omega arith)),
)

sum_off : (f : Flow) (g : ℕ → ℕ) (m : ℕ) → all_off f g m + sum (λ k. cond (f.off k) 0 (g k)) m ≡ sum g m
sum_off f g zero = refl
sum_off f g (suc m) = let ih = sum_off f g m in grind arith

pub nothing_lost : NothingLost
nothing_lost l f g p q =
    let n = l.cells in
    omega (
      arith,
      sum_off f g n,
      sum_same g (λ c. l.rain c + sent f g c n) n q.each,
      sum_add l.rain (λ c. sent f g c n) n,
      sum_sent f g n n p.inside,
    )

sent_same : (f : Flow) (g h : ℕ → ℕ) (c m : ℕ) → ((k : ℕ) → k < m → f.off k ≡ false → f.to k ≡ c → g k ≡ h k) → sent f g c m ≡ sent f h c m
sent_same f g h c zero e = refl
sent_same f g h c (suc m) e = let ih = sent_same f g h c m in grind (arith, nat_tests, e m)

module _ (l : Land) (f : Flow) (p : Acyclic l.cells f) where
  -- no cell is farther than this
  most : ℕ
  most = sum f.far l.cells

  -- what is sent to c comes from farther cells
  farther : (g h : ℕ → ℕ) (k c : ℕ) → most < f.far c + suc k →
      ((n : ℕ) → n < l.cells → most < f.far n + k → g n ≡ h n) → sent f g c l.cells ≡ sent f h c l.cells
  farther g h k c b ih = sent_same f g h c l.cells (λ n a o t.
      let u : f.far c < f.far n = subst (λ (x : ℕ). f.far x < f.far n) t (p.nearer n a o) in
      ih n a (omega arith))

  too_far : (c : ℕ) → c < l.cells → most < f.far c + 0 → ⊥
  unfolding most
  too_far c a b = omega (arith, le_sum f.far l.cells c a)

  only : (g h : ℕ → ℕ) → Carried l f g → Carried l f h → (k c : ℕ) → c < l.cells → most < f.far c + k → g c ≡ h c
  only g h q r zero c a b = absurd (too_far c a b)
  only g h q r (suc k) c a b = omega (arith, q.each c a, r.each c a, farther g h k c b (only g h q r k))

  -- what comes to each cell over at most k steps
  amount : ℕ → ℕ → ℕ
  amount zero c = 0
  amount (suc k) c = l.rain c + sent f (amount k) c l.cells

  settled : (k c : ℕ) → c < l.cells → most < f.far c + k → amount k c ≡ amount (suc k) c
  unfolding amount
  settled zero c a b = absurd (too_far c a b)
  settled (suc k) c a b = omega (arith, farther (amount k) (amount (suc k)) k c b (settled k))

  enough : (c : ℕ) → c < l.cells → amount (suc most) c ≡ l.rain c + sent f (amount (suc most)) c l.cells
  unfolding amount
  enough c a = settled (suc most) c a (omega arith)

pub only_amounts : OnlyAmounts
only_amounts l f g h p q r c a = only l f p g h q r (suc (most l f p)) c a (omega arith)

pub some_amounts : SomeAmounts
some_amounts l f p = (amount l f p (suc (most l f p)), record { each = enough l f p })

-- a cell gets at least what each cell that sends to it has
sent_has : (f : Flow) (g : ℕ → ℕ) (n m : ℕ) → n < m → f.off n ≡ false → g n ≤ sent f g (f.to n) m
sent_has f g n zero a o = absurd (omega arith)
sent_has f g n (suc m) a o = let ih = sent_has f g n m in let e = cases_eq n m in grind (arith, nat_tests)

-- along the way amounts never fall, and at the exit all that leaves is all that rained
bounded_in : (l : Land) (f : Flow) (g : ℕ → ℕ) → Acyclic l.cells f → Carried l f g → (k c : ℕ) → c < l.cells → f.far c < k → g c ≤ all_rain l l.cells
bounded_in l f g p q zero c a b = absurd (omega arith)
bounded_in l f g p q (suc k) c a b =
    let ih = bounded_in l f g p q k (f.to c) in
    let o = cases_Bool (f.off c) in
    let all = nothing_lost l f g p q in
    grind (arith, le_sum (leaving f g) l.cells c a, p.inside c a, p.nearer c a, q.each (f.to c), sent_has f g c l.cells a)

pub bounded : Bounded
bounded l f g p q c a = bounded_in l f g p q (suc (f.far c)) c a (omega arith)

pub rain_bounded : RainBounded
rain_bounded l most low = sum_limit l.rain l.cells most low

pub always : Always
always l ways = let s = levels_exist l ways in (s.0, s.1, some_amounts l s.0 (drained_acyclic l s.0 s.1))
