-- The loops of `sift_up` and `sift_down` go as `rise` and `sink` do, a look at a time.
use Rattle.std.proofs.Common.{◌≡◌, ℕ, zero, suc, ◌+◌, ◌*◌, ◌^◌, ◌<◌, ◌≤◌, List, length, get_or, set, ap, arith}
use Rattle.std.proofs.lemmas.Bool.Decides.{nat_tests}
use Rattle.queue.specs.Heap.{Sifted, placed, parent_of, rise, lesser, sink, pushed}
use Rattle.queue.proofs.Order.{lesser_child}
use Rattle.queue.proofs.Sifts.{rise_mends, sink_mends}

-- `sift_up` has come to the free place i after k looks, and f more are enough
pub record Rising (xs₀ : List ℕ) (i₀ x : ℕ) (xs : List ℕ) (i k f : ℕ) : Type 0 where
  pub enough : i ≤ f
  pub same : rise f xs i x k ≡ pushed xs₀ i₀ x

-- `sift_down` has come to the free place i after k looks, and f more are enough
pub record Sinking (xs₀ : List ℕ) (n x : ℕ) (xs : List ℕ) (i k f : ℕ) : Type 0 where
  pub enough : n ≤ i + f
  pub same : sink f xs n i x k ≡ sink n xs₀ n 0 x 0

module _ {xs₀ : List ℕ} {i₀ x : ℕ} {xs : List ℕ} {i k : ℕ} where
  pub rise_goes : (f : ℕ) → Rising xs₀ i₀ x xs i k f → 0 < i → x < get_or xs (parent_of i) 0 → (f : ℕ) × Rising xs₀ i₀ x (set xs i (get_or xs (parent_of i) 0)) (parent_of i) (k + 1) f
  unfolding rise
  rise_goes zero r p t = let low = r.enough in absurd (omega arith)
  rise_goes (suc f) r p t = (f, record { enough = omega (arith, r.enough); same = grind (arith, nat_tests, r.same) })

  pub rise_stays : (f : ℕ) → Rising xs₀ i₀ x xs i k f → 0 < i → get_or xs (parent_of i) 0 ≤ x → placed xs i x (k + 1) ≡ pushed xs₀ i₀ x
  unfolding rise
  rise_stays zero r p t = let low = r.enough in absurd (omega arith)
  rise_stays (suc f) r p t = grind (arith, nat_tests, r.same)

  pub rise_ends : (f : ℕ) → Rising xs₀ i₀ x xs i k f → i ≤ 0 → placed xs i x k ≡ pushed xs₀ i₀ x
  unfolding rise
  rise_ends zero r p = r.same
  rise_ends (suc f) r p = grind (arith, nat_tests, r.same)

  -- no more than 64 looks are made
  pub rise_few : (f : ℕ) → Rising xs₀ i₀ x xs i k f → i₀ < length xs₀ → i₀ < 2 ^ 64 → i < length xs → k ≤ 64
  rise_few f r long low here =
      let whole = rise_mends i₀ xs₀ i₀ (i₀ + 1) x 0 long (omega arith) (omega arith) in
      let part = rise_mends f xs i (i + 1) x k here (omega arith) r.enough in
      omega (arith, whole.most 64 low, part.least, ap (λ (s : Sifted). s.looks) r.same)

module _ {xs₀ : List ℕ} {n x : ℕ} {xs : List ℕ} {i k : ℕ} where
  pub sink_goes : (f c : ℕ) → Sinking xs₀ n x xs i k f → 2 * i + 1 < n → c ≡ lesser xs n i → get_or xs c 0 < x → (f : ℕ) × Sinking xs₀ n x (set xs i (get_or xs c 0)) c (k + 1) f
  unfolding sink
  sink_goes zero c r p e t = let low = r.enough in absurd (omega arith)
  sink_goes (suc f) c r p e t = (f, record { enough = omega (arith, r.enough, (lesser_child xs n i p).from); same = grind (arith, nat_tests, r.same) })

  pub sink_stays : (f c : ℕ) → Sinking xs₀ n x xs i k f → 2 * i + 1 < n → c ≡ lesser xs n i → x ≤ get_or xs c 0 → placed xs i x (k + 1) ≡ sink n xs₀ n 0 x 0
  unfolding sink
  sink_stays zero c r p e t = let low = r.enough in absurd (omega arith)
  sink_stays (suc f) c r p e t = grind (arith, nat_tests, r.same)

  pub sink_ends : (f : ℕ) → Sinking xs₀ n x xs i k f → n ≤ 2 * i + 1 → placed xs i x k ≡ sink n xs₀ n 0 x 0
  unfolding sink
  sink_ends zero r p = r.same
  sink_ends (suc f) r p = grind (arith, nat_tests, r.same)

  -- no more than 64 looks are made
  pub sink_few : (f : ℕ) → Sinking xs₀ n x xs i k f → n ≤ length xs₀ → n ≤ 2 ^ 64 → n ≤ length xs → i < n → k ≤ 64
  sink_few f r long low here inside =
      let whole = sink_mends n xs₀ n 0 x 0 long (omega arith) (omega arith) in
      let part = sink_mends f xs n i x k here inside r.enough in
      omega (arith, whole.most 64 (omega arith), part.least, ap (λ (s : Sifted). s.looks) r.same)
