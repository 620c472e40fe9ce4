-- What `rise` and `sink` do to any list: the order, the content, the rest, the length, and how many looks they make.
use Rattle.std.proofs.Common.{◌≡◌, ℕ, zero, suc, ◌+◌, ◌*◌, ◌^◌, ◌<◌, ◌≤◌, ltb, List, length, get_or, take, set, sum_by, sym, ap, ◌∙◌, mul-le-mul_right, mul_assoc, add-one, arith, length-set, get_or-set_other, ltb-false, ltb-true}
use native.Mathlib.Nat.{pow-succ'}
use Rattle.std.proofs.Math.Seq.{take-set-lt}
use Rattle.std.proofs.lemmas.List.{length-take, get_or-take}
use Rattle.std.proofs.lemmas.List.Sums.{sum_by-set}
use Rattle.std.proofs.lemmas.Bool.{cond_both}
use Rattle.std.proofs.lemmas.Bool.Decides.{nat_tests}
use Rattle.queue.specs.Heap.{Heap, Rest, Sifted, placed, parent_of, rise, lesser, sink}
use Rattle.queue.proofs.Order.{Gap, Under, Over, closes, gap_up, under_up, gap_down, over_down, lesser_child}

-- r is xs with x put in for the entry at i, moved about among the first n only, and k looks are made before;
-- given Ready the first n are in order, and given Few m there are at most m looks more
pub record Mended (xs : List ℕ) (i n x k : ℕ) (Ready : Type 0) (Few : ℕ → Type 0) (r : Sifted) : Type 0 where
  pub content : (g : ℕ → ℕ) → sum_by g (take n r.entries) + g (get_or xs i 0) ≡ sum_by g (take n xs) + g x
  pub rest : Rest xs n r.entries
  pub order : Ready → Heap r.entries n
  pub least : k ≤ r.looks
  pub most : (m : ℕ) → Few m → r.looks ≤ k + m

-- one look fewer
abbrev Fewer : (ℕ → Type 0) → ℕ → Type 0
Fewer Few m = (l : ℕ) × (l + 1 ≡ m) × Few l

-- y is written into the place i
written : (xs : List ℕ) (i n : ℕ) → i < length xs → i < n → (g : ℕ → ℕ) (y : ℕ) → sum_by g (take n (set xs i y)) + g (get_or xs i 0) ≡ sum_by g (take n xs) + g y
written xs i n long inside g y = rw (take-set-lt n xs i y inside) (omega (arith, sum_by-set g (take n xs) i y 0 (simp length-take (omega arith)), ap g (get_or-take n xs i 0 inside)))

module _ (xs : List ℕ) (i n x k : ℕ) (long : i < length xs) (inside : i < n) {Ready : Type 0} {Few : ℕ → Type 0} where
  -- x stays at i after l looks
  stays : (l : ℕ) → k ≤ l → ((m : ℕ) → Few m → l ≤ k + m) → (Ready → Gap xs i n) → (Ready → Under xs i n x) → (Ready → Over xs i x) → Mended xs i n x k Ready Few (placed xs i x l)
  stays l least most gap under over = record {
    content = λ g. written xs i n long inside g x;
    rest = λ m a. get_or-set_other xs i m x 0 (omega arith);
    order = λ ready. closes xs i x long n (gap ready) (under ready) (over ready);
    least = least;
    most = most;
  }

  -- the entry at j is written into the free place i after one look, and j is free then
  goes : (j : ℕ) {Ready' : Type 0} {Few' : ℕ → Type 0} {r : Sifted} → (j ≡ i → ⊥) → (Ready → Ready') → ((m : ℕ) → Few m → Fewer Few' m) → Mended (set xs i (get_or xs j 0)) j n x (k + 1) Ready' Few' r → Mended xs i n x k Ready Few r
  goes j other ready fewer w = let y = get_or xs j 0 in record {
    content = λ g. omega (arith, w.content g, written xs i n long inside g y, ap g (get_or-set_other xs i j y 0 other));
    rest = λ m a. w.rest m a ∙ get_or-set_other xs i m y 0 (omega arith);
    order = λ is. w.order (ready is);
    least = omega (arith, w.least);
    most = λ m few. let f = fewer m few in omega (arith, w.most f.0 f.2, f.1);
  }

-- one look up halves the place
halves : (i m : ℕ) → 0 < i → i < 2 ^ m → Fewer (λ l. parent_of i < 2 ^ l) m
halves i zero p h = absurd (omega arith)
halves i (suc m) p h = let q = pow-succ' 2 m in (m, add-one m, omega arith)

-- and one look down doubles it
doubles : (n i c m : ℕ) → 2 * i + 1 < n → 2 * i + 1 ≤ c → n ≤ (i + 1) * 2 ^ m → Fewer (λ l. n ≤ (c + 1) * 2 ^ l) m
doubles n i c zero p q h = absurd (omega arith)
doubles n i c (suc m) p q h =
    let a : (i + 1) * 2 ^ suc m ≡ ((i + 1) * 2) * 2 ^ m = ap (λ l. (i + 1) * l) (pow-succ' 2 m) ∙ sym (mul_assoc (i + 1) 2 (2 ^ m)) in
    let b : (i + 1) * 2 ≤ c + 1 = omega arith in
    let d = mul-le-mul_right (2 ^ m) b in
    (m, add-one m, omega arith)

-- x is put in at a free place i, from below, and from above
abbrev pub Raised : List ℕ → ℕ → ℕ → ℕ → ℕ → Sifted → Type 0
Raised xs i n x k = Mended xs i n x k (Gap xs i n × Under xs i n x) (λ m. i < 2 ^ m)

abbrev pub Lowered : List ℕ → ℕ → ℕ → ℕ → ℕ → Sifted → Type 0
Lowered xs i n x k = Mended xs i n x k (Gap xs i n × Over xs i x) (λ m. n ≤ (i + 1) * 2 ^ m)

pub rise_mends : (f : ℕ) (xs : List ℕ) (i n x k : ℕ) → i < length xs → i < n → i ≤ f → Raised xs i n x k (rise f xs i x k)
unfolding rise
rise_mends zero xs i n x k long inside low = stays xs i n x k long inside k (omega arith) (λ m few. omega arith) (λ is. is.0) (λ is. is.1) (λ is p a b. absurd (omega arith))
rise_mends (suc f) xs i n x k long inside low =
    let j = parent_of i in
    cond_both (ltb 0 i) _ _ (Raised xs i n x k)
    (λ t. let pos : 0 < i = ltb-true _ _ t in cond_both (ltb x (get_or xs j 0)) _ _ (Raised xs i n x k)
    (λ s. goes xs i n x k long inside j (omega arith)
    (λ is. (gap_up xs i n j long (omega arith) (omega arith) is.0 inside, under_up xs i n j long (omega arith) (omega arith) is.0 x (ltb-true _ _ s)))
    (λ m few. halves i m pos few)
    (rise_mends f (set xs i (get_or xs j 0)) j n x (k + 1) (simp length-set (omega arith)) (omega arith) (omega arith)))
    (λ s. stays xs i n x k long inside (k + 1) (omega arith) (λ m few. omega (arith, (halves i m pos few).1)) (λ is. is.0) (λ is. is.1)
    (λ is p a b. grind (arith, ltb-false _ _ s))))
    (λ t. stays xs i n x k long inside k (omega arith) (λ m few. omega arith) (λ is. is.0) (λ is. is.1) (λ is p a b. absurd (omega (arith, ltb-false _ _ t))))

pub sink_mends : (f : ℕ) (xs : List ℕ) (n i x k : ℕ) → n ≤ length xs → i < n → n ≤ i + f → Lowered xs i n x k (sink f xs n i x k)
unfolding sink
sink_mends zero xs n i x k long inside low = absurd (omega arith)
sink_mends (suc f) xs n i x k long inside low =
    let c = lesser xs n i in
    let here : i < length xs = omega arith in
    cond_both (ltb (2 * i + 1) n) _ _ (Lowered xs i n x k)
    (λ t.
    let p : 2 * i + 1 < n = ltb-true _ _ t in
    let child = lesser_child xs n i p in
    let from = child.from in
    let to = child.to in
    let within = child.within in
    cond_both (ltb (get_or xs c 0) x) _ _ (Lowered xs i n x k)
    (λ s. goes xs i n x k here inside c (omega arith)
    (λ is. (gap_down xs i c here from to n within child.least is.0, over_down xs i c here from to x (ltb-true _ _ s)))
    (λ m few. doubles n i c m p from few)
    (sink_mends f (set xs i (get_or xs c 0)) n c x (k + 1) (simp length-set long) within (omega arith)))
    (λ s. stays xs i n x k here inside (k + 1) (omega arith) (λ m few. omega (arith, (doubles n i c m p from few).1)) (λ is. is.0)
    (λ is l a b w. omega (arith, ltb-false _ _ s, child.least l a b w)) (λ is. is.1)))
    (λ t. stays xs i n x k here inside k (omega arith) (λ m few. omega arith) (λ is. is.0) (λ is l a b w. absurd (omega (arith, ltb-false _ _ t))) (λ is. is.1))

pub rise_length : (f : ℕ) (xs : List ℕ) (i x k : ℕ) → length (rise f xs i x k).entries ≡ length xs
unfolding rise
rise_length zero xs i x k = length-set xs i x
rise_length (suc f) xs i x k = let ys = set xs i (get_or xs (parent_of i) 0) in grind (arith, nat_tests, length-set xs i x, length-set xs i (get_or xs (parent_of i) 0), rise_length f ys (parent_of i) x (k + 1))

pub sink_length : (f : ℕ) (xs : List ℕ) (n i x k : ℕ) → length (sink f xs n i x k).entries ≡ length xs
unfolding sink
sink_length zero xs n i x k = length-set xs i x
sink_length (suc f) xs n i x k = let c = lesser xs n i in let y = get_or xs c 0 in grind (arith, nat_tests, length-set xs i x, length-set xs i y, sink_length f (set xs i y) n c x (k + 1))
