-- Words that are pushed and then popped come out in ascending order.
use Rattle.std.proofs.Common.{◌≡◌, ℕ, zero, suc, ◌+◌, ◌-◌, ◌≤◌, List, [], ◌∷◌, length, get_or, take, sum_by, sym, refl, ap, ◌∙◌, subst, arith}
use Rattle.std.proofs.lemmas.List.Sums.{sum_by-cons}
use Rattle.queue.specs.Heap.{Heap, Least, Gains, pushed, popped}
use Rattle.queue.specs.Rows.{pushed_all, popped_all, Ascending, Sorts}
use Rattle.queue.proofs.Laws.{pushed_length, popped_length, after_push, after_pop}
use Rattle.queue.proofs.Bounds.{least_without}

-- the first m entries of ys are the first n of xs and the words ws
record AllPushed (xs : List ℕ) (n : ℕ) (ws ys : List ℕ) (m : ℕ) : Type 0 where
  pub long : length ys ≡ length xs
  pub order : Heap ys m
  pub content : (g : ℕ → ℕ) → sum_by g (take m ys) ≡ sum_by g (take n xs) + sum_by g ws

all_pushed : (ws xs : List ℕ) (n m : ℕ) → Heap xs n → m ≡ n + length ws → m ≤ length xs → AllPushed xs n ws (pushed_all xs n ws) m
all_pushed [] xs n m h e room =
    let same : n ≡ m = omega arith in
    subst (AllPushed xs n [] xs) same (record { long = refl; order = h; content = λ g. omega arith })
all_pushed (w ∷ ws) xs n m h e room =
    let law = after_push xs n w (omega arith) in
    let long = pushed_length xs n w in
    let more = all_pushed ws (pushed xs n w).entries (n + 1) m (law.order h) (omega arith) (omega arith) in
    record { long = more.long ∙ long; order = more.order; content = λ g. omega (arith, more.content g, law.content g, sum_by-cons g w ws) }

-- what pops give out of n entries of xs
record AllPopped (xs : List ℕ) (n : ℕ) (out : List ℕ) : Type 0 where
  pub count : length out ≡ n
  pub bound : (v : ℕ) → Least v xs n → Least v out n
  pub order : Ascending out
  pub content : (g : ℕ → ℕ) → sum_by g out ≡ sum_by g (take n xs)

ascending_cons : (x : ℕ) (xs : List ℕ) → Least x xs (length xs) → Ascending xs → Ascending (x ∷ xs)
ascending_cons x xs least up zero zero a b = omega arith
ascending_cons x xs least up zero (suc j) a b = least j (omega arith)
ascending_cons x xs least up (suc i) zero a b = absurd (omega arith)
ascending_cons x xs least up (suc i) (suc j) a b = up i j (omega arith) (omega arith)

least_cons : (v x : ℕ) (xs : List ℕ) (n : ℕ) → v ≤ x → Least v xs n → Least v (x ∷ xs) (suc n)
least_cons v x xs n here least zero l = here
least_cons v x xs n here least (suc k) l = least k (omega arith)

all_popped : (n : ℕ) (xs : List ℕ) → Heap xs n → n ≤ length xs → AllPopped xs n (popped_all xs n)
all_popped zero xs h long = record { count = refl; bound = λ v least k l. absurd (omega arith); order = λ i j a b. absurd (omega arith); content = λ g. refl }
all_popped (suc n) xs h long =
    let x = get_or xs 0 0 in
    let ys = (popped xs (suc n)).entries in
    let law = after_pop xs (suc n) (omega arith) long in
    let kept = popped_length xs (suc n) in
    let one : suc n - 1 ≡ n = omega arith in
    let heap : Heap ys n = subst (Heap ys) one (law.order h) in
    let gains : Gains ys n x xs (suc n) = subst (λ m. Gains ys m x xs (suc n)) one law.content in
    let more = all_popped n ys heap (omega arith) in
    let rest : (v : ℕ) → Least v xs (suc n) → Least v (popped_all ys n) n = λ v least. more.bound v (least_without ys xs n (suc n) x v (omega arith) long gains least) in
    record {
      count = ap suc more.count;
      bound = λ v least. least_cons v x (popped_all ys n) n (least 0 (omega arith)) (rest v least);
      order = ascending_cons x (popped_all ys n) (subst (Least x (popped_all ys n)) (sym more.count) (rest x (law.least h))) more.order;
      content = λ g. omega (arith, more.content g, gains g, sum_by-cons g x (popped_all ys n));
    }

pub sorts : Sorts
sorts room words fits =
    let n = length words in
    let ins = all_pushed words room 0 n (λ k a b. absurd (omega arith)) (omega arith) fits in
    let out = all_popped n (pushed_all room 0 words) ins.order (omega (arith, ins.long)) in
    (out.order, λ g. omega (arith, out.content g, ins.content g))
