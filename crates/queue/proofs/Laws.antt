-- What a push and a pop leave, whatever the list.
use Rattle.std.proofs.Common.{◌≡◌, ℕ, zero, suc, ◌+◌, ◌-◌, ◌^◌, ◌<◌, ◌≤◌, List, length, get_or, take, sum_by, ap, arith}
use Rattle.std.proofs.lemmas.List.{set-get_or}
use Rattle.std.proofs.lemmas.List.Sums.{sum_by_more}
use Rattle.queue.specs.Heap.{Heap, Least, Gains, Rest, Sifted, parent_of, sink, pushed, popped}
use Rattle.queue.proofs.Order.{gap_last, gap_first}
use Rattle.queue.proofs.Sifts.{rise_mends, sink_mends, rise_length, sink_length}

pub pushed_length : (xs : List ℕ) (n x : ℕ) → length (pushed xs n x).entries ≡ length xs
pushed_length xs n x = rise_length n xs n x 0

pub popped_length : (xs : List ℕ) (n : ℕ) → length (popped xs n).entries ≡ length xs
popped_length xs n = sink_length (n - 1) xs (n - 1) 0 (get_or xs (n - 1) 0) 0

-- s is what a push of x to the first n entries of xs leaves
pub record AfterPush (xs : List ℕ) (n x : ℕ) (s : Sifted) : Type 0 where
  pub order : Heap xs n → Heap s.entries (n + 1)
  pub content : Gains xs n x s.entries (n + 1)
  pub rest : Rest xs (n + 1) s.entries
  pub few : (k : ℕ) → n < 2 ^ k → s.looks ≤ k

-- s is what a pop from the first n entries of xs leaves, which gives out the first
pub record AfterPop (xs : List ℕ) (n : ℕ) (s : Sifted) : Type 0 where
  pub least : Heap xs n → Least (get_or xs 0 0) xs n
  pub order : Heap xs n → Heap s.entries (n - 1)
  pub content : Gains s.entries (n - 1) (get_or xs 0 0) xs n
  pub rest : Rest xs (n - 1) s.entries
  pub few : (k : ℕ) → n ≤ 2 ^ k → s.looks ≤ k

pub after_push : (xs : List ℕ) (n x : ℕ) → n < length xs → AfterPush xs n x (pushed xs n x)
after_push xs n x long =
    let m = rise_mends n xs n (n + 1) x 0 long (omega arith) (omega arith) in
    record {
      order = λ h. m.order (gap_last xs n h, λ k a b f. absurd (omega arith));
      content = λ g. omega (arith, m.content g, sum_by_more g xs n 0 long);
      rest = m.rest;
      few = λ k low. omega (arith, m.most k low);
    }

first_least : (xs : List ℕ) (n : ℕ) → Heap xs n → (f k : ℕ) → k ≤ f → k < n → get_or xs 0 0 ≤ get_or xs k 0
first_least xs n h zero k a b = grind arith
first_least xs n h (suc f) k a b = grind (arith, first_least xs n h f (parent_of k), h k)

-- of one entry
pop_one : (xs : List ℕ) → 0 < length xs → AfterPop xs 1 (popped xs 1)
unfolding sink
pop_one xs long = record {
  least = λ h k b. first_least xs 1 h k k (omega arith) b;
  order = λ h k a b. absurd (omega arith);
  content = λ g. sum_by_more g xs 0 0 long;
  rest = λ k a. ap (λ ys. get_or ys k 0) (set-get_or xs 0 0);
  few = λ k low. omega arith;
}

-- of more
pop_more : (xs : List ℕ) (n : ℕ) → 1 < n → n ≤ length xs → AfterPop xs n (popped xs n)
pop_more xs n more long =
    let l = n - 1 in
    let m = sink_mends l xs l 0 (get_or xs l 0) 0 (omega arith) (omega arith) (omega arith) in
    record {
      least = λ h k b. first_least xs n h k k (omega arith) b;
      order = λ h. m.order (gap_first xs n h, λ p a b. absurd (omega arith));
      content = λ g. omega (arith, m.content g, sum_by_more g xs l 0 (omega arith), ap (λ k. sum_by g (take k xs)) (let e : l + 1 ≡ n = omega arith in e));
      rest = m.rest;
      few = λ k low. omega (arith, m.most k (omega arith));
    }

pub after_pop : (xs : List ℕ) (n : ℕ) → 0 < n → n ≤ length xs → AfterPop xs n (popped xs n)
after_pop xs zero some long = absurd (omega arith)
after_pop xs (suc zero) some long = pop_one xs (omega arith)
after_pop xs (suc (suc l)) some long = pop_more xs (suc (suc l)) (omega arith) long
