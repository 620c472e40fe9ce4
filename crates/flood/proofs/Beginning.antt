-- The start: the outlets are put into the queue, one after another.
use Rattle.std.proofs.Common.{◌≡◌, ℕ, zero, suc, ◌<◌, ◌≤◌, true, false, cond, ltb, List, get_or, replicate, sym, refl, ap, ◌∙◌, inl, inr, arith}
use lib.ListN.{length-replicate, get_or-replicate}
use borrow.Author.Tests.{both_ways}
use Rattle.std.proofs.lemmas.Bool.Decides.{nat_tests}
use Rattle.std.proofs.lemmas.Bool.{cases_eq, cases_Bool, cond_both}
use Rattle.model.specs.Land.{Land}
use Rattle.queue.specs.Heap.{word}
use Rattle.flood.specs.Run.{ground_of, none, State, blank, put, begun, flow_of}
use Rattle.flood.proofs.Sums.{sum_zero}
use Rattle.flood.proofs.Filling.{none_filled}
use Rattle.flood.proofs.Kept.{has, stands, Frame, Good, wrote}
use Rattle.flood.proofs.Putting.{put_frame}

-- the outlets below k stand in the queue
pub record Outlets (l : Land) (k : ℕ) (s : State) : Type 0 where
  pub frame : Frame l s 0
  pub none_placed : s.placed ≡ 0
  pub free : (c : ℕ) → c < l.cells → has s.places c ≡ false
  pub outlet : (c : ℕ) → c < l.cells → has s.levels c ≡ true → l.leaves c ≡ true
  pub before : (c : ℕ) → c < l.cells → has s.levels c ≡ true → c < k
  pub outlet_level : (c : ℕ) → c < l.cells → has s.levels c ≡ true → get_or s.levels c 0 ≡ l.height c
  pub done : (c : ℕ) → c < k → l.leaves c ≡ true → has s.levels c ≡ true

-- none yet
blank_begun : (l : Land) → Outlets l 0 (blank l.cells)
unfolding blank
blank_begun l =
    let n = l.cells in
    let xs = replicate n none in
    let no : (c : ℕ) → c < n → has xs c ≡ false = λ c a. ap (λ y. ltb y none) (get_or-replicate n c none 0 a) in
    let nothing : (g : ℕ → ℕ) (c : ℕ) → c < n → cond (stands (blank n) c) (g (word (get_or xs c 0) c)) 0 ≡ 0 = λ g c a. rw (no c a) in
    record {
      frame = record {
        long = record {
          levels = length-replicate n none;
          flow = length-replicate n none;
          places = length-replicate n none;
          puts = length-replicate n 0;
          order = length-replicate n none;
          queue = length-replicate n none;
        };
        heap = λ k a b. absurd (omega arith);
        content = λ g. sym (sum_zero (λ c. cond (stands (blank n) c) (g (word (get_or xs c 0) c)) 0) n (nothing g));
        size = sum_zero (λ c. cond (stands (blank n) c) 1 0) n (nothing (λ _. 1));
        count = sum_zero (λ c. cond (has xs c) 1 0) n (λ c a. rw (no c a));
        once = λ c a. get_or-replicate n c 0 0 a ∙ rw (no c a);
        level = λ c a e. absurd (both_ways _ (no c a) e);
        below = λ c a e. absurd (both_ways _ (no c a) e);
        yet = λ c a e. get_or-replicate n c none 0 a;
        unplaced = λ c a e. get_or-replicate n c none 0 a;
        listed = λ c a e. absurd (both_ways _ (no c a) e);
        cell_at = λ k a. absurd (omega arith);
        place_at = λ k a. absurd (omega arith);
        sends_off = λ c a e. absurd (both_ways _ (no c a) e);
        sends = λ c a e. absurd (both_ways _ (no c a) e);
        water_fits = omega arith;
        few = λ k a. omega arith;
      };
      none_placed = refl;
      free = no;
      outlet = λ c a e. absurd (both_ways _ (no c a) e);
      before = λ c a e. absurd (both_ways _ (no c a) e);
      outlet_level = λ c a e. absurd (both_ways _ (no c a) e);
      done = λ c a. absurd (omega arith);
    }

-- one outlet more
one_begun : (l : Land) (k : ℕ) (s : State) → k < l.cells → l.height k < none → Outlets l k s → l.leaves k ≡ true → Outlets l (suc k) (put (l.height k) none k s)
unfolding put
one_begun l k s a low b o =
    let fr = b.frame in
    let v = l.height k in
    let ls = wrote s.levels k v (omega (arith, fr.long.levels)) in
    let new : has s.levels k ≡ false = elim (cases_Bool (has s.levels k)) [ inl e ↦ absurd (omega (arith, b.before k a e)) | inr e ↦ e ] in
    record {
      frame = put_frame l s 0 v none k fr a new low (omega arith) (λ _. refl) (λ e. absurd (both_ways _ e o));
      none_placed = b.none_placed;
      free = b.free;
      outlet = λ c i e. let x = ls c in grind (arith, nat_tests, b.outlet c);
      before = λ c i e. let x = ls c in grind (arith, nat_tests, b.before c);
      outlet_level = λ c i e. let x = ls c in grind (arith, nat_tests, b.outlet_level c);
      done = λ c i e. let x = ls c in grind (arith, nat_tests, b.done c);
    }

-- no outlet
skip_begun : (l : Land) (k : ℕ) (s : State) → Outlets l k s → l.leaves k ≡ false → Outlets l (suc k) s
skip_begun l k s b o = record {
  frame = b.frame;
  none_placed = b.none_placed;
  free = b.free;
  outlet = b.outlet;
  before = λ c i e. omega (arith, b.before c i e);
  outlet_level = b.outlet_level;
  done = λ c i e. let q = cases_eq c k in grind (arith, b.done c);
}

-- all below k
pub begun_all : (l : Land) (around : ℕ → List ℕ) → ((c : ℕ) → c < l.cells → l.height c < none) → (k : ℕ) → k ≤ l.cells → Outlets l k (begun (ground_of l around) k)
unfolding begun
begun_all l around low zero a = blank_begun l
begun_all l around low (suc k) a =
    let ih = begun_all l around low k (omega arith) in
    let s = begun (ground_of l around) k in
    cond_both (l.leaves k) _ _ (Outlets l (suc k)) (λ o. one_begun l k s (omega arith) (low k (omega arith)) ih o) (λ o. skip_begun l k s ih o)

-- what holds before the first turn
pub begun_good : (l : Land) (s : State) → Outlets l l.cells s → Good l s 0
begun_good l s b =
    let no = b.free in
    record {
      frame = b.frame;
      filled = none_filled l _ (flow_of s) s.placed no;
      waits = λ _. record {
        open_outlet = λ c a e o. let h = b.done c a o in (h, b.outlet_level c a h);
        open_cell = λ c d a e o i q. absurd (both_ways _ (no d i) q);
        source = λ c a e i o. absurd (both_ways _ o (b.outlet c a i));
      };
      chosen = record {
        earliest = λ x d a e o i p. absurd (both_ways _ (no d i) p);
        lowest = λ c d a p. absurd (both_ways _ (no c a) p);
      };
    }
