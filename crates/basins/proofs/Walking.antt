-- Walks along a list that says where cells send, and the pass along the order.
use Rattle.std.proofs.Common.{◌≡◌, ℕ, zero, suc, ◌<◌, ◌≤◌, false, cond, eqb, ltb, List, length, get_or, Some, sym, refl, ap, ◌∙◌, inl, inr, arith}
use Rattle.std.proofs.lemmas.List.{length-set, get_or-set_same, get_or-set_other}
use Rattle.std.proofs.lemmas.Bool.{cases_Bool, cases_eq, lt-ltb}
use Rattle.std.proofs.lemmas.Bool.Decides.{nat_tests}
use Rattle.flood.specs.Levels.{Flow}
use Rattle.flood.specs.Run.{none}
use Rattle.flood.specs.Sums.{sum}
use Rattle.flood.proofs.Sums.{sum_ones, sum_less}
use Rattle.amounts.specs.Amounts.{Acyclic}
use Rattle.amounts.specs.Accumulation.{Coded, OrderedFlow}
use Rattle.basins.specs.Exits.{exit}
use Rattle.basins.specs.Walks.{walked, exits_after, WalkFindsExit, PassFindsExits, PassKeepsLength}
use Rattle.basins.proofs.Exits.{along_off, exit_step}

-- how many cells are nearer to leaving than c
abbrev pub rank : ℕ → Flow → ℕ → ℕ
rank n f c = sum (λ x. cond (ltb (f.far x) (f.far c)) 1 0) n

pub rank_small : (n : ℕ) (f : Flow) (c : ℕ) → c < n → rank n f c < n
rank_small n f c a = omega (
  arith,
  sum_ones n,
  sum_less (λ x. cond (ltb (f.far x) (f.far c)) 1 0) (λ _. 1) n c (λ x b. grind (arith, nat_tests)) a (grind (arith, nat_tests)),
)

pub rank_falls : (n : ℕ) (f : Flow) → Acyclic n f → (c : ℕ) → c < n → f.off c ≡ false → rank n f (f.to c) < rank n f c
rank_falls n f p c a o =
    let b = p.nearer c a o in
    sum_less (λ x. cond (ltb (f.far x) (f.far (f.to c))) 1 0) (λ x. cond (ltb (f.far x) (f.far c)) 1 0) n (f.to c)
    (λ x b'. grind (arith, nat_tests)) (p.inside c a o) (grind (arith, nat_tests))

walk : (n : ℕ) (f : Flow) (flow : List ℕ) → Coded n f flow → Acyclic n f → (k c : ℕ) → c < n → rank n f c < k → walked flow n k c ≡ Some (exit f c)
walk n f flow q p zero c a b = absurd (omega arith)
walk n f flow q p (suc k) c a b = elim (cases_Bool (f.off c)) [
  | inl o ↦ rw (lt-ltb c n a, q.offs c a ∙ o) (ap Some (sym (along_off f (f.far c) c o)))
  | inr o ↦
      rw (lt-ltb c n a, q.offs c a ∙ o, q.sends c a o, exit_step n f p c a o)
      (walk n f flow q p k (f.to c) (p.inside c a o) (omega (arith, rank_falls n f p c a o)))
]

pub walk_finds_exit : WalkFindsExit
walk_finds_exit n f flow q p c a = walk n f flow q p n c a (rank_small n f c a)

pub pass_keeps_length : PassKeepsLength
pass_keeps_length flow order xs zero = refl
pass_keeps_length flow order xs (suc k) = length-set _ _ _ ∙ pass_keeps_length flow order xs k

-- after k places every cell with one of them has its exit
pass : (n : ℕ) (f : Flow) (flow order xs : List ℕ) → OrderedFlow n f flow order → n ≤ length xs → (k : ℕ) → k ≤ n →
    (c : ℕ) → c < n → f.far c < k → get_or (exits_after flow order xs k) c 0 ≡ exit f c
pass n f flow order xs p long zero le c a b = absurd (omega arith)
pass n f flow order xs p long (suc k) le c a b =
    let before = exits_after flow order xs k in
    let x = get_or order k 0 in
    let t = get_or flow x 0 in
    let v = cond (eqb t none) x (get_or before t 0) in
    let size = pass_keeps_length flow order xs k in
    let ih = pass n f flow order xs p long k (omega arith) in
    let in_it = p.cell k (omega arith) in
    let at = p.cell_at_place c a in
    let place = p.place_of_cell k (omega arith) in
    elim (cases_eq c x) [
      | inl e ↦
          let here = get_or-set_same before x v 0 (omega arith) in
          elim (cases_Bool (f.off x)) [
            | inl o ↦ grind (arith, nat_tests, p.coded.offs x in_it, along_off f (f.far x) x o)
            | inr o ↦ grind (arith, nat_tests, p.coded.offs x in_it, p.coded.sends x in_it o, exit_step n f p.falling x in_it o, ih (f.to x) (p.falling.inside x in_it o), p.falling.nearer x in_it o)
          ]
      | inr e ↦ let j = cases_eq (f.far c) k in get_or-set_other before x c v 0 e ∙ ih c a (grind arith)
    ]

pub pass_finds_exits : PassFindsExits
pass_finds_exits n f flow order xs p long c a = pass n f flow order xs p long n (omega arith) c a (p.place c a)
