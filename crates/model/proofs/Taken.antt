-- A file without a fault is well formed, and a well-formed one has no fault.
use Rattle.std.proofs.Common.{◌≡◌, ℕ, zero, suc, ◌+◌, ◌-◌, ◌*◌, ◌<◌, ◌≤◌, false, List, length, is_some, Some, None, Option, refl, ap, ◌∙◌, subst, inl, inr, add-suc, mul-pos, arith}
use Rattle.std.proofs.lemmas.Bool.{cases_lt}
use Rattle.std.proofs.lemmas.Bool.Decides.{nat_tests}
use Rattle.model.specs.declared.refusal.Refusal.{Refusal}
use Rattle.model.proofs.Parts.{part_length}
use Rattle.model.specs.Bytes.{columns, rows, count, start, cell_part, height_at, rain_at, mark_at}
use Rattle.model.specs.Faults.{or_else, head_fault, cell_fault, cells_fault, end_fault, fault}
use Rattle.model.specs.WellFormed.{WellFormed, TakenIfWellFormed}

-- neither of two has a fault where the first of them is none
pub both_none : (a b : Option Refusal) → or_else a b ≡ None → (a ≡ None) × (b ≡ None)
both_none None b e = (refl, e)
both_none (Some r) b e = grind arith

none_is : (o : Option Refusal) → is_some o ≡ false → o ≡ None
none_is None e = refl
none_is (Some r) e = absurd (grind arith)

-- what a cell without a fault has
pub record Faultless (bs : List ℕ) (c : ℕ) : Type 0 where
  pub whole : start c + 9 ≤ length bs
  pub height : height_at bs c ≤ 1000000
  pub rain : rain_at bs c ≤ 1000000
  pub mark : mark_at bs c ≤ 1

pub faultless : (bs : List ℕ) (c : ℕ) → cell_fault bs c ≡ None → Faultless bs c
faultless bs c e =
    let size = part_length bs c in
    let long : 9 ≤ length (cell_part bs c) = grind (arith, nat_tests) in
    record { whole = omega arith; height = grind (arith, nat_tests); rain = grind (arith, nat_tests); mark = grind (arith, nat_tests) }

pub no_cell_fault : (bs : List ℕ) (c : ℕ) → Faultless bs c → cell_fault bs c ≡ None
no_cell_fault bs c f =
    let size = part_length bs c in
    let long : length (cell_part bs c) ≡ 9 = omega arith in
    grind (arith, nat_tests)

-- none of the k cells from c on has a fault where their first is none
pub each_cell : (bs : List ℕ) (k c d : ℕ) → cells_fault bs c k ≡ None → c ≤ d → d < c + k → cell_fault bs d ≡ None
unfolding cells_fault
each_cell bs zero c d e l u = absurd (omega arith)
each_cell bs (suc k) c d e l u =
    let p = both_none (cell_fault bs c) (cells_fault bs (suc c) k) e in
    elim (cases_lt c d) [
      | inl later ↦ each_cell bs k (suc c) d p.1 later (omega (arith, add-suc c k))
      | inr here ↦ let same : c ≡ d = omega arith in subst (λ (x : ℕ). cell_fault bs x ≡ None) same p.0
    ]

pub no_cells_fault : (bs : List ℕ) (k c : ℕ) → ((d : ℕ) → c ≤ d → d < c + k → cell_fault bs d ≡ None) → cells_fault bs c k ≡ None
unfolding cells_fault
no_cells_fault bs zero c each = refl
no_cells_fault bs (suc k) c each =
    ap (λ o. or_else o (cells_fault bs (suc c) k)) (each c (omega arith) (omega (arith, add-suc c k))) ∙
    no_cells_fault bs k (suc c) (λ d l u. each d (omega arith) (omega (arith, add-suc c k)))

-- a file without a fault, part by part
pub record Passed (bs : List ℕ) : Type 0 where
  pub head : head_fault bs ≡ None
  pub cells : (c : ℕ) → c < count bs → Faultless bs c
  pub end : end_fault bs ≡ None

pub passed : (bs : List ℕ) → fault bs ≡ None → Passed bs
passed bs e =
    let p = both_none (head_fault bs) (or_else (cells_fault bs 0 (count bs)) (end_fault bs)) e in
    let q = both_none (cells_fault bs 0 (count bs)) (end_fault bs) p.1 in
    record { head = p.0; cells = λ c l. faultless bs c (each_cell bs (count bs) 0 c q.0 (omega arith) (omega arith)); end = q.1 }

-- two sizes in range give one cell at least
pub some_cell : (w h : ℕ) → 1 ≤ w → 1 ≤ h → 1 ≤ w * h
some_cell (suc w) (suc h) a b = mul-pos a b
some_cell zero h a b = absurd (omega arith)
some_cell (suc w) zero a b = absurd (omega arith)

pub well_formed : (bs : List ℕ) → fault bs ≡ None → WellFormed bs
well_formed bs e =
    let p = passed bs e in
    let wide : (1 ≤ columns bs) × (columns bs ≤ 400) = (grind (arith, nat_tests, p.head), grind (arith, nat_tests, p.head)) in
    let tall : (1 ≤ rows bs) × (rows bs ≤ 400) = (grind (arith, nat_tests, p.head), grind (arith, nat_tests, p.head)) in
    let some = some_cell (columns bs) (rows bs) wide.0 tall.0 in
    let last = p.cells (count bs - 1) (omega arith) in
    let most : length bs ≤ start (count bs) = grind (arith, nat_tests, p.end) in
    record {
      wide = wide;
      tall = tall;
      long = omega (arith, last.whole);
      heights = λ c l. (p.cells c l).height;
      rains = λ c l. (p.cells c l).rain;
      marks = λ c l. (p.cells c l).mark;
    }

pub taken : (bs : List ℕ) → WellFormed bs → fault bs ≡ None
taken bs f =
    let head : head_fault bs ≡ None = grind (arith, nat_tests, f.wide, f.tall, f.long) in
    let cell : (c : ℕ) → c < count bs → cell_fault bs c ≡ None = λ c l. no_cell_fault bs c (record { whole = omega (arith, f.long); height = f.heights c l; rain = f.rains c l; mark = f.marks c l }) in
    let cells = no_cells_fault bs (count bs) 0 (λ d l u. cell d (omega arith)) in
    let end : end_fault bs ≡ None = grind (arith, nat_tests, f.long) in
    ap (λ o. or_else o (or_else (cells_fault bs 0 (count bs)) (end_fault bs))) head ∙ (ap (λ o. or_else o (end_fault bs)) cells ∙ end)

pub taken_if_well_formed : TakenIfWellFormed
taken_if_well_formed bs = (well_formed bs, taken bs)

-- what a model's bytes are
pub formed : (bs : List ℕ) → is_some (fault bs) ≡ false → WellFormed bs
formed bs e = well_formed bs (none_is (fault bs) e)
