-- What the first fault of a file says of the file.
use Rattle.std.proofs.Common.{◌≡◌, ℕ, zero, suc, ◌+◌, ◌<◌, ◌≤◌, ◌⊎◌, List, length, Some, None, Option, sym, refl, subst, inl, inr, add-suc, arith}
use Rattle.std.proofs.lemmas.Bool.{cases_eq}
use Rattle.std.proofs.lemmas.Bool.Decides.{nat_tests}
use Rattle.model.specs.declared.refusal.Side.TheVariants.{Columns, Rows}
use Rattle.model.specs.declared.refusal.Refusal.{Refusal}
use Rattle.model.specs.declared.refusal.Refusal.TheVariants.{Length, Size, Value}
use Rattle.model.specs.Bytes.{columns, rows, count, start, cell_part, if_whole, height_in, rain_in, mark_in, height_at, rain_at, mark_at}
use Rattle.model.specs.Refusals.{place}
use Rattle.model.specs.Faults.{or_else, head_fault, field_fault, cell_fault, cells_fault, end_fault, fault}
use Rattle.model.specs.WellFormed.{Fits, WholeBefore, Wrong, RefusedAt}
use Rattle.model.proofs.Parts.{part_length}
use Rattle.model.proofs.Taken.{Faultless, faultless, each_cell}

-- which of two is the first fault
first_some : (a b : Option Refusal) (r : Refusal) → or_else a b ≡ Some r → (a ≡ Some r) ⊎ ((a ≡ None) × (b ≡ Some r))
first_some None b r e = inr (refl, e)
first_some (Some a) b r e = inl e

-- the cell of the first fault of k cells from c on
cells_where : (bs : List ℕ) (k c : ℕ) (r : Refusal) → cells_fault bs c k ≡ Some r →
    (d : ℕ) × (c ≤ d) × (d < c + k) × (cell_fault bs d ≡ Some r) × ((e : ℕ) → c ≤ e → e < d → cell_fault bs e ≡ None)
unfolding cells_fault
cells_where bs zero c r e = absurd (grind arith)
cells_where bs (suc k) c r e = elim (first_some (cell_fault bs c) (cells_fault bs (suc c) k) r e) [
  | inl here ↦ (c, omega arith, omega (arith, add-suc c k), here, λ x l u. absurd (omega arith))
  | inr later ↦
      let q = cells_where bs k (suc c) r later.1 in (
        q.0,
        omega (arith, q.1),
        omega (arith, q.2, add-suc c k),
        q.3,
        λ x l u. elim (cases_eq x c) [
          | inl same ↦ subst (λ (y : ℕ). cell_fault bs y ≡ None) (sym same) later.0
          | inr other ↦ q.4 x (omega arith) u
        ],
      )
]

-- a field that is not wholly there, or is out of range
field_where : (p : List ℕ) (n v most at end : ℕ) (r : Refusal) → field_fault (if_whole p n v) most at end ≡ Some r →
    ((length p < n) × (r ≡ Length end)) ⊎ ((n ≤ length p) × (most < v) × (r ≡ Value at))
field_where p n v most at end r e = grind (arith, nat_tests)

field_none : (p : List ℕ) (n v most at end : ℕ) → field_fault (if_whole p n v) most at end ≡ None → (n ≤ length p) × (v ≤ most)
field_none p n v most at end e = grind (arith, nat_tests)

-- what is wrong with a cell, and with none of its fields before
pub record CellWrong (bs : List ℕ) (d : ℕ) (r : Refusal) : Type 0 where
  pub there : place r ≤ length bs
  pub within : place r < start d + 9
  pub height : start d + 4 ≤ place r → height_at bs d ≤ 1000000
  pub rain : start d + 8 ≤ place r → rain_at bs d ≤ 1000000
  pub wrong : d < count bs → Wrong bs r

-- the file ends in the cell
ends_in : (bs : List ℕ) (d : ℕ) (r : Refusal) → r ≡ Length (length bs) → length (cell_part bs d) < 9 → start d ≤ length bs →
    (4 ≤ length (cell_part bs d) → height_at bs d ≤ 1000000) → (8 ≤ length (cell_part bs d) → rain_at bs d ≤ 1000000) → CellWrong bs d r
ends_in bs d r is short from height rain =
    let size = part_length bs d in
    subst (λ (x : Refusal). CellWrong bs d x) (sym is)
    (record { there = omega arith; within = omega arith; height = λ l. height (omega arith); rain = λ l. rain (omega arith); wrong = λ l. inl (refl, inr (omega arith)) })

cell_wrong : (bs : List ℕ) (d : ℕ) (r : Refusal) → cell_fault bs d ≡ Some r → start d ≤ length bs → CellWrong bs d r
cell_wrong bs d r e from =
    let p = cell_part bs d in
    let size = part_length bs d in
    let end = length bs in
    let heights = field_fault (height_in p) 1000000 (start d) end in
    let rains = field_fault (rain_in p) 1000000 (start d + 4) end in
    let marks = field_fault (mark_in p) 1 (start d + 8) end in
    elim (first_some heights (or_else rains marks) r e) [
      | inl h ↦ elim (field_where p 4 (height_at bs d) 1000000 (start d) end r h) [
        | inl short ↦ ends_in bs d r short.1 (omega arith) from (λ l. absurd (omega arith)) (λ l. absurd (omega arith))
        | inr high ↦ subst (λ (x : Refusal). CellWrong bs d x) (sym high.2)
            (record { there = omega arith; within = omega arith; height = λ l. absurd (omega arith); rain = λ l. absurd (omega arith); wrong = λ l. (d, l, inl (refl, high.1)) })
      ]
      | inr g ↦
          let height = field_none p 4 (height_at bs d) 1000000 (start d) end g.0 in
          elim (first_some rains marks r g.1) [
            | inl h ↦ elim (field_where p 8 (rain_at bs d) 1000000 (start d + 4) end r h) [
              | inl short ↦ ends_in bs d r short.1 (omega arith) from (λ l. height.1) (λ l. absurd (omega arith))
              | inr high ↦ subst (λ (x : Refusal). CellWrong bs d x) (sym high.2)
                  (record { there = omega arith; within = omega arith; height = λ l. height.1; rain = λ l. absurd (omega arith); wrong = λ l. (d, l, inr (inl (refl, high.1))) })
            ]
            | inr f ↦
                let rain = field_none p 8 (rain_at bs d) 1000000 (start d + 4) end f.0 in
                elim (field_where p 9 (mark_at bs d) 1 (start d + 8) end r f.1) [
                  | inl short ↦ ends_in bs d r short.1 short.0 from (λ l. height.1) (λ l. rain.1)
                  | inr high ↦ subst (λ (x : Refusal). CellWrong bs d x) (sym high.2)
                      (record { there = omega arith; within = omega arith; height = λ l. height.1; rain = λ l. rain.1; wrong = λ l. (d, l, inr (inr (refl, high.1))) })
                ]
          ]
    ]

-- where the sizes are in range, and the cells before d without a fault, what is wrong with d is where the file is first wrong
whole_to_cell : (bs : List ℕ) (d : ℕ) (r : Refusal) → Fits (columns bs) → Fits (rows bs) → ((e : ℕ) → e < d → Faultless bs e) → CellWrong bs d r → WholeBefore bs (place r)
whole_to_cell bs d r wide tall before w = record {
  there = w.there;
  wide = λ _ _. wide;
  tall = λ _ _. tall;
  heights = λ c l u. elim (cases_eq c d) [ inl same ↦ subst (λ (x : ℕ). height_at bs x ≤ 1000000) (sym same) (w.height (omega arith)) | inr other ↦ (before c (omega (arith, w.within))).height ];
  rains = λ c l u. elim (cases_eq c d) [ inl same ↦ subst (λ (x : ℕ). rain_at bs x ≤ 1000000) (sym same) (w.rain (omega arith)) | inr other ↦ (before c (omega (arith, w.within))).rain ];
  marks = λ c l u. (before c (omega (arith, w.within))).mark;
}

-- a head without a fault
head_none : (bs : List ℕ) → head_fault bs ≡ None → (4 ≤ length bs) × Fits (columns bs) × Fits (rows bs)
head_none bs e = (grind (arith, nat_tests), (grind (arith, nat_tests), grind (arith, nat_tests)), (grind (arith, nat_tests), grind (arith, nat_tests)))

-- a size that does not fit
abbrev Unfit : ℕ → Type 0
Unfit n = (n ≡ 0) ⊎ (400 < n)

unfit : (n : ℕ) → Unfit n → Fits n → ⊥
unfit n u f = grind arith

-- what is wrong with a head
head_cases : (bs : List ℕ) (r : Refusal) → head_fault bs ≡ Some r →
    ((length bs < 4) × (r ≡ Length (length bs))) ⊎ ((Unfit (columns bs) × (r ≡ Size Columns)) ⊎ ((1 ≤ columns bs) × (columns bs ≤ 400) × Unfit (rows bs) × (4 ≤ length bs) × (r ≡ Size Rows)))
head_cases bs r e = grind (arith, nat_tests)

-- no cell begins before place 4
whole_to : (bs : List ℕ) (p : ℕ) → p ≤ length bs → (4 ≤ length bs → p < 4) → (4 ≤ length bs → 2 ≤ p → Fits (columns bs)) → WholeBefore bs p
whole_to bs p there head wide = record {
  there = there;
  wide = wide;
  tall = λ l u. absurd (omega (arith, head l));
  heights = λ c l u. absurd (omega (arith, head (omega arith)));
  rains = λ c l u. absurd (omega (arith, head (omega arith)));
  marks = λ c l u. absurd (omega (arith, head (omega arith)));
}

-- a file is wrong in its head, in a cell or at its end
head_where : (bs : List ℕ) (r : Refusal) → head_fault bs ≡ Some r → RefusedAt bs r
head_where bs r e =
    elim (head_cases bs r e) [
      | inl short ↦ subst (RefusedAt bs) (sym short.1) (record { before = whole_to bs (length bs) (omega arith) (λ l. absurd (omega arith)) (λ l _. absurd (omega arith)); wrong = inl (refl, inl short.0) })
      | inr g ↦ elim g [
        | inl w ↦ subst (RefusedAt bs) (sym w.1) (record { before = whole_to bs 0 (omega arith) (λ l. omega arith) (λ l u. absurd (omega arith)); wrong = unfit (columns bs) w.0 })
        | inr h ↦ subst (RefusedAt bs) (sym h.4) (record { before = whole_to bs 2 (omega arith) (λ l. omega arith) (λ l u. (h.0, h.1)); wrong = unfit (rows bs) h.2 })
      ]
    ]

starts_in : (bs : List ℕ) (d : ℕ) → 4 ≤ length bs → ((e : ℕ) → e < d → Faultless bs e) → start d ≤ length bs
starts_in bs zero head before = omega arith
starts_in bs (suc d) head before = omega (arith, (before d (omega arith)).whole)

cell_where : (bs : List ℕ) (r : Refusal) → head_fault bs ≡ None → cells_fault bs 0 (count bs) ≡ Some r → RefusedAt bs r
cell_where bs r head e =
    let q = cells_where bs (count bs) 0 r e in
    let sizes = head_none bs head in
    let before : (x : ℕ) → x < q.0 → Faultless bs x = λ x l. faultless bs x (q.4 x (omega arith) l) in
    let w = cell_wrong bs q.0 r q.3 (starts_in bs q.0 sizes.0 before) in
    record { before = whole_to_cell bs q.0 r sizes.1 sizes.2 before w; wrong = w.wrong (omega (arith, q.2)) }

end_where : (bs : List ℕ) (r : Refusal) → head_fault bs ≡ None → cells_fault bs 0 (count bs) ≡ None → end_fault bs ≡ Some r → RefusedAt bs r
end_where bs r head none e =
    let sizes = head_none bs head in
    let cell : (c : ℕ) → c < count bs → Faultless bs c = λ c l. faultless bs c (each_cell bs (count bs) 0 c none (omega arith) (omega arith)) in
    let past : (r ≡ Length (start (count bs))) × (start (count bs) < length bs) = (grind (arith, nat_tests), grind (arith, nat_tests)) in
    let before : WholeBefore bs (start (count bs)) = record {
      there = omega (arith, past.1);
      wide = λ _ _. sizes.1;
      tall = λ _ _. sizes.2;
      heights = λ c l _. (cell c l).height;
      rains = λ c l _. (cell c l).rain;
      marks = λ c l _. (cell c l).mark;
    } in
    subst (RefusedAt bs) (sym past.0) (record { before = before; wrong = inr (refl, past.1) })

pub refused_at : (bs : List ℕ) (r : Refusal) → Some r ≡ fault bs → RefusedAt bs r
refused_at bs r e =
    let cells = cells_fault bs 0 (count bs) in
    elim (first_some (head_fault bs) (or_else cells (end_fault bs)) r (sym e)) [
      | inl h ↦ head_where bs r h
      | inr g ↦ elim (first_some cells (end_fault bs) r g.1) [ inl h ↦ cell_where bs r g.0 h | inr f ↦ end_where bs r g.0 f.0 f.1 ]
    ]
