-- The way of a cell's water, cell after cell.
use Rattle.std.proofs.Common.{◌≡◌, ℕ, zero, suc, ◌-◌, ◌<◌, ◌≤◌, true, false, ◌∷◌, length, get_or, refl, ap, ◌∙◌, inl, inr, arith}
use Rattle.std.proofs.lemmas.Bool.{cases_Bool}
use Rattle.model.specs.Land.{Land}
use Rattle.flood.specs.Levels.{Flow, Drained}
use Rattle.flood.proofs.Comparing.{above}
use Rattle.amounts.specs.Amounts.{Acyclic}
use Rattle.basins.specs.Exits.{along, way_of, way}
use Rattle.basins.specs.Promises.{WaysLead}
use Rattle.basins.proofs.Exits.{near_off}

-- the cells of a way are where the water is after so many steps
way_at : (f : Flow) (k c i : ℕ) → i < length (way_of f k c) → get_or (way_of f k c) i 0 ≡ along f i c
unfolding way_of along
way_at f zero c zero a = refl
way_at f zero c (suc i) a = absurd (omega arith)
way_at f (suc k) c zero a = refl
way_at f (suc k) c (suc i) a = let ih = way_at f k (f.to c) i in let o = cases_Bool (f.off c) in grind arith

way_some : (f : Flow) (k c : ℕ) → 0 < length (way_of f k c)
unfolding way_of
way_some f zero c = omega arith
way_some f (suc k) c = omega arith

way_last : (f : Flow) (k c : ℕ) → get_or (way_of f k c) (length (way_of f k c) - 1) 0 ≡ along f k c
unfolding way_of along
way_last f zero c = refl
way_last f (suc k) c = elim (cases_Bool (f.off c)) [
  | inl o ↦ rw o refl
  | inr o ↦
      let rest = way_of f k (f.to c) in
      let e : suc (length rest) - 1 ≡ suc (length rest - 1) = omega (arith, way_some f k (f.to c)) in
      rw o (rw e (way_last f k (f.to c)))
]

-- a cell that is not the last sends to the next
way_step : (f : Flow) (k c i : ℕ) → suc i < length (way_of f k c) → (f.off (along f i c) ≡ false) × (along f (suc i) c ≡ f.to (along f i c))
unfolding way_of along
way_step f zero c i a = absurd (omega arith)
way_step f (suc k) c zero a = let o = cases_Bool (f.off c) in grind arith
way_step f (suc k) c (suc i) a = let ih = way_step f k (f.to c) i in let o = cases_Bool (f.off c) in grind arith

module _ (l : Land) (f : Flow) (d : Drained l f) where
  along_cell : (i c : ℕ) → c < l.cells → along f i c < l.cells
  unfolding along
  along_cell zero c a = a
  along_cell (suc i) c a = let ih = along_cell i (f.to c) in grind (arith, d.goes c)

  along_level : (i c : ℕ) → c < l.cells → f.level (along f i c) ≤ f.level c
  unfolding along
  along_level zero c a = omega arith
  along_level (suc i) c a = let ih = along_level i (f.to c) in grind (arith, d.goes c)

pub ways_lead : WaysLead
unfolding along
ways_lead l f d c a =
    let n = f.far c in
    let at = way_at f n c in
    let cell : (i : ℕ) → along f i c < l.cells = λ i. along_cell l f d i c a in
    record {
      some = way_some f n c;
      first = way_at f n c 0 (way_some f n c);
      last = way_last f n c;
      cell = λ k b. rw (at k b) (cell k);
      next = λ k b. let s = way_step f n c k b in rw (at k (omega arith), at (suc k) b, s.1) (d.goes (along f k c) (cell k) s.0).1;
      falls = λ k b. let s = way_step f n c k b in rw (at k (omega arith), at (suc k) b, s.1) (d.goes (along f k c) (cell k) s.0).2;
      nearer = λ k b. let s = way_step f n c k b in rw (at k (omega arith), at (suc k) b, s.1) (d.goes (along f k c) (cell k) s.0).3;
      level = λ k b. rw (at k b) (along_level l f d k c a);
      height = λ k b. rw (at k b) (omega (arith, along_level l f d k c a, above l f (along f k c) d (cell k)));
    }

ends_at : (f : Flow) (k c : ℕ) → f.off c ≡ true → length (way_of f k c) ≡ 1
unfolding way_of
ends_at f zero c o = refl
ends_at f (suc k) c o = rw o refl

-- a way that is long enough is the whole way
module _ (n : ℕ) (f : Flow) (p : Acyclic n f) where
  way_same : (j k c : ℕ) → c < n → f.far c ≤ j → f.far c ≤ k → way_of f j c ≡ way_of f k c
  unfolding way_of
  way_same zero zero c a x y = refl
  way_same zero (suc k) c a x y = rw (near_off n f p c a x) refl
  way_same (suc j) zero c a x y = rw (near_off n f p c a y) refl
  way_same (suc j) (suc k) c a x y = elim (cases_Bool (f.off c)) [
    | inl o ↦ rw o refl
    | inr o ↦ let b = p.nearer c a o in rw o (ap (λ w. c ∷ w) (way_same j k (f.to c) (p.inside c a o) (omega arith) (omega arith)))
  ]

  -- the way of an exit is the exit, and that of another cell goes on as the way of the cell that it sends to
  pub way_off : (c : ℕ) → f.off c ≡ true → length (way f c) ≡ 1
  way_off c o = ends_at f (f.far c) c o

  pub way_on : (c : ℕ) → c < n → f.off c ≡ false → length (way f c) ≡ suc (length (way f (f.to c)))
  unfolding way_of
  way_on c a o =
      let b = p.nearer c a o in
      ap length (way_same (f.far c) (suc (f.far c)) c a (omega arith) (omega arith)) ∙
      rw o (ap (λ w. suc (length w)) (way_same (f.far c) (f.far (f.to c)) (f.to c) (p.inside c a o) (omega arith) (omega arith)))

-- no way has more cells than its first is far from leaving, and one
pub way_short : (f : Flow) (k c : ℕ) → length (way_of f k c) ≤ suc k
unfolding way_of
way_short f zero c = omega arith
way_short f (suc k) c = let ih = way_short f k (f.to c) in let o = cases_Bool (f.off c) in grind arith
