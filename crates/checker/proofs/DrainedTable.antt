-- The table that draining gives, read back row by row, and that it is accepted.
use Rattle.std.proofs.Common.{◌≡◌, ℕ, zero, suc, ◌+◌, ◌*◌, ◌^◌, ◌<◌, ◌≤◌, max, false, eqb, List, length, get_or, take, drop, sym, refl, ap, ◌∙◌, inl, inr, arith, eqb-true}
use Rattle.std.proofs.lemmas.List.{length-append, drop_at, take_all, take-append-le, drop-append-le, length-drop}
use Rattle.std.proofs.lemmas.Bool.{cases_Bool, cases_eq}
use Rattle.model.specs.Bytes.{count, four}
use Rattle.model.specs.Land.{Land}
use Rattle.model.specs.Terrain.{terrain, land}
use Rattle.model.specs.WellFormed.{WellFormed}
use Rattle.model.proofs.Positions.{every_cell_has_a_way}
use Rattle.flood.specs.Certified.{Certified}
use Rattle.flood.specs.Flooded.{table_of}
use Rattle.flood.specs.Levels.{Flow}
use Rattle.flood.specs.Right as run
use Rattle.flood.specs.Run.{none}
use Rattle.flood.proofs.Models.{models_right}
use Rattle.flood.proofs.Sums.{sum_same}
use Rattle.flood.proofs.Turns.{sound, small}
use Rattle.amounts.specs.Amounts.{Carried, sends}
use Rattle.amounts.specs.Joined.{joined}
use Rattle.amounts.specs.Promise.{flow_in, amount_in, table_row, table_bytes}
use Rattle.amounts.specs.Row.{eight, row_part, amount_at}
use Rattle.amounts.proofs.Accumulating.{rule_adds_up}
use Rattle.amounts.proofs.Passes.{ordered}
use Rattle.amounts.proofs.Promised.{amounts_low}
use Rattle.amounts.proofs.RowBytes.{RowValues, row_back}
use Rattle.checker.specs.Table.{flow_from}
use Rattle.checker.specs.Theorems.{DrainedAccepted, DrainedReadsBack}
use Rattle.checker.proofs.Meaning.{accepted_if_right}

-- rows of 20 bytes each, one after another
module _ (row : ℕ → List ℕ) (n : ℕ) (long : (c : ℕ) → c < n → length (row c) ≡ 20) where
  rows_long : (k : ℕ) → k ≤ n → length (joined row k) ≡ 20 * k
  rows_long zero a = refl
  rows_long (suc k) a = length-append (joined row k) (row k) ∙ omega (arith, rows_long k (omega arith), long k (omega arith))

  rows_part : (k c : ℕ) → k ≤ n → c < k → row_part (joined row k) c ≡ row c
  rows_part zero c a b = absurd (omega arith)
  rows_part (suc k) c a b =
      let front = joined row k in
      let all = rows_long k (omega arith) in
      elim (cases_eq c k) [
        | inl same ↦
            ap (take 20) (drop_at front (row k) (20 * c) (all ∙ ap (λ x. 20 * x) (sym same))) ∙ (take_all 20 (row k) (omega (arith, long k (omega arith))) ∙ ap row (sym same))
        | inr other ↦
            let within : 20 * c + 20 ≤ length front = omega arith in
            ap (take 20) (drop-append-le (20 * c) front (row k) (omega arith)) ∙
            (take-append-le 20 (drop (20 * c) front) (row k) (omega (arith, length-drop (20 * c) front)) ∙ rows_part k c (omega arith) (omega arith))
      ]

-- two flows that agree on n cells
record Same (n : ℕ) (f g : Flow) : Type 0 where
  level : (c : ℕ) → c < n → g.level c ≡ f.level c
  off : (c : ℕ) → c < n → g.off c ≡ f.off c
  to : (c : ℕ) → c < n → g.to c ≡ f.to c
  far : (c : ℕ) → c < n → g.far c ≡ f.far c

-- what is certified of one is certified of the other
same_certified : (l : Land) (f g : Flow) → Same l.cells f g → Certified l f → Certified l g
same_certified l f g s p =
    let on = λ (c : ℕ) (a : c < l.cells) (e : g.off c ≡ false). sym (s.off c a) ∙ e in
    let inside = λ (c : ℕ) (a : c < l.cells) (e : g.off c ≡ false). p.inside c a (on c a e) in
    record {
      above = λ c a. omega (arith, p.above c a, s.level c a);
      sends_off = λ c a. s.off c a ∙ p.sends_off c a;
      outlet_level = λ c a e. s.level c a ∙ p.outlet_level c a (sym (s.off c a) ∙ e);
      inside = λ c a e. omega (arith, s.to c a, inside c a e);
      beside = λ c a e. ap (l.next c) (s.to c a) ∙ p.beside c a (on c a e);
      nearer = λ c a e. omega (arith, p.nearer c a (on c a e), s.far c a, s.far (f.to c) (inside c a e), ap g.far (s.to c a));
      fills = λ c a e. s.level c a ∙ (p.fills c a (on c a e) ∙ ap (max (l.height c)) (sym (ap g.level (s.to c a) ∙ s.level (f.to c) (inside c a e))));
      unfilled = λ c d a b next low. p.unfilled c d a b next (omega (arith, s.level c a, s.level d b, low)) ∙ sym (s.level c a);
    }

same_carried : (l : Land) (f g : Flow) (x y : ℕ → ℕ) → Same l.cells f g → ((c : ℕ) → c < l.cells → y c ≡ x c) → Carried l f x → Carried l g y
same_carried l f g x y s e p = record {
  each = λ c a. e c a ∙ (p.each c a ∙ ap (λ z. l.rain c + z) (sum_same (sends f x c) (sends g y c) l.cells (λ d b.
      let off = s.off d b in
      let to = s.to d b in
      let amount = e d b in
      rw (off, to, amount) refl)));
}

module _ (bs : List ℕ) (wf : WellFormed bs) where
  right : run.Right (land bs) (table_of bs)
  right = models_right (terrain bs) (sound bs wf)

  -- the numbers of a row fit their bytes
  level_low : (c : ℕ) → c < count bs → get_or (table_of bs).levels c 0 ≤ 1000000
  level_low c a = (right.drained.level c a).least 1000000 (every_cell_has_a_way (terrain bs) 1000000 wf.heights c a)

  sends_low : (c : ℕ) → c < count bs → get_or (table_of bs).flow c 0 < 2 ^ 32
  sends_low c a = elim (cases_Bool (eqb (get_or (table_of bs).flow c 0) none)) [
    | inl off ↦ omega (arith, eqb-true _ _ off)
    | inr on ↦ omega (arith, small bs wf, right.certified.inside c a on)
  ]

  values : (c : ℕ) → c < count bs → RowValues (table_row bs c) (get_or (table_of bs).levels c 0) (get_or (table_of bs).flow c 0) (get_or (table_of bs).places c 0) (amount_in bs c)
  values c a = row_back _ _ _ _ (omega (arith, level_low c a)) (sends_low c a) (omega (arith, small bs wf, right.lined.place c a)) (omega (arith, amounts_low bs wf c))

  part : (c : ℕ) → c < count bs → row_part (table_bytes bs) c ≡ table_row bs c
  part c a = rows_part (table_row bs) (count bs) (λ d b. (values d b).long) (count bs) c (omega arith) a

  read_back : Same (count bs) (flow_in bs) (flow_from (table_bytes bs))
  read_back = record {
    level = λ c a. ap four (part c a) ∙ (values c a).in_level;
    off = λ c a. ap (λ p. eqb (four (drop 4 p)) none) (part c a) ∙ ap (λ x. eqb x none) (values c a).in_sends;
    to = λ c a. ap (λ p. four (drop 4 p)) (part c a) ∙ (values c a).in_sends;
    far = λ c a. ap (λ p. four (drop 8 p)) (part c a) ∙ (values c a).in_place;
  }

  amount_back : (c : ℕ) → c < count bs → amount_at (table_bytes bs) c ≡ amount_in bs c
  amount_back c a = ap (λ p. eight (drop 12 p)) (part c a) ∙ (values c a).in_amount

pub drained_reads_back : DrainedReadsBack
drained_reads_back bs wf = record {
  long = rows_long (table_row bs) (count bs) (λ d b. (values bs wf d b).long) (count bs) (omega arith);
  level = (read_back bs wf).level;
  sends = (read_back bs wf).to;
  place = (read_back bs wf).far;
  amount = amount_back bs wf;
}

pub drained_accepted : DrainedAccepted
drained_accepted bs wf = (accepted_if_right bs (table_bytes bs)).1 (record {
  formed = wf;
  whole = (drained_reads_back bs wf).long;
  certified = same_certified (land bs) (flow_in bs) (flow_from (table_bytes bs)) (read_back bs wf) (right bs wf).certified;
  carried = same_carried (land bs) (flow_in bs) (flow_from (table_bytes bs)) (amount_in bs) (amount_at (table_bytes bs)) (read_back bs wf) (amount_back bs wf) (rule_adds_up (land bs) (flow_in bs) (table_of bs).flow (table_of bs).order (ordered bs wf));
})
