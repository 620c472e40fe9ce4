-- What is known where the rain of one cell was changed in the bytes, and the slices still hold the table before.
use Rattle.std.proofs.Common.{◌≡◌, ℕ, ◌+◌, ◌-◌, ◌<◌, ◌≤◌, true, cond, eqb, List, ◌++◌, length, get_or, drop, Some, None, Ok, nat_lt, sym, refl, ap, ◌∙◌, subst, ap₂, inl, inr, arith}
use Rattle.std.proofs.lemmas.List.{get_or_append_left}
use Rattle.std.proofs.lemmas.Bool.{cases_Bool}
use Rattle.std.proofs.lemmas.Bool.Decides.{nat_tests}
use Rattle.model.specs.declared.units.Amount.{Amount}
use Rattle.model.specs.declared.units.Cell.{Cell}
use Rattle.model.specs.Bytes.{count, start, rain_at}
use Rattle.model.specs.Edits.{put_four}
use Rattle.model.specs.Faults.{fault}
use Rattle.model.specs.Land.{Land}
use Rattle.model.specs.Of.{Sized}
use Rattle.model.specs.declared.slices.Slices.{Slices}
use Rattle.model.specs.Slices.{lists_of}
use Rattle.model.specs.Terrain.{land}
use Rattle.model.specs.WellFormed.{WellFormed}
use Rattle.model.proofs.Taken.{well_formed}
use Rattle.flood.specs.Flooded.{table_of, Written}
use Rattle.flood.specs.Levels.{Flow}
use Rattle.flood.specs.Run.{flow_of}
use Rattle.flood.specs.Sums.{sum}
use Rattle.flood.proofs.Sums.{le_sum, sum_same}
use Rattle.amounts.specs.Again.{levels_changed}
use Rattle.amounts.specs.Amounts.{Carried, all_rain, sends, sent}
use Rattle.amounts.specs.Passing.{table_amounts}
use Rattle.amounts.specs.Promise.{flow_in, amount_in}
use Rattle.amounts.proofs.Carrying.{nothing_lost}
use Rattle.amounts.proofs.Passes.{ordered, rain_low}
use Rattle.amounts.proofs.Promised.{long_amounts, amounts_low, carried}
use Rattle.amounts.proofs.Sums.{sum_more}
use Rattle.changes.specs.declared.answer.Changed.{Changed}
use Rattle.changes.specs.declared.applying.Current.{Current}
use Rattle.changes.specs.declared.asked.Change.TheVariants.{Rain}
use Rattle.changes.specs.Applied.{allowed, changed_by, leaves_in, levels_between, outcome, Tabled}
use Rattle.changes.specs.Current.{IsDrained, SameLent, Changes}
use Rattle.changes.specs.Moved.{OffAt}
use Rattle.changes.proofs.Edits.{kept_count, rain_rewritten, rain_keeps_table}
use Rattle.changes.proofs.Holding.{enough, none_changed}
use Rattle.changes.proofs.Outcomes.{made_bytes, refused_bytes, made_outcome, changed_sized, changed_taken, now_changes}

-- where the rain of c alone is another, the old amounts add up but at c
off_begins : (l m : Land) (f : Flow) (g : ℕ → ℕ) (c old new : ℕ) → m.cells ≡ l.cells → c < l.cells → Carried l f g → l.rain c ≡ old → m.rain c ≡ new →
    ((d : ℕ) → d < l.cells → (d ≡ c → ⊥) → m.rain d ≡ l.rain d) → OffAt m f g c old new
off_begins l m f g c old new same inside q was is others = record {
  here = omega (arith, q.each c inside, ap (sent f g c) same);
  there = λ d a ne. omega (arith, q.each d (omega arith), ap (sent f g d) same, others d (omega arith) ne);
}

-- and all the rain is more by the new and less by the old
rain_sum : (r s : ℕ → ℕ) (n c : ℕ) → c < n → ((d : ℕ) → d < n → (d ≡ c → ⊥) → s d ≡ r d) → sum s n + r c ≡ sum r n + s c
rain_sum r s n c inside others =
    let z : ℕ → ℕ = λ d. cond (eqb d c) 0 (r d) in
    let zero : z c ≡ 0 = grind (arith, nat_tests) in
    let by_r = sum_more z r n c inside zero (λ d a ne. grind (arith, nat_tests)) in
    let by_s = sum_more z s n c inside zero (λ d a ne. let e = others d a ne in grind (arith, nat_tests)) in
    omega arith

-- what leaves a model is what rains on it
pub leaves_all : (bs : List ℕ) → WellFormed bs → leaves_in bs ≡ all_rain (land bs) (count bs)
leaves_all bs wf = nothing_lost (land bs) (flow_in bs) (amount_in bs) (ordered bs wf).falling (carried bs wf)

pub leaves_low : (bs : List ℕ) → WellFormed bs → leaves_in bs ≤ 160000000000
leaves_low bs wf = omega (arith, leaves_all bs wf, rain_low bs wf)

module _ (bs cs : List ℕ) (c v : ℕ) (wf : WellFormed bs) (in_it : c < count bs) (low : v ≤ 1000000) (e : cs ≡ put_four bs (start c + 4) v) where
  pub rewritten_count : count cs ≡ count bs
  rewritten_count = let r = rain_rewritten bs c v wf in_it low in ap count e ∙ kept_count bs (put_four bs (start c + 4) v) (record { w = r.w; h = r.h; sound = r.sound })

  pub formed_again : WellFormed cs
  formed_again = subst WellFormed (sym e) (rain_rewritten bs c v wf in_it low).sound

  pub same_table : table_of cs ≡ table_of bs
  same_table = ap table_of e ∙ rain_keeps_table bs c v wf in_it low

  rain_here : rain_at cs c ≡ v
  rain_here = ap (λ b. rain_at b c) e ∙ ((rain_rewritten bs c v wf in_it low).rains c in_it ∙ grind (arith, nat_tests))

  rain_there : (d : ℕ) → d < count bs → (d ≡ c → ⊥) → rain_at cs d ≡ rain_at bs d
  rain_there d a ne = ap (λ b. rain_at b d) e ∙ ((rain_rewritten bs c v wf in_it low).rains d a ∙ grind (arith, nat_tests))

  -- what leaves is more by the new rain and less by the old
  pub leaves_moved : leaves_in cs + rain_at bs c ≡ leaves_in bs + v
  leaves_moved =
      let s = rain_sum (rain_at bs) (rain_at cs) (count bs) c in_it rain_there in
      omega (arith, s, rain_here, leaves_all bs wf, leaves_all cs formed_again, ap (all_rain (land cs)) rewritten_count)

  pub old_leaves : rain_at bs c ≤ leaves_in bs
  old_leaves = omega (arith, leaves_all bs wf, le_sum (rain_at bs) (count bs) c in_it)

-- a change of rain leaves what the rule gives
pub rain_stays : (bs : List ℕ) (c : Cell) (v : Amount) → WellFormed bs → table_of (changed_by bs (Some (Rain c v))) ≡ table_of bs
rain_stays bs c v wf = elim (cases_Bool (allowed bs (Rain c v))) [
  | inl may ↦ same_table bs _ c.0 v.0 wf (grind (arith, nat_tests)) (grind (arith, nat_tests)) (made_bytes bs (Rain c v) may)
  | inr not ↦ ap table_of (refused_bytes bs (Rain c v) not)
]

-- the rain of a cell was written into the bytes of a drained model: what moving the amounts asks for, and what it leaves
pub record Rained (m : Current) (s : Slices) (c : Cell) (v old : Amount) (cs : List ℕ) : Type 0 where
  pub sized : Sized m.grid cs
  pub taken : fault cs ≡ None
  pub cell : c.0 < count cs
  pub flow : s.flow.now ≡ (table_of cs).flow ++ drop (count cs) s.flow.now
  pub long : count cs ≤ length s.amounts.now
  pub rain : (old.0 ≤ 1000000) × (v.0 ≤ 1000000)
  pub low : (d : ℕ) → d < count cs → get_or s.amounts.now d 0 ≤ 160000000000
  pub off : OffAt (land cs) (flow_in cs) (λ d. get_or s.amounts.now d 0) c.0 old.0 v.0
  pub sum : m.leaves.0 + v.0 ≤ 160001000000
  pub rest : old.0 ≤ m.leaves.0 + v.0
  pub outcome : (r : Changed) → r.leaves.0 ≡ m.leaves.0 + v.0 - old.0 → r.levels ≡ 0 → Ok r ≡ outcome m.bytes.now (Rain c v)
  pub after : (k : Current) (t : Slices) → k.grid ≡ m.grid → k.bytes.now ≡ cs → k.leaves.0 ≡ m.leaves.0 + v.0 - old.0 → lists_of t ≡ record (lists_of s) { amounts = table_amounts cs ++ drop (count cs) s.amounts.now } → SameLent m k s t → Changes m (Some (Rain c v)) k s t

pub rained : (m : Current) (s : Slices) (c : Cell) (v old : Amount) (was cs : List ℕ) → IsDrained m (lists_of s) (lists_of s) → true ≡ allowed m.bytes.now (Rain c v) → cs ≡ changed_by m.bytes.now (Some (Rain c v)) →
    was ≡ m.bytes.now → old.0 ≡ cond (nat_lt c.0 (count was)) (rain_at was c.0) 0 → Rained m s c v old cs
rained m s c v old was cs d done e same rain =
    let bs = m.bytes.now in
    let wf = well_formed bs d.taken in
    let may = sym done in
    let in_it : c.0 < count bs = grind (arith, nat_tests) in
    let low : v.0 ≤ 1000000 = grind (arith, nat_tests) in
    let put = e ∙ made_bytes bs (Rain c v) may in
    let size = rewritten_count bs cs c.0 v.0 wf in_it low put in
    let table = same_table bs cs c.0 v.0 wf in_it low put in
    let is : rain_at bs c.0 ≡ old.0 = let at = subst (λ b. old.0 ≡ cond (nat_lt c.0 (count b)) (rain_at b c.0) 0) same rain in grind (arith, nat_tests) in
    let held : (k : ℕ) → k < count bs → get_or s.amounts.now k 0 ≡ amount_in bs k = λ k a. ap (λ xs. get_or xs k 0) d.tabled.poured ∙ get_or_append_left (table_amounts bs) _ 0 k (omega (arith, a, long_amounts bs wf)) in
    let g : ℕ → ℕ = λ k. get_or s.amounts.now k 0 in
    let add_up : Carried (land bs) (flow_in bs) g = record {
      each = λ k a. held k a ∙ ((carried bs wf).each k a ∙ ap (λ x. rain_at bs k + x) (sum_same (sends (flow_in bs) (amount_in bs) k) (sends (flow_in bs) g k) (count bs) (λ j b. ap (λ x. cond ((flow_in bs).off j) 0 (cond (eqb ((flow_in bs).to j) k) x 0)) (sym (held j b)))));
    } in
    let off : OffAt (land cs) (flow_in bs) g c.0 old.0 v.0 = off_begins (land bs) (land cs) (flow_in bs) g c.0 old.0 v.0 size in_it add_up is (rain_here bs cs c.0 v.0 wf in_it low put) (rain_there bs cs c.0 v.0 wf in_it low put) in
    let leaves : m.leaves.0 + v.0 - old.0 ≡ leaves_in cs = omega (arith, leaves_moved bs cs c.0 v.0 wf in_it low put, is, d.leaves) in
    let levels : 0 ≡ levels_between bs cs = sym (ap (λ t. levels_changed (table_of bs).levels t.levels (count bs)) table ∙ none_changed (table_of bs).levels (count bs)) in
    record {
      sized = changed_sized m s d (Rain c v) cs e;
      taken = changed_taken m s d (Rain c v) cs e;
      cell = omega (arith, in_it, size);
      flow = d.tabled.written.flow ∙ ap₂ (λ t n. t.flow ++ drop n s.flow.now) (sym table) (sym size);
      long = omega (arith, enough s.amounts.now _ _ (count bs) (long_amounts bs wf) d.tabled.poured, size);
      rain = (omega (arith, is, wf.rains c.0 in_it), low);
      low = λ k a. omega (arith, held k (omega (arith, a, size)), amounts_low bs wf k);
      off = subst (λ t. OffAt (land cs) (flow_of t) g c.0 old.0 v.0) (sym table) off;
      sum = omega (arith, d.leaves, leaves_low bs wf, low);
      rest = omega (arith, d.leaves, is, old_leaves bs cs c.0 v.0 wf in_it low put);
      outcome = λ r l k. made_outcome bs (Rain c v) r may (l ∙ (leaves ∙ ap leaves_in e)) (k ∙ (levels ∙ ap (levels_between bs) e));
      after = λ k t grid bytes left holds lent. now_changes m s d (Rain c v) cs e k t grid bytes (left ∙ leaves) (subst (Tabled cs (lists_of s)) (sym holds) (record {
        written = subst (λ r. Written r (count cs) s.levels.now s.flow.now s.work.now s.levels.now s.flow.now s.work.now) (sym table) (subst (λ q. Written (table_of bs) q s.levels.now s.flow.now s.work.now s.levels.now s.flow.now s.work.now) (sym size) d.tabled.written);
        poured = refl;
      })) lent;
    }
