-- The conditions on all cells are those of the certificate, and that amounts add up.
use Rattle.std.proofs.Common.{◌≡◌, ℕ, ◌<◌, true, List, None, Ok, Err, Result, sym, ◌∙◌, ap₂, inl, inr, arith, eq-eqb, eqb-true, MatchResult}
use Rattle.std.proofs.lemmas.Bool.{cases_Bool, cases_eq, cases_lt, cond-true, cond-false}
use Rattle.std.proofs.lemmas.Bool.Decides.{nat_tests}
use Rattle.std.specs.Result.{result_err}
use Rattle.model.specs.declared.refusal.Refusal.{Refusal}
use Rattle.model.specs.declared.refusal.Refusal.TheVariants.{Level, Sends, Amount}
use Rattle.model.specs.Bytes.{count}
use Rattle.model.specs.Faults.{or_else, fault}
use Rattle.model.specs.Land.{Land}
use Rattle.model.specs.Terrain.{terrain, land}
use Rattle.model.proofs.Taken.{both_none, well_formed, taken}
use Rattle.flood.specs.Certified.{Certified}
use Rattle.flood.specs.Flooded.{table_of}
use Rattle.flood.specs.Levels.{Flow}
use Rattle.flood.specs.Run.{flow_of}
use Rattle.flood.proofs.Certificate.{certified_drains}
use Rattle.flood.proofs.Comparing.{only_levels}
use Rattle.flood.proofs.Models.{models_right}
use Rattle.flood.proofs.Turns.{sound}
use Rattle.amounts.specs.Row.{amount_at}
use Rattle.amounts.proofs.Carrying.{drained_acyclic, only_amounts, nothing_lost}
use Rattle.checker.specs.Accepted.{Right, Accepted}
use Rattle.checker.specs.Conditions.{sends_ok, level_ok, filled, amount_ok}
use Rattle.checker.specs.Faults.{length_fault, sends_fault, level_fault, amount_fault, check_fault}
use Rattle.checker.specs.Table.{flow_from, Whole}
use Rattle.checker.specs.Theorems.{AcceptedIfRight}
use Rattle.checker.proofs.FirstBad.{none_refused, none_to_refuse}
use Rattle.checker.proofs.Parts.{sends_parts, sends_whole, fill_above, level_parts, level_whole}

certified_by : (l : Land) (f : Flow) → ((c : ℕ) → c < l.cells → sends_ok l f c ≡ true) → ((c : ℕ) → c < l.cells → level_ok l f c ≡ true) → Certified l f
certified_by l f sent level = record {
  above = λ c a. omega (arith, fill_above l f c, (level_parts l f c (level c a)).fills);
  sends_off = λ c a. (sends_parts l f c (sent c a)).off;
  outlet_level = λ c a off. (level_parts l f c (level c a)).fills ∙ cond-true (f.off c) _ _ off;
  inside = λ c a. (sends_parts l f c (sent c a)).inside;
  beside = λ c a. (sends_parts l f c (sent c a)).beside;
  nearer = λ c a. (sends_parts l f c (sent c a)).nearer;
  fills = λ c a on. (level_parts l f c (level c a)).fills ∙ cond-false (f.off c) _ _ on;
  unfilled = λ c d a b next low. elim (level_parts l f c (level c a)).unfilled [ inl same ↦ same | inr each ↦ absurd (omega (arith, each d b next)) ];
}

module _ (l : Land) (f : Flow) (p : Certified l f) (c : ℕ) (a : c < l.cells) where
  sends_by : sends_ok l f c ≡ true
  sends_by = sends_whole l f c (record { off = p.sends_off c a; inside = p.inside c a; beside = p.beside c a; nearer = p.nearer c a })

  fills_by : f.level c ≡ filled l f c
  fills_by = let o = cases_Bool (f.off c) in grind (arith, p.outlet_level c a, p.fills c a)

  level_by : level_ok l f c ≡ true
  level_by = level_whole l f c (record {
    fills = fills_by;
    unfilled = elim (cases_eq (l.height c) (f.level c)) [
      | inl same ↦ inl same
      | inr above ↦ inr (λ d b next. elim (cases_lt (f.level d) (f.level c)) [ inl low ↦ absurd (above (p.unfilled c d a b next low)) | inr high ↦ high ])
    ];
  })

-- a table without a fault has the right length
whole_by : (bs t : List ℕ) → length_fault bs t ≡ None → Whole bs t
whole_by bs t e = grind (arith, nat_tests)

right_if_accepted : (bs t : List ℕ) → check_fault bs t ≡ None → Right bs t
unfolding amount_ok
right_if_accepted bs t e =
    let model = both_none (fault bs) _ e in
    let size = both_none (length_fault bs t) _ model.1 in
    let sent = both_none (sends_fault bs t) _ size.1 in
    let rest = both_none (level_fault bs t) (amount_fault bs t) sent.1 in
    record {
      formed = well_formed bs model.0;
      whole = whole_by bs t size.0;
      certified = certified_by (land bs) (flow_from t) (none_refused Sends _ (count bs) sent.0) (none_refused Level _ (count bs) rest.0);
      carried = record { each = λ c a. eqb-true _ _ (none_refused Amount _ (count bs) rest.1 c a) };
    }

accepted_if_so : (bs t : List ℕ) → Right bs t → check_fault bs t ≡ None
unfolding amount_ok
accepted_if_so bs t r =
    let size : length_fault bs t ≡ None = cond-true _ _ _ (eq-eqb _ _ r.whole) in
    let sent : sends_fault bs t ≡ None = none_to_refuse Sends _ (count bs) (λ c a. sends_by (land bs) (flow_from t) r.certified c a) in
    let level : level_fault bs t ≡ None = none_to_refuse Level _ (count bs) (λ c a. level_by (land bs) (flow_from t) r.certified c a) in
    let amount : amount_fault bs t ≡ None = none_to_refuse Amount _ (count bs) (λ c a. eq-eqb _ _ (r.carried.each c a)) in
    ap₂ or_else (taken bs r.formed) (ap₂ or_else size (ap₂ or_else sent (ap₂ or_else level amount)))

pub accepted_if_right : AcceptedIfRight
accepted_if_right bs t = (right_if_accepted bs t, accepted_if_so bs t)

-- what follows
pub accepted : (bs t : List ℕ) → check_fault bs t ≡ None → Accepted bs t
accepted bs t e =
    let r = right_if_accepted bs t e in
    let f = flow_from t in
    let drained = certified_drains (land bs) f r.certified in
    let acyclic = drained_acyclic (land bs) f drained in
    record {
      right = r;
      drained = drained;
      levels = only_levels (land bs) f (flow_of (table_of bs)) drained (models_right (terrain bs) (sound bs r.formed)).drained;
      only = λ g h. only_amounts (land bs) f g (amount_at t) acyclic h r.carried;
      nothing_lost = nothing_lost (land bs) f (amount_at t) acyclic r.carried;
    }

-- what an answer means
pub meaning : {X : Type 0} (bs t : List ℕ) (r : Result X Refusal) → result_err r ≡ check_fault bs t → MatchResult r (λ _. Accepted bs t) (λ _. Right bs t → ⊥)
meaning bs t (Ok x) e = accepted bs t (sym e)
meaning bs t (Err y) e = λ right. cc (accepted_if_so bs t right)
