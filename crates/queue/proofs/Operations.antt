-- What every row of pushes and pops keeps.
use Rattle.std.proofs.Common.{◌≡◌, ℕ, ◌+◌, ◌≤◌, ◌&&◌, ltb, leb, List, [], ◌∷◌, length, get_or, take, sum_by, refl, arith, ltb-true, leb-true}
use Rattle.std.proofs.lemmas.List.Sums.{sum_by-cons}
use Rattle.std.proofs.lemmas.Bool.{cond_both, and_parts}
use Rattle.std.proofs.lemmas.Bool.Decides.{nat_tests}
use Rattle.queue.specs.Heap.{Heap}
use Rattle.queue.specs.Rows.{Operation, Push, Pop, Row, operated, operated_all, begun, pushes, LosesNothing, KeepsOrder, RefusesNone}
use Rattle.queue.proofs.Laws.{pushed_length, popped_length, after_push, after_pop}

-- what one operation keeps
record Kept (o : Operation) (r s : Row) : Type 0 where
  pub long : length s.entries ≡ length r.entries
  pub order : Heap r.entries r.count → Heap s.entries s.count
  pub content : (g : ℕ → ℕ) →
      sum_by g (take s.count s.entries) + sum_by g s.given + sum_by g r.taken ≡
      sum_by g (take r.count r.entries) + sum_by g r.given + sum_by g s.taken

nothing : (o : Operation) (r : Row) → Kept o r r
nothing o r = record { long = refl; order = λ h. h; content = λ g. omega arith }

kept : (o : Operation) (r : Row) → Kept o r (operated r o)
unfolding operated
kept (Push x) r = cond_both (ltb r.count (length r.entries)) _ _ (Kept (Push x) r)
    (λ t.
    let law = after_push r.entries r.count x (ltb-true _ _ t) in
    record { long = pushed_length r.entries r.count x; order = law.order; content = λ g. omega (arith, law.content g, sum_by-cons g x r.taken) })
    (λ _. nothing (Push x) r)
kept Pop r = cond_both (ltb 0 r.count && leb r.count (length r.entries)) _ _ (Kept Pop r)
    (λ t.
    let both = and_parts _ _ t in
    let law = after_pop r.entries r.count (ltb-true _ _ both.0) (leb-true _ _ both.1) in
    record { long = popped_length r.entries r.count; order = law.order; content = λ g. omega (arith, law.content g, sum_by-cons g (get_or r.entries 0 0) r.given) })
    (λ _. nothing Pop r)

all_content : (os : List Operation) (r : Row) (g : ℕ → ℕ) →
    let s = operated_all r os in
    sum_by g (take s.count s.entries) + sum_by g s.given + sum_by g r.taken ≡ sum_by g (take r.count r.entries) + sum_by g r.given + sum_by g s.taken
all_content [] r g = refl
all_content (o ∷ os) r g = omega (arith, (kept o r).content g, all_content os (operated r o) g)

all_order : (os : List Operation) (r : Row) → Heap r.entries r.count → Heap (operated_all r os).entries (operated_all r os).count
all_order [] r h = h
all_order (o ∷ os) r h = all_order os (operated r o) ((kept o r).order h)

-- an operation that there is room for puts in what it pushes
record Fits (o : Operation) (r s : Row) : Type 0 where
  pub count : s.count ≤ r.count + length (pushes (o ∷ []))
  pub taken : (g : ℕ → ℕ) → sum_by g s.taken ≡ sum_by g r.taken + sum_by g (pushes (o ∷ []))

fits : (o : Operation) (r : Row) → r.count + length (pushes (o ∷ [])) ≤ length r.entries → Fits o r (operated r o)
unfolding operated
fits (Push x) r room = record { count = grind (arith, nat_tests); taken = λ g. grind (arith, nat_tests, sum_by-cons g x r.taken) }
fits Pop r room = record { count = grind (arith, nat_tests); taken = λ g. grind (arith, nat_tests) }

all_taken : (os : List Operation) (r : Row) → r.count + length (pushes os) ≤ length r.entries → (g : ℕ → ℕ) → sum_by g (operated_all r os).taken ≡ sum_by g r.taken + sum_by g (pushes os)
all_taken [] r room g = omega arith
all_taken (Push x ∷ os) r room g =
    let one = fits (Push x) r (omega arith) in
    let long = (kept (Push x) r).long in
    omega (arith, one.taken g, all_taken os (operated r (Push x)) (omega (arith, one.count)) g, sum_by-cons g x (pushes os))
all_taken (Pop ∷ os) r room g =
    let one = fits Pop r (omega arith) in
    let long = (kept Pop r).long in
    omega (arith, one.taken g, all_taken os (operated r Pop) (omega (arith, one.count)) g)

pub loses_nothing : LosesNothing
loses_nothing xs n os g = omega (arith, all_content os (begun xs n) g)

pub keeps_order : KeepsOrder
keeps_order xs n os h = all_order os (begun xs n) h

pub refuses_none : RefusesNone
refuses_none xs n os room g = omega (arith, all_taken os (begun xs n) room g)
