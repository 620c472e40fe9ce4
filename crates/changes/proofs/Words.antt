-- The lines of a text and the words of a line, as `split` gives them.
use Rattle.std.proofs.Common.{◌≡◌, ℕ, ◌+◌, ◌-◌, ◌≤◌, ne_eqb, ◌<◌, ◌++◌, get_or, drop, append_assoc, ◌∙◌, Bool, ◌==◌, List, [], ◌∷◌, map, length, Some, None, Option, refl, sym, ap, false, arith}
use Rattle.std.specs.declared.slice.Split.{Split}
use Rattle.std.specs.Fn.{CalledAt}
use Rattle.std.specs.Iterator.{Yields}
use Rattle.std.specs.List.{enumerate_from}
use Rattle.std.specs.Slice.Iter.{split_rest, split_done, split_callee, split_steps}
use Rattle.std.proofs.lemmas.Iterator.{YieldsList}
use Rattle.std.proofs.lemmas.Iterator.Consumers.{YieldsList-turn, YieldsList-end}
use Rattle.std.proofs.lemmas.Iterator.Splits.{YieldsList-from_slice_split}
use Rattle.std.proofs.lemmas.List.{append-nil, drop_more, drop_all}
use Rattle.std.proofs.lemmas.List.FromFn.{length-enumerate_from, get_or-enumerate_from}
use Rattle.changes.specs.declared.asked.Asked.{Asked}
use Rattle.changes.specs.declared.asked.Change.{Change}
use Rattle.changes.specs.Text.{chomped, lines, words, change_of, asked_by, asked_from}
use denote.Param.Members.{Mut}
use denote.Ref.{Bor}

-- fewer words than three, or more, are no change
not_three : (words : List (List ℕ)) → (length words ≡ 3 → ⊥) → None ≡ change_of words
not_three [] other = refl
not_three (a ∷ []) other = refl
not_three (a ∷ b ∷ []) other = refl
not_three (a ∷ b ∷ c ∷ []) other = absurd (other refl)
not_three (a ∷ b ∷ c ∷ d ∷ more) other = refl

module _ {F : Type 0} {f : F} (g : Mut F (Bor ℕ × Unit {0}) Bool) (line : List ℕ) (s t u : Split ℕ F) (xs : List (Bor (List ℕ))) (given : Yields (split_steps g) s xs t) (rest : split_rest s ≡ line) (done : split_done s ≡ false) (closure : split_callee s ≡ f)
    (tests : (x : ℕ) (b : Bool) (q : F) → CalledAt g f x b q → (q ≡ f) × (b ≡ (x == 32))) where
  road : YieldsList (split_steps g) (λ x. x.now) s (words line)
  road = YieldsList-from_slice_split g (λ x. x == 32) line rest done closure tests

  -- no word comes after these
  pub read_words : split_steps g t None u → (r : Option Change) → r ≡ change_of (map (λ x. x.now) xs) → r ≡ change_of (words line)
  read_words last r e = e ∙ ap change_of (YieldsList-end road xs t given None u refl last).0

  pub other_words : split_steps g t None u → (length xs ≡ 3 → ⊥) → None ≡ change_of (words line)
  other_words last other = let long = (YieldsList-end road xs t given None u refl last).1 in not_three (words line) (λ e. other (omega arith))

  -- a word comes after these three
  pub too_many_words : (x : Bor (List ℕ)) → split_steps g t (Some x) u → length xs ≡ 3 → None ≡ change_of (words line)
  too_many_words x next three = let more = (YieldsList-turn road xs t given (Some x) u x refl next).0 in not_three (words line) (λ e. omega arith)

-- one line more
pub read_on : (old new all : List Asked) (text : List ℕ) (i : ℕ) (p : ℕ × List ℕ) → i < length (enumerate_from 0 (lines text)) → p ≡ get_or (enumerate_from 0 (lines text)) i p → new ≡ old ++ asked_by (p.0 + 1) p.1 →
    old ++ asked_from (i + 1) (drop i (lines text)) ≡ all → new ++ asked_from (i + 1 + 1) (drop (i + 1) (lines text)) ≡ all
read_on old new all text i p inside here pushed so_far =
    let some : i < length (lines text) = omega (arith, length-enumerate_from 0 (lines text)) in
    let is = here ∙ get_or-enumerate_from 0 (lines text) i p some in
    let number : p.0 ≡ i = ap (λ q. q.0) is ∙ omega arith in
    let line : p.1 ≡ get_or (lines text) i p.1 = ap (λ q. q.1) is in
    let left : drop i (lines text) ≡ p.1 ∷ drop (i + 1) (lines text) = drop_more (lines text) i p.1 some ∙ ap (λ x. x ∷ drop (i + 1) (lines text)) (sym line) in
    rw (pushed, number, append_assoc) (rw left at so_far)

-- no line more
pub read_all : (row all : List Asked) (text : List ℕ) (i : ℕ) → i ≡ length (enumerate_from 0 (lines text)) → row ++ asked_from (i + 1) (drop i (lines text)) ≡ all → row ≡ all
read_all row all text i end so_far =
    let none : length (lines text) ≤ i = omega (arith, length-enumerate_from 0 (lines text)) in
    sym (append-nil row) ∙ rw (drop_all i (lines text) none) at so_far

-- a line that does not end with a carriage return
pub chomped_same : (xs : List ℕ) → (0 < length xs → get_or xs (length xs - 1) 0 ≡ 13 → ⊥) → xs ≡ chomped xs
chomped_same [] other = refl
chomped_same (x ∷ xs) other = rw (ne_eqb (get_or (x ∷ xs) (length (x ∷ xs) - 1) 0) 13 (other (omega arith)))
