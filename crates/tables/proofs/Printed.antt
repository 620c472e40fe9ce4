-- What is printed of the values that chains give.
use Rattle.std.proofs.Common.{◌≡◌, ℕ, zero, suc, ◌+◌, ◌<◌, Bool, true, false, cond, ◌&&◌, List, [], ◌∷◌, ◌++◌, Some, None, IfOk, Result, Option, String, string_bytes, sym, refl, ap, ◌∙◌, ap₂, append-nil, zero-add, add-one, arith}
use Rattle.std.specs.declared.iter.FilterMap.{FilterMap}
use Rattle.std.specs.declared.ops.Range.{Range}
use Rattle.std.specs.Fn.{Called}
use Rattle.std.specs.Iterator.Adapters.{filter_map_source, filter_map_callee, filter_map_steps}
use Rattle.std.specs.List.{flat_map, filter_map, range_with_len, cons_option}
use Rattle.std.proofs.iter.Yields.{nat_range_steps}
use Rattle.std.proofs.lemmas.Iterator.{YieldsList, YieldsList-from_range, items_from_drains}
use Rattle.std.proofs.lemmas.Iterator.Consumers.{YieldsList-from_filter_map}
use Rattle.std.proofs.lemmas.List.{map-id}
use Rattle.std.proofs.lemmas.List.Concat.{flat_map-append}
use Rattle.std.proofs.lemmas.List.FromFn.{map-range_with_len_more}
use Rattle.std.proofs.lemmas.Result.{IfOk-weaker}
use Rattle.amounts.specs.Joined.{joined}
use Rattle.tables.specs.Printing.{line, PrintsEach}
use Rattle.tables.proofs.Texts.{joined_same}
use denote.Param.Members.{Mut}

-- what is printed of all values that a chain gives
printed_all : {I T : Type 0} {next : I → Option T → I → Type 0} {values : I} {all : List T} {output : T → Option (List ℕ)} (old new : List ℕ) (text : T → List ℕ) →
    PrintsEach next output values old new → ((x : T) → output x ≡ Some (text x)) → YieldsList next (λ x. x) values all → new ≡ old ++ flat_map (λ x. line (text x)) all
printed_all old new text (xs, (end, (last, given, ended)), printed) shows gives =
    printed text shows ∙ ap (λ ys. old ++ flat_map (λ x. line (text x)) ys) (sym (map-id xs) ∙ items_from_drains xs (last, given, λ _. (end, ended)) gives)

-- the same of a text that holds nothing else
pub all_lines : {I T E Z : Type 0} {next : I → Option T → I → Type 0} {values : I} {all : List T} {output : T → Option (List ℕ)} (text : T → List ℕ) (whole : List ℕ) (r : Result (String Z) E) →
    IfOk r (λ s. PrintsEach next output values [] (string_bytes s)) → ((x : T) → output x ≡ Some (text x)) → YieldsList next (λ x. x) values all → flat_map (λ x. line (text x)) all ≡ whole → IfOk r (λ s. string_bytes s ≡ whole)
all_lines text whole r p shows gives e = IfOk-weaker r _ _ (λ s q. printed_all [] (string_bytes s) text q shows gives ∙ e) p

-- what is said of values that there are of some of a list
flat_map-cons_option : {Y : Type 0} (said : Y → List ℕ) (o : Option Y) (ys : List Y) → flat_map said (cons_option o ys) ≡ flat_map said (cons_option o []) ++ flat_map said ys
flat_map-cons_option said None ys = refl
flat_map-cons_option said (Some y) ys = ap (λ t. t ++ flat_map said ys) (sym (append-nil (said y)))

pub flat_map-filter_map : {X Y : Type 0} (said : Y → List ℕ) (chosen : X → Option Y) (f : X → List ℕ) → ((x : X) → flat_map said (cons_option (chosen x) []) ≡ f x) → (xs : List X) → flat_map said (filter_map chosen xs) ≡ flat_map f xs
flat_map-filter_map said chosen f same [] = refl
flat_map-filter_map said chosen f same (x ∷ xs) = flat_map-cons_option said (chosen x) (filter_map chosen xs) ∙ ap₂ ◌++◌ (same x) (flat_map-filter_map said chosen f same xs)

-- the numbers below n, and one more
one_number_more : (n : ℕ) → range_with_len 0 (suc n) ≡ range_with_len 0 n ++ (n ∷ [])
one_number_more n = ap (range_with_len 0) (sym (add-one n)) ∙ (sym (map-id (range_with_len 0 (n + 1))) ∙ (map-range_with_len_more (λ x. x) 0 n n (zero-add n) ∙ ap (λ ns. ns ++ (n ∷ [])) (map-id (range_with_len 0 n))))

flat_map-numbers : (f : ℕ → List ℕ) (n : ℕ) → flat_map f (range_with_len 0 n) ≡ joined f n
flat_map-numbers f zero = refl
flat_map-numbers f (suc n) = ap (flat_map f) (one_number_more n) ∙ (flat_map-append f (range_with_len 0 n) (n ∷ []) ∙ ap₂ ◌++◌ (flat_map-numbers f n) (append-nil (f n)))

-- what is said of the values that there are of the cells below n
pub flat_map-chosen : {X : Type 0} (said : X → List ℕ) (chosen : ℕ → Option X) (f : ℕ → List ℕ) (n : ℕ) →
    ((c : ℕ) → c < n → flat_map said (cons_option (chosen c) []) ≡ f c) → flat_map said (filter_map chosen (range_with_len 0 n)) ≡ joined f n
flat_map-chosen said chosen f n same = flat_map-filter_map said chosen (λ c. flat_map said (cons_option (chosen c) [])) (λ c. refl) (range_with_len 0 n) ∙ (flat_map-numbers _ n ∙ joined_same _ f n same)

-- what is printed of the cells below n, where a chain gives a value of some of them
pub cells_printed : {F X : Type 0} {g : Mut F (ℕ × Unit {0}) (Option X)} {f : F} {values : FilterMap (Range ℕ) F} {output : X → Option (List ℕ)} (old new : List ℕ) (text : X → List ℕ) (chosen : ℕ → Option X) (said : ℕ → List ℕ) (n : ℕ) →
    PrintsEach (filter_map_steps nat_range_steps g) output values old new → ((x : X) → output x ≡ Some (text x)) → filter_map_source values ≡ record { start = 0; end = n } → filter_map_callee values ≡ f →
    ((c : ℕ) (o : Option X) (q : F) → Called g f (c, tt) o q → (q ≡ f) × (o ≡ chosen c)) → ((c : ℕ) → c < n → flat_map (λ x. line (text x)) (cons_option (chosen c) []) ≡ said c) → new ≡ old ++ joined said n
cells_printed old new text chosen said n p shows source callee chooses same =
    printed_all old new text p shows (YieldsList-from_filter_map _ chosen (YieldsList-from_range 0 n n source (omega arith)) callee chooses) ∙
    ap (λ t. old ++ t) (flat_map-chosen (λ x. line (text x)) chosen said n same)

-- a cell of the model has its line where a test holds
pub line_tested : {X : Type 0} (text : X → List ℕ) (x : X) (there test : Bool) → there ≡ true → flat_map (λ y. line (text y)) (cons_option (cond (there && test) (Some x) None) []) ≡ cond test (line (text x)) []
line_tested text x true true e = append-nil (line (text x))
line_tested text x true false e = refl
line_tested text x false test e = cc
