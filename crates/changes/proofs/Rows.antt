-- A row of changes that is written out reads back.
use Rattle.std.proofs.Common.{◌≡◌, ℕ, ◌+◌, ◌-◌, ◌<◌, ◌≤◌, Bool, true, false, eqb, ◌==◌, List, [], ◌∷◌, ◌++◌, length, get_or, Some, codes, decimal, refl, ap, inl, inr, arith, ne_eqb}
use Rattle.std.specs.List.{All, AllByRecursion, list_any}
use Rattle.std.proofs.lemmas.Bool.{cases_Bool}
use Rattle.std.proofs.lemmas.Bool.Decides.{nat_tests}
use Rattle.std.proofs.lemmas.Grind.{common_steps}
use Rattle.std.proofs.lemmas.List.Elements.{All-nil, All-cons, All-append}
use Rattle.std.proofs.lemmas.List.Folds.{list_any_at}
use Rattle.std.proofs.lemmas.List.Splits.{slice_split_at, slice_split_none}
use Rattle.changes.specs.declared.asked.Change.{Change}
use Rattle.changes.specs.declared.asked.Change.TheVariants.{Height, Rain, Drain}
use Rattle.changes.specs.Text.{lines, words, passed_over, change_named, change_of, largest, asked_by, asked_from}
use Rattle.changes.specs.Theorems.{line_with, line_of, text_of, Small, asked_at, WrittenRowsReadBack}
use Rattle.changes.proofs.Numerals.{decimal_at, written_numbers_read_back}
use Rattle.changes.proofs.Words.{chomped_same}

-- no byte is m
abbrev Lacks : ℕ → List ℕ → Type 0
Lacks m xs = All (λ x. eqb x m ≡ false) xs

-- the same as a test, which computes on bytes that are written out
abbrev has : ℕ → List ℕ → Bool
has m xs = list_any (λ x. eqb x m) xs

lacks : (m : ℕ) (xs : List ℕ) → has m xs ≡ false → Lacks m xs
lacks m xs none k d h = elim (cases_Bool (eqb (get_or xs k d) m)) [ inl hit ↦ let some = list_any_at (λ x. eqb x m) xs k d h hit in absurd (cc) | inr other ↦ other ]

-- digits are none of the bytes below them, as newline, carriage return and space
digits_lack : (m n : ℕ) → m < 48 → n ≤ largest → Lacks m (decimal n)
digits_lack m n low small k d h = let here = decimal_at n small k h in ne_eqb (get_or (decimal n) k d) m (λ e. grind (arith, common_steps))

-- what begins like a line that counts is such a line
counts_append : (xs ys : List ℕ) → passed_over xs ≡ false → passed_over (xs ++ ys) ≡ false
counts_append [] ys p = absurd (grind arith)
counts_append (x ∷ xs) ys p = grind (arith, nat_tests)

module _ (name : List ℕ) (c v : ℕ) (cell : c ≤ largest) (value : v ≤ largest) where
  line_lacks : (m : ℕ) → m < 32 → Lacks m name → Lacks m (line_with name c v)
  line_lacks m low none =
      let space : Lacks m (codes " ") = All-cons (λ x. eqb x m ≡ false) 32 [] (grind (arith, nat_tests)) (All-nil (λ x. eqb x m ≡ false)) in
      let join = All-append (λ x. eqb x m ≡ false) in
      join name _ none (join (codes " ") _ space (join (decimal c) _ (digits_lack m c (omega arith) cell) (join (codes " ") _ space (digits_lack m v (omega arith) value))))

  three_words : Lacks 32 name → change_of (words (line_with name c v)) ≡ change_named name c v
  three_words none = rw (
    slice_split_at (λ x. x == 32) name 32 (decimal c ++ (32 ∷ decimal v)) none refl,
    slice_split_at (λ x. x == 32) (decimal c) 32 (decimal v) (digits_lack 32 c (omega arith) cell) refl,
    slice_split_none (λ x. x == 32) (decimal v) (digits_lack 32 v (omega arith) value),
    written_numbers_read_back c cell,
    written_numbers_read_back v value,
  )

  line_reads : (n : ℕ) → passed_over name ≡ false → has 10 name ≡ false → has 13 name ≡ false → has 32 name ≡ false → Lacks 10 (line_with name c v) × (asked_by n (line_with name c v) ≡ record { line = n; change = change_named name c v } ∷ [])
  line_reads n counts no_newline no_return no_space =
      let line = line_with name c v in
      let same = chomped_same line (λ some e. let none = line_lacks 13 (omega arith) (lacks 13 name no_return) (length line - 1) 0 (omega arith) in grind (arith, nat_tests)) in
      (line_lacks 10 (omega arith) (lacks 10 name no_newline), rw (← same, counts_append name _ counts) (ap (λ ch. record { line = n; change = ch } ∷ []) (three_words (lacks 32 name no_space))))

-- the line of a change has no newline in it, and asks for the change
change_reads : (x : Change) (n : ℕ) → Small x → Lacks 10 (line_of x) × (asked_by n (line_of x) ≡ record { line = n; change = Some x } ∷ [])
change_reads (Height c v) n small = line_reads (codes "height") c.0 v.0 small.0 small.1 n refl refl refl refl
change_reads (Rain c v) n small = line_reads (codes "rain") c.0 v.0 small.0 small.1 n refl refl refl refl
change_reads (Drain c true) n small = line_reads (codes "drain") c.0 1 small (omega arith) n refl refl refl refl
change_reads (Drain c false) n small = line_reads (codes "drain") c.0 0 small (omega arith) n refl refl refl refl

rows : (n : ℕ) (row : List Change) → AllByRecursion Small row → asked_from n (lines (text_of row)) ≡ asked_at n row
rows n [] small = refl
rows n (x ∷ xs) small =
    let line = change_reads x n small.0 in
    rw (slice_split_at (λ x. x == 10) (line_of x) 10 (text_of xs) line.0 refl, line.1, rows (n + 1) xs small.1)

pub written_rows_read_back : WrittenRowsReadBack
written_rows_read_back row small = rows 1 row small
