-- What a number in a text is, and that it reads back.
use Rattle.std.proofs.Common.{◌≡◌, ℕ, ◌^◌, ◌<◌, ◌≤◌, min, Bool, true, false, cond, ◌&&◌, ltb, List, length, get_or, Some, None, decimal, sym, refl, ap, ◌∙◌, arith, rules}
use Rattle.std.specs.Str.Parse.{digits_value}
use Rattle.std.specs.Int.{IsInRange}
use Rattle.std.specs.Str.{all_ascii_digits}
use Rattle.std.proofs.lemmas.Fmt.{decimal_nonempty, digits_decimal, digits_value-decimal}
use Rattle.std.proofs.lemmas.Str.Parse.{IsNumeralModel, numerals_by_value, numerals_by_weight, tells_all_ascii_digits, tells_by_index}
use Rattle.std.proofs.lemmas.Bool.{ltb-true}
use Rattle.changes.specs.Text.{written, largest, number_of}
use Rattle.changes.specs.Theorems.{Numeral, NumbersAreDecimal, WrittenNumbersReadBack}
use Rattle.changes.proofs.Decimal.{is_number}

-- `written` is the number that digits write
own : IsNumeralModel (λ ds. all_ascii_digits ds ≡ true) written
own = numerals_by_weight _ tells_all_ascii_digits written (search rules)

-- the same, with each digit by its place
by_place : IsNumeralModel (λ ds. (k : ℕ) → k < length ds → IsInRange 48 57 (get_or ds k 0)) (digits_value 10)
by_place = numerals_by_value _ tells_by_index

numeral : (word : List ℕ) (n : ℕ) → number_of word ≡ Some n → Numeral word n
numeral word n e = go (ltb 0 (length word)) (all_ascii_digits word) refl refl e
  where
    go : (a b : Bool) → ltb 0 (length word) ≡ a → all_ascii_digits word ≡ b → cond (a && b) (Some (min (written word) largest)) None ≡ Some n → Numeral word n
    go true true p q f = record { some = ltb-true _ _ p; digits = by_place.from word (own.to word q); value = cc }
    go true false p q f = absurd (grind arith)
    go false b p q f = absurd (grind arith)

pub numbers_are_decimal : NumbersAreDecimal
numbers_are_decimal word n = (numeral word n, λ v. sym (is_number word v.some (own.from word (by_place.to word v.digits))) ∙ rw v.value)

fits : (n : ℕ) → n ≤ largest → n < 2 ^ 64
fits n small = omega arith

decimal_digits : (n : ℕ) → n ≤ largest → all_ascii_digits (decimal n) ≡ true
decimal_digits n small = digits_decimal own n (fits n small)

pub decimal_at : (n : ℕ) → n ≤ largest → (k : ℕ) → k < length (decimal n) → IsInRange 48 57 (get_or (decimal n) k 0)
decimal_at n small = digits_decimal by_place n (fits n small)

pub written_numbers_read_back : WrittenNumbersReadBack
written_numbers_read_back n small =
    sym (is_number (decimal n) (decimal_nonempty n (fits n small)) (decimal_digits n small)) ∙ rw (digits_value-decimal own n (fits n small)) (ap Some (omega arith))
