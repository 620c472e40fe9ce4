-- Words of digits, and the numbers that they write, digit after digit.
use Rattle.std.proofs.Common.{◌≡◌, ℕ, ◌+◌, ◌-◌, ◌*◌, ◌^◌, ◌<◌, min, true, List, [], ◌∷◌, ◌++◌, length, get_or, take, drop, Some, mul_assoc, pow-suc, add-one, arith, lt-ltb}
use Rattle.std.specs.Char.{is_ascii_digit}
use Rattle.std.specs.Str.{all_ascii_digits}
use Rattle.std.proofs.lemmas.List.{drop_more, take_more, length_push}
use Rattle.changes.specs.Text.{written, largest, number_of}

-- one digit more: it counts one, and each before it ten times as much
written_push : (ds : List ℕ) (d : ℕ) → written (ds ++ d ∷ []) ≡ written ds * 10 + (d - 48)
written_push [] d = omega arith
written_push (b ∷ bs) d = rw (length_push bs d, add-one, pow-suc, ← mul_assoc (b - 48) (10 ^ length bs) 10, written_push bs d) (omega arith)

pub is_number : (word : List ℕ) → 0 < length word → all_ascii_digits word ≡ true → Some (min (written word) largest) ≡ number_of word
is_number word some good = rw (lt-ltb 0 (length word) some, good)

-- one digit more
pub more_digits : (word : List ℕ) (i : ℕ) → i < length word → all_ascii_digits (drop i word) ≡ all_ascii_digits word → true ≡ is_ascii_digit (get_or word i 0) → all_ascii_digits (drop (i + 1) word) ≡ all_ascii_digits word
more_digits word i h old good = rw (drop_more word i 0 h, ← good) at old

pub more_written : (word : List ℕ) (i : ℕ) → i < length word → (n : ℕ) → n ≡ min (written (take i word)) largest → min (min (n * 10) largest + (get_or word i 0 - 48)) largest ≡ min (written (take (i + 1) word)) largest
more_written word i h n old = rw (take_more word i 0 h, written_push) (omega arith)
