-- The bytes of a row: numbers written and read, and a row in the middle of a table.
use Rattle.std.proofs.Common.{◌≡◌, ℕ, ◌+◌, ◌-◌, ◌/◌, ◌%◌, ◌^◌, ◌<◌, ◌≤◌, ◌⊎◌, List, [], ◌∷◌, ◌++◌, length, get_or, take, drop, sym, refl, ap, ◌∙◌, inl, inr, arith, rules}
use native.Mathlib.Nat.{div-div-eq-div-mul}
use Rattle.std.specs.Int.{from_le_bytes, w32, w64}
use Rattle.std.proofs.lemmas.List.{get_or-drop, length-take, length-take-le, length-drop, take_at, drop_at, places, same_lists, get_or-take, get_or_append_left, get_or-append_right}
use Rattle.std.proofs.lemmas.Bool.{cases_lt}
use Rattle.model.specs.Bytes.{four}
use Rattle.flood.specs.Sent.{sends_code}
use Rattle.amounts.specs.Row.{four_bytes, eight_bytes, eight, row_bytes, row_start, row_part, bytes_of, put_row, RowsReadBack}

-- a byte of a part of the first m is that byte of the whole
front_byte : (xs : List ℕ) (k m n i : ℕ) → i < n → k + n ≤ m → get_or (take n (drop k xs)) i 0 ≡ get_or (drop k (take m xs)) i 0
front_byte xs k m n i a b =
    get_or-take n (drop k xs) i 0 a ∙ (get_or-drop k xs i 0 ∙ sym (get_or-drop k (take m xs) i 0 ∙ get_or-take m xs (k + i) 0 (omega arith)))

-- so a number read from the part is the number that stands there
pub four_part : (xs : List ℕ) (k m : ℕ) → k + 4 ≤ m → from_le_bytes w32 (take 4 (drop k xs)) ≡ four (drop k (take m xs))
unfolding four
four_part xs k m a =
    let byte = front_byte xs k m 4 in
    omega (arith, byte 0 (omega arith) a, byte 1 (omega arith) a, byte 2 (omega arith) a, byte 3 (omega arith) a)

pub eight_part : (xs : List ℕ) (k m : ℕ) → k + 8 ≤ m → from_le_bytes w64 (take 8 (drop k xs)) ≡ eight (drop k (take m xs))
unfolding four
eight_part xs k m a =
    let byte = front_byte xs k m 8 in
    let high : (i : ℕ) → get_or (drop 4 (drop k (take m xs))) i 0 ≡ get_or (drop k (take m xs)) (4 + i) 0 = λ i. get_or-drop 4 (drop k (take m xs)) i 0 in
    omega (
      arith,
      byte 0 (omega arith) a,
      byte 1 (omega arith) a,
      byte 2 (omega arith) a,
      byte 3 (omega arith) a,
      high 0 ∙ sym (byte 4 (omega arith) a),
      high 1 ∙ sym (byte 5 (omega arith) a),
      high 2 ∙ sym (byte 6 (omega arith) a),
      high 3 ∙ sym (byte 7 (omega arith) a),
    )

-- a number is read as it was written, as far as the bytes hold it
four_back : (v : ℕ) → four (four_bytes v) ≡ v % 4294967296
unfolding four
four_back v =
    let b : v / 65536 ≡ v / 256 / 256 = sym (div-div-eq-div-mul v 256 256) in
    let c : v / 16777216 ≡ v / 256 / 256 / 256 = sym (ap (λ x. x / 256) (div-div-eq-div-mul v 256 256) ∙ div-div-eq-div-mul v 65536 256) in
    rw (b, c) (omega arith)

eight_back : (v : ℕ) → v < 2 ^ 64 → eight (eight_bytes v) ≡ v
unfolding four
eight_back v small =
    let low : four (eight_bytes v) ≡ v % 4294967296 = four_back v in
    let high = four_back (v / 4294967296) in
    omega arith

-- the values in the bytes of a row
pub record RowValues (p : List ℕ) (level sends place amount : ℕ) : Type 0 where
  pub in_level : four p ≡ level
  pub in_sends : four (drop 4 p) ≡ sends
  pub in_place : four (drop 8 p) ≡ place
  pub in_amount : eight (drop 12 p) ≡ amount
  pub long : length p ≡ 20

pub row_back : (level sends place amount : ℕ) → level < 2 ^ 32 → sends < 2 ^ 32 → place < 2 ^ 32 → amount < 2 ^ 64 → RowValues (row_bytes level sends place amount) level sends place amount
unfolding four row_bytes
row_back level sends place amount a b c d = record {
  in_level = four_back level ∙ omega arith;
  in_sends = four_back sends ∙ omega arith;
  in_place = four_back place ∙ omega arith;
  in_amount = eight_back amount d;
  long = refl;
}

-- the bytes of a large number one by one
pub eight_bytes_are : (v : ℕ) →
    eight_bytes v ≡
    v % 256 ∷ (v / 256 % 256 ∷ (v / 65536 % 256 ∷ (v / 16777216 % 256 ∷ (v / 4294967296 % 256 ∷ (v / 1099511627776 % 256 ∷ (v / 281474976710656 % 256 ∷ (v / 72057594037927936 % 256 ∷ [])))))))
eight_bytes_are v =
    let a = div-div-eq-div-mul v 4294967296 256 in
    let b = div-div-eq-div-mul v 4294967296 65536 in
    let c = div-div-eq-div-mul v 4294967296 16777216 in
    rw (a, b, c) refl

-- a table with another row: that row, and the others
this_row : (t bs : List ℕ) (c : ℕ) → row_start c + 20 ≤ length t → length bs ≡ 20 → row_part (put_row t c bs) c ≡ bs
this_row t bs c fits size =
    let rest = bs ++ drop (row_start c + 20) t in
    ap (take 20) (drop_at (take (row_start c) t) rest (row_start c) (length-take-le (row_start c) t (omega arith))) ∙ take_at bs (drop (row_start c + 20) t) 20 size

put_length : (t bs : List ℕ) (c : ℕ) → row_start c + 20 ≤ length t → length bs ≡ 20 → length (put_row t c bs) ≡ length t
put_length t bs c fits size = search (rules, places)

put_outside : (t bs : List ℕ) (c j e : ℕ) → row_start c + 20 ≤ length t → length bs ≡ 20 → (j < row_start c) ⊎ (row_start c + 20 ≤ j) →
    get_or (put_row t c bs) j e ≡ get_or t j e
put_outside t bs c j e fits size (inl before) =
    let n = length-take-le (row_start c) t (omega arith) in
    get_or_append_left (take (row_start c) t) _ e j (omega arith) ∙ get_or-take (row_start c) t j e before
put_outside t bs c j e fits size (inr behind) =
    let s = row_start c in
    let n = length-take-le s t (omega arith) in
    get_or-append_right (take s t) _ s j e n (omega arith) ∙
    (get_or-append_right bs (drop (s + 20) t) 20 (j - s) e size (omega arith) ∙ (get_or-drop (s + 20) t (j - s - 20) e ∙ ap (λ i. get_or t i e) (omega arith)))

row_byte : (t : List ℕ) (d k e : ℕ) → k < 20 → get_or (row_part t d) k e ≡ get_or t (row_start d + k) e
row_byte t d k e a = get_or-take 20 (drop (row_start d) t) k e a ∙ get_or-drop (row_start d) t k e

other_row : (t bs : List ℕ) (c d : ℕ) → row_start c + 20 ≤ length t → length bs ≡ 20 → (d ≡ c → ⊥) → row_part (put_row t c bs) d ≡ row_part t d
other_row t bs c d fits size ne =
    let u = put_row t c bs in
    let long = put_length t bs c fits size in
    let i = cases_lt d c in
    same_lists _ _ (simp (length-take, length-drop, long))
    (λ k e h.
    let a : k < 20 = omega (arith, length-take 20 (drop (row_start d) u)) in
    row_byte u d k e a ∙ (put_outside t bs c (row_start d + k) e fits size (grind arith) ∙ sym (row_byte t d k e a)))

pub rows_read_back : RowsReadBack
rows_read_back t c r fits small =
    let bs = bytes_of r in
    let back = row_back r.level.0 (sends_code r.sends) r.place r.amount.0 small.level small.sends small.place small.amount in
    let here : row_part (put_row t c bs) c ≡ bs = this_row t bs c fits back.long in
    record {
      level = ap four here ∙ back.in_level;
      sends = ap (λ p. four (drop 4 p)) here ∙ back.in_sends;
      place = ap (λ p. four (drop 8 p)) here ∙ back.in_place;
      amount = ap (λ p. eight (drop 12 p)) here ∙ back.in_amount;
      others = λ d ne. other_row t bs c d fits back.long ne;
      long = put_length t bs c fits back.long;
    }
