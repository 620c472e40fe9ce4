-- A row of a table: a cell's level, where it sends, its place and its amount, each a whole number, low byte first.
use Rattle.std.specs.Prelude.{◌≡◌, ℕ, ◌+◌, ◌*◌, ◌/◌, ◌%◌, ◌^◌, ◌<◌, ◌≤◌, Bool, cond, List, [], ◌∷◌, ◌++◌, length, take, drop, Some, None, Option, ◌≢◌, nat_le}
use Rattle.model.specs.Bytes.{four}
use Rattle.flood.specs.Sent.{sends_code, sends_of}
use Rattle.amounts.specs.declared.rows.Row.{Row}

-- the bytes of a row
abbrev pub row_size : ℕ
row_size = 20

-- a number in four bytes, and in eight
abbrev pub four_bytes : ℕ → List ℕ
four_bytes v = v % 256 ∷ (v / 256 % 256 ∷ (v / 65536 % 256 ∷ (v / 16777216 % 256 ∷ [])))

abbrev pub eight_bytes : ℕ → List ℕ
eight_bytes v = four_bytes v ++ four_bytes (v / 4294967296)

-- the number in the first eight bytes
abbrev pub eight : List ℕ → ℕ
eight bs = four bs + four (drop 4 bs) * 4294967296

-- THE LAYOUT: the bytes of a row with this level, this place to send to, this place in the order and this amount
unfoldable pub row_bytes : (level sends place amount : ℕ) → List ℕ
row_bytes level sends place amount = four_bytes level ++ (four_bytes sends ++ (four_bytes place ++ eight_bytes amount))

-- rows follow each other: where that of cell c begins, whether a table has it whole, and its bytes
abbrev pub row_start : ℕ → ℕ
row_start c = row_size * c

abbrev pub has_row : List ℕ → ℕ → Bool
has_row t c = nat_le (row_start c + row_size) (length t)

abbrev pub row_part : List ℕ → ℕ → List ℕ
row_part t c = take row_size (drop (row_start c) t)

-- the values in the row of cell c
abbrev pub level_at : List ℕ → ℕ → ℕ
level_at t c = four (row_part t c)

abbrev pub sends_at : List ℕ → ℕ → ℕ
sends_at t c = four (drop 4 (row_part t c))

abbrev pub place_at : List ℕ → ℕ → ℕ
place_at t c = four (drop 8 (row_part t c))

abbrev pub amount_at : List ℕ → ℕ → ℕ
amount_at t c = eight (drop 12 (row_part t c))

-- the row of cell c, if the table has it
abbrev pub row_at : List ℕ → ℕ → Option Row
row_at t c =
    cond (has_row t c)
    (Some (record { level = record { 0 = level_at t c }; sends = sends_of (sends_at t c); place = place_at t c; amount = record { 0 = amount_at t c } })) None

-- the bytes of a row as the code has it
abbrev pub bytes_of : Row → List ℕ
bytes_of r = row_bytes r.level.0 (sends_code r.sends) r.place r.amount.0

-- a table with other bytes for the row of cell c
abbrev pub put_row : List ℕ → ℕ → List ℕ → List ℕ
put_row t c bs = take (row_start c) t ++ (bs ++ drop (row_start c + row_size) t)

-- u is t with another row for cell c
pub record RowWritten (t u : List ℕ) (c : ℕ) (r : Row) : Type 0 where
  pub level : level_at u c ≡ r.level.0
  pub sends : sends_at u c ≡ sends_code r.sends
  pub place : place_at u c ≡ r.place
  pub amount : amount_at u c ≡ r.amount.0
  pub others : (d : ℕ) → (d ≢ c) → row_part u d ≡ row_part t d
  pub long : length u ≡ length t

-- the numbers of a row are within their bytes
pub record RowFits (r : Row) : Type 0 where
  pub level : r.level.0 < 2 ^ 32
  pub sends : sends_code r.sends < 2 ^ 32
  pub place : r.place < 2 ^ 32
  pub amount : r.amount.0 < 2 ^ 64

-- ROWS READ BACK: what is written into a row is what is read from it, and no other row changes
abbrev pub RowsReadBack : Type 0
RowsReadBack = (t : List ℕ) (c : ℕ) (r : Row) → row_start c + row_size ≤ length t → RowFits r → RowWritten t (put_row t c (bytes_of r)) c r
