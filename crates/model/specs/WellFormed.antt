-- Which files are taken, and what a refusal says of one that is not.
use Rattle.std.specs.Prelude.{◌≡◌, ℕ, ◌+◌, ◌<◌, ◌≤◌, ◌⊎◌, List, length, None}
use Rattle.model.specs.declared.refusal.Side.{Side}
use Rattle.model.specs.declared.refusal.Side.TheVariants.{Columns, Rows}
use Rattle.model.specs.declared.refusal.Refusal.{Refusal}
use Rattle.model.specs.declared.refusal.Refusal.TheVariants.{Length, Size, Value, Short, Change, Table, Level, Sends, Amount}
use Rattle.model.specs.Limits.{max_side, max_height, max_rain, head_bytes}
use Rattle.model.specs.Bytes.{columns, rows, count, start, height_at, rain_at, mark_at}
use Rattle.model.specs.Refusals.{place}
use Rattle.model.specs.Faults.{fault}

-- a number of columns or rows that is in range
abbrev pub Fits : ℕ → Type 0
Fits n = (1 ≤ n) × (n ≤ max_side)

-- a file that is well formed: both sizes in range, the length that they ask for, every value in range
pub record WellFormed (bs : List ℕ) : Type 0 where
  pub wide : Fits (columns bs)
  pub tall : Fits (rows bs)
  pub long : length bs ≡ start (count bs)
  pub heights : (c : ℕ) → c < count bs → height_at bs c ≤ max_height
  pub rains : (c : ℕ) → c < count bs → rain_at bs c ≤ max_rain
  pub marks : (c : ℕ) → c < count bs → mark_at bs c ≤ 1

-- A FILE IS TAKEN if and only if it is well formed
abbrev pub TakenIfWellFormed : Type 0
TakenIfWellFormed = (bs : List ℕ) → (fault bs ≡ None → WellFormed bs) × (WellFormed bs → fault bs ≡ None)

-- every field that ends at or before place p is there and in range; the sizes are read only where both are there
pub record WholeBefore (bs : List ℕ) (p : ℕ) : Type 0 where
  pub there : p ≤ length bs
  pub wide : head_bytes ≤ length bs → 2 ≤ p → Fits (columns bs)
  pub tall : head_bytes ≤ length bs → 4 ≤ p → Fits (rows bs)
  pub heights : (c : ℕ) → c < count bs → start c + 4 ≤ p → height_at bs c ≤ max_height
  pub rains : (c : ℕ) → c < count bs → start c + 8 ≤ p → rain_at bs c ≤ max_rain
  pub marks : (c : ℕ) → c < count bs → start c + 9 ≤ p → mark_at bs c ≤ 1

-- the file ends at p, before its sizes or its last cell are whole; or it goes on at p behind its last cell
abbrev pub WrongLength : List ℕ → ℕ → Type 0
WrongLength bs p = ((p ≡ length bs) × ((p < head_bytes) ⊎ (p < start (count bs)))) ⊎ ((p ≡ start (count bs)) × (p < length bs))

-- one of the two sizes is out of range
abbrev pub WrongSize : List ℕ → Side → Type 0
WrongSize bs Columns = Fits (columns bs) → ⊥
WrongSize bs Rows = Fits (rows bs) → ⊥

-- a height, a rain or a drain mark that begins at p is out of range
abbrev pub WrongValue : List ℕ → ℕ → Type 0
WrongValue bs p = (c : ℕ) × (c < count bs) × (((p ≡ start c) × (max_height < height_at bs c)) ⊎ (((p ≡ start c + 4) × (max_rain < rain_at bs c)) ⊎ ((p ≡ start c + 8) × (1 < mark_at bs c))))

-- what is wrong at the place of a refusal; a file is refused for no other reason
abbrev pub Wrong : List ℕ → Refusal → Type 0
Wrong bs (Length p) = WrongLength bs p
Wrong bs (Size side) = WrongSize bs side
Wrong bs (Value p) = WrongValue bs p
Wrong bs (Short lent) = ⊥
Wrong bs (Change k) = ⊥
Wrong bs (Table len) = ⊥
Wrong bs (Level c) = ⊥
Wrong bs (Sends c) = ⊥
Wrong bs (Amount c) = ⊥

-- A REFUSAL AT A PLACE means that all before it is whole and in range, and what is wrong there
pub record RefusedAt (bs : List ℕ) (r : Refusal) : Type 0 where
  pub before : WholeBefore bs (place r)
  pub wrong : Wrong bs r
