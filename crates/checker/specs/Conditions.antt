-- What is asked of each cell of a table, over any land.
use Rattle.std.specs.Prelude.{ℕ, zero, suc, ◌+◌, max, Bool, true, cond, not, ◌&&◌, ◌||◌, ◌==◌, nat_le, nat_lt}
use Rattle.model.specs.Land.{Land}
use Rattle.flood.specs.Levels.{Flow}
use Rattle.amounts.specs.Amounts.{sent}

-- c sends off exactly where water may leave
abbrev pub off_ok : Land → Flow → ℕ → Bool
off_ok l f c = cond (f.off c) (l.leaves c) (not (l.leaves c))

-- and where it does not send off, it sends to a cell of the land next to it that has an earlier place
unfoldable pub sends_ok : Land → Flow → ℕ → Bool
sends_ok l f c = off_ok l f c && (f.off c || ((nat_lt (f.to c) l.cells && l.next c (f.to c)) && nat_lt (f.far (f.to c)) (f.far c)))

-- none of the cells numbered below n that lie next to c has a lower level than c
unfoldable pub none_lower : Land → Flow → ℕ → ℕ → Bool
none_lower l f c zero = true
none_lower l f c (suc n) = (not (l.next c n) || nat_le (f.level c) (f.level n)) && none_lower l f c n

-- how high water stands at c: at its height where it sends off, else no lower than where it sends to
abbrev pub filled : Land → Flow → ℕ → ℕ
filled l f c = cond (f.off c) (l.height c) (max (l.height c) (f.level (f.to c)))

-- no level is below the height, water stands as high as it fills c, and above a cell next to it only at the height of c
unfoldable pub level_ok : Land → Flow → ℕ → Bool
level_ok l f c = (nat_le (l.height c) (f.level c) && f.level c == filled l f c) && (l.height c == f.level c || none_lower l f c l.cells)

-- the amount of c is its rain and what all cells send to it
unfoldable pub amount_ok : Land → Flow → (ℕ → ℕ) → ℕ → Bool
amount_ok l f g c = g c == l.rain c + sent f g c l.cells
