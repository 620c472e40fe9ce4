-- Exits and basins: the way of each cell's water, and where it leaves the land.
use Rattle.std.specs.Prelude.{ℕ, zero, suc, Bool, cond, List, [], ◌∷◌, ◌==◌}
use Rattle.flood.specs.Levels.{Flow}
use Rattle.flood.specs.Sums.{sum}

-- where the water of c is after k steps; from its exit it goes no further
unfoldable pub along : Flow → ℕ → ℕ → ℕ
along f zero c = c
along f (suc k) c = cond (f.off c) c (along f k (f.to c))

-- the cell at which the water of c leaves
abbrev pub exit : Flow → ℕ → ℕ
exit f c = along f (f.far c) c

-- the cells over which the water of c goes in k steps, c first
unfoldable pub way_of : Flow → ℕ → ℕ → List ℕ
way_of f zero c = c ∷ []
way_of f (suc k) c = c ∷ cond (f.off c) [] (way_of f k (f.to c))

-- the way of the water of c, to its exit
abbrev pub way : Flow → ℕ → List ℕ
way f c = way_of f (f.far c) c

-- whether c lies in the basin of e
abbrev pub in_basin : Flow → ℕ → ℕ → Bool
in_basin f e c = exit f c == e

-- the sum of what g gives to the cells in the basin of e that are numbered below n
abbrev pub basin_sum : Flow → (ℕ → ℕ) → ℕ → ℕ → ℕ
basin_sum f g e n = sum (λ c. cond (in_basin f e c) (g c) 0) n

-- the same sums of all exits numbered below n, together
abbrev pub basins_sum : Flow → (ℕ → ℕ) → ℕ → ℕ
basins_sum f g n = sum (λ e. cond (f.off e) (basin_sum f g e n) 0) n
