-- What is promised of the worked models: each is a statement whose proof a contract owes.
use Rattle.std.specs.Prelude.{◌≡◌, ℕ, ◌*◌, ◌<◌, List, map, replicate, None, codes, slice_index}
use Rattle.std.specs.List.{range_with_len, AllByRecursion}
use Rattle.model.specs.Bytes.{columns, rows, height_at, rain_at, mark_at}
use Rattle.model.specs.Faults.{fault}
use Rattle.model.specs.Terrain.{land}
use Rattle.flood.specs.Flooded.{table_of}
use Rattle.flood.specs.Levels.{Level}
use Rattle.amounts.specs.Passing.{table_amounts}
use Rattle.tables.specs.Reports.{drain_text}
use Rattle.worked.specs.Models.{Worked, file, spill, worked_models}

-- the number of cells of a worked model
abbrev pub cells : Worked → ℕ
cells m = m.w * m.h

-- what is said of each of its cells, in the order of numbers
abbrev pub each_cell : Worked → (ℕ → ℕ) → List ℕ
each_cell m said = map said (range_with_len 0 (cells m))

-- the rule gives the levels, the flow and the amounts of a worked model for its file, which is taken and says sizes, heights, rain 1 and no drain
pub record Computed (m : Worked) : Type 0 where
  pub taken : fault (file m) ≡ None
  pub wide : columns (file m) ≡ m.w
  pub tall : rows (file m) ≡ m.h
  pub heights : each_cell m (height_at (file m)) ≡ m.heights
  pub rains : each_cell m (rain_at (file m)) ≡ replicate (cells m) 1
  pub marks : each_cell m (mark_at (file m)) ≡ replicate (cells m) 0
  pub levels : (table_of (file m)).levels ≡ m.levels
  pub flow : (table_of (file m)).flow ≡ m.sends
  pub amounts : table_amounts (file m) ≡ m.amounts

-- and the levels are the lowest heights of ways off its land
pub record AsWorkedOut (m : Worked) : Type 0 where
  pub computed : Computed m
  pub lowest : (c : ℕ) → c < cells m → Level (land (file m)) c (slice_index m.levels c)

-- ALL WORKED MODELS come out as they were worked out
abbrev pub WorkedModels : Type 0
WorkedModels = AllByRecursion AsWorkedOut worked_models

-- THREE LINES are printed of the hollow whose rim has a gap
abbrev pub SpillPrints : Type 0
SpillPrints = drain_text (file spill) ≡ codes "cells 9 rain 9 leaves 9\nlevel 4 3\nexit 5 amount 2\n"
