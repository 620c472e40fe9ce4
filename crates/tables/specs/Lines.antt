-- The bytes of the lines that are printed: decimal numbers without leading zeros, one space between words, a newline after each line.
use Rattle.std.specs.Prelude.{ℕ, cond, ◌&&◌, List, [], ◌++◌, Some, None, codes, decimal, nat_lt, slice_index, Option}
use Rattle.model.specs.declared.refusal.Refusal.{Refusal}
use Rattle.model.specs.Bytes.{count, height_at, rain_at}
use Rattle.model.specs.Refusals.{refused_text}
use Rattle.amounts.specs.Joined.{joined}
use Rattle.amounts.specs.Passing.{leaves_at}
use Rattle.tables.specs.declared.lines.Exit.{Exit}
use Rattle.tables.specs.declared.lines.Level.{Level}
use Rattle.tables.specs.Printing.{line}

-- a refusal
abbrev pub refusal_line : Refusal → List ℕ
refusal_line r = line (refused_text r)

-- the first line of a drained model: how many cells it has, what rained on it and what leaves it
abbrev pub summary_text : ℕ → ℕ → ℕ → List ℕ
summary_text cells rain leaves = codes "cells " ++ (decimal cells ++ (codes " rain " ++ (decimal rain ++ (codes " leaves " ++ decimal leaves))))

abbrev pub summary : ℕ → ℕ → ℕ → List ℕ
summary cells rain leaves = line (summary_text cells rain leaves)

-- a cell's level
abbrev pub level_text : ℕ → ℕ → List ℕ
level_text cell level = codes "level " ++ (decimal cell ++ (codes " " ++ decimal level))

abbrev pub level_line : ℕ → ℕ → List ℕ
level_line cell level = line (level_text cell level)

-- what leaves the land at a cell
abbrev pub exit_text : ℕ → ℕ → List ℕ
exit_text cell amount = codes "exit " ++ (decimal cell ++ (codes " amount " ++ decimal amount))

abbrev pub exit_line : ℕ → ℕ → List ℕ
exit_line cell amount = line (exit_text cell amount)

-- a cell's level, where it is above its height
abbrev pub level_if : ℕ → ℕ → ℕ → List ℕ
level_if cell height level = cond (nat_lt height level) (level_line cell level) []

-- what leaves at a cell, where it is above the cell's own rain
abbrev pub exit_if : ℕ → ℕ → ℕ → List ℕ
exit_if cell rain leaves = cond (nat_lt rain leaves) (exit_line cell leaves) []

-- the lines of a cell of a model, by lists of levels, flow and amounts
abbrev pub level_of : (bs levels : List ℕ) → ℕ → List ℕ
level_of bs levels c = level_if c (height_at bs c) (slice_index levels c)

abbrev pub exit_of : (bs flow amounts : List ℕ) → ℕ → List ℕ
exit_of bs flow amounts c = exit_if c (rain_at bs c) (leaves_at flow amounts c)

-- what these lines say, if the model has the cell
abbrev pub level_above : (bs levels : List ℕ) → ℕ → Option Level
level_above bs levels c =
    cond (nat_lt c (count bs) && nat_lt (height_at bs c) (slice_index levels c)) (Some (record { cell = record { 0 = c }; level = record { 0 = slice_index levels c } })) None

abbrev pub exit_above : (bs flow amounts : List ℕ) → ℕ → Option Exit
exit_above bs flow amounts c =
    cond (nat_lt c (count bs) && nat_lt (rain_at bs c) (leaves_at flow amounts c)) (Some (record { cell = record { 0 = c }; amount = record { 0 = leaves_at flow amounts c } })) None

-- all lines of a drained model: the first line, then all levels, then all exits
abbrev pub drain_lines : (bs levels flow amounts : List ℕ) (rain leaves : ℕ) → List ℕ
drain_lines bs levels flow amounts rain leaves =
    (summary (count bs) rain leaves ++ joined (level_of bs levels) (count bs)) ++ joined (exit_of bs flow amounts) (count bs)
