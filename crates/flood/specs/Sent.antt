-- Where a cell sends its water, and how it is coded.
use Rattle.std.specs.Prelude.{ℕ, cond, ◌==◌}
use Rattle.flood.specs.Run.{none}
use Rattle.flood.specs.declared.sends.Sends.{Sends}
use Rattle.flood.specs.declared.sends.Sends.TheVariants.{Off, To}

-- the number of the cell, or no cell's number for off
abbrev pub sends_code : Sends → ℕ
sends_code Off = none
sends_code (To c) = c.0

-- what a code says
abbrev pub sends_of : ℕ → Sends
sends_of code = cond (code == none) Off (To (record { 0 = code }))
