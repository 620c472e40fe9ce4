use Rattle.basins.proofs.Walking.{pass_finds_exits, pass_keeps_length}
use Rattle.basins.proofs.theorems.pass_finds_all_exits.Goals as goal

pub returns : goal.returns
returns c = record { exits = pass_finds_exits; length = pass_keeps_length }
