use Rattle.model.proofs.Writes.{heights_read_back, rains_read_back, marks_read_back}
use Rattle.model.proofs.theorems.writes_read_back.Goals as goal

pub returns : goal.returns
returns c = record { heights = heights_read_back; rains = rains_read_back; marks = marks_read_back }
