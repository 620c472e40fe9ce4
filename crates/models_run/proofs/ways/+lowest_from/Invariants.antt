-- A search has fewer cells left at each step.
use Rattle.models_run.proofs.ways.+lowest_from.Given as goal

abbrev pub decreases-lowest_from : goal.decreases-lowest_from
decreases-lowest_from l = l.left
