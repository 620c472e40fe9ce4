use Rattle.std.proofs.Common.{◌≡◌, List, ℕ, ◌++◌, Some, string_bytes}
use Rattle.std.specs.List.{flat_map}
use Rattle.tables.specs.Printing.{line}
use Rattle.tables.proofs.printing.push_lines.Given as goal

abbrev pub invariant-loop-value : goal.invariant-loop-value
invariant-loop-value g l = record {
  can : (goal.iterator-loop-value g).can_next l.value-iterator;
  ends : (goal.iterator-loop-value g).is_finite l.value-iterator;
  lines : (text : _ → List ℕ) → ((x : _) → g.T.Display.output x ≡ Some (text x)) → string_bytes l.out ≡ string_bytes l.initial.out ++ flat_map (λ x. line (text x)) l.yielded;
}
