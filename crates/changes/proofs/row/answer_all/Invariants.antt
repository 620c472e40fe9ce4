use Rattle.std.proofs.Common.{◌≡◌, vec_items, vec_len, vec_capacity}
use Rattle.changes.proofs.RowLoop.{Answered}
use Rattle.changes.proofs.row.answer_all.Given as goal

abbrev pub invariant-loop-k : goal.invariant-loop-k
invariant-loop-k l = record {
  answered : Answered l.initial.current l.initial.slices l.row l.k l.current l.slices (vec_items l.answers);
  len : vec_len l.answers ≡ l.k;
  capacity : vec_capacity l.answers ≡ vec_capacity l.initial.answers;
}
