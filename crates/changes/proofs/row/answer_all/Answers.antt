use Rattle.std.proofs.Common.{◌≡◌, ◌+◌, ◌∷◌, [], ◌++◌, vec_items, sym, refl, ◌∙◌, subst, arith}
use Rattle.changes.proofs.RowLoop.{Answered, drained_now, none_answered, one_answered}
use Rattle.changes.proofs.row.answer_all.Goals as goal

pub loop-k-init : goal.loop-k-init
loop-k-init c = record {
  answered = subst (Answered c.args.current.now c.args.slices.now c.args.row.now 0 c.args.current.now c.args.slices.now) (sym c.requires.room.0) (none_answered _ _ _ c.requires.drained);
  len = c.requires.room.1;
  capacity = refl;
}

pub answer-answer-requires : goal.answer-answer-requires
answer-answer-requires c = drained_now _ _ _ c.loop-k.invariant.answered.drained

pub loop-k-preserved : goal.loop-k-preserved
loop-k-preserved c =
    let i = c.loop-k.invariant in
    let e = c.answer-answer.ensures in
    let p = c.push_reserved.ensures in
    let told : vec_items c.push_reserved.new.self ≡ vec_items c.loop-k.answers ++ (c.answer-answer.result ∷ []) = p.items in
    record {
      answered = subst (Answered c.args.current.now c.args.slices.now c.args.row.now (c.loop-k.k + 1) _ _) (sym told) (one_answered _ _ _ _ _ _ _ i.answered _ _ _ _ refl e.answer e.after);
      len = omega (arith, p.len, i.len);
      capacity = p.capacity ∙ i.capacity;
    }
