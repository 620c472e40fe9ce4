use Rattle.std.proofs.Common.{sym, subst, arith}
use Rattle.queue.specs.Limits.{most_looks}
use Rattle.queue.proofs.Laws.{AfterPop, after_pop}
use Rattle.queue.proofs.Queue.pop.Goals as goal

pub returns : goal.returns
returns c =
    let xs = c.args.self.now.words.now in
    let len = c.args.self.now.len in
    let kept = c.sift_down-looks.ensures in
    let first = sym c.from.ensures.word in
    let law = subst (AfterPop xs len) (sym kept.words) (after_pop xs len (omega arith) (omega arith)) in
    record {
      same_reference = kept.same_reference;
      after = record { some = omega arith; within = omega arith; first = first; after = kept.words };
      len = kept.len;
      lowest = λ h k b. grind (arith, law.least h k b, c.from.ensures.level, c.from.ensures.cell);
      order = rw kept.len law.order;
      content = rw (kept.len, first) law.content;
      rest = law.rest;
      few = law.few;
      limit = λ most. law.few most_looks (omega arith);
    }
