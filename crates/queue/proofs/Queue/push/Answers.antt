use Rattle.std.proofs.Common.{sym, ap, ◌∙◌, subst, arith}
use Rattle.queue.specs.Heap.{pushed}
use Rattle.queue.specs.Limits.{most_looks}
use Rattle.queue.proofs.Laws.{AfterPush, after_push}
use Rattle.queue.proofs.Queue.push.Goals as goal

pub returns : goal.returns
returns c =
    let xs = c.args.self.now.words.now in
    let len = c.args.self.now.len in
    let kept = c.sift_up-looks.ensures in
    let is = kept.words ∙ ap (pushed xs len) c.from.ensures.word in
    let law = subst (AfterPush xs len _) (sym is) (after_push xs len _ (omega arith)) in
    record {
      same_reference = kept.same_reference;
      after = (omega arith, is);
      len = omega arith;
      order = rw kept.len law.order;
      content = rw kept.len (λ _. law.content);
      rest = law.rest;
      few = law.few;
      limit = λ most. law.few most_looks (omega arith);
    }
