use Rattle.std.proofs.Common.{refl, arith, length-set}
use Rattle.queue.proofs.Order.{lesser_child}
use Rattle.queue.proofs.Loops.{sink_goes, sink_stays, sink_ends, sink_few}
use Rattle.queue.proofs.Queue.sift_down.Goals as goal
use Rattle.queue.proofs.Queue.sift_down.Goals.{else-loop-free-test, then-loop-free-test+then-coded-self}

pub loop-free-init : goal.loop-free-init
loop-free-init c = record {
  same_reference = refl;
  len = refl;
  long = refl;
  within = c.requires.0;
  sinking = (c.args.self.now.len, record { enough = omega arith; same = refl });
}

pub overflow_add-looks : goal.overflow_add-looks
overflow_add-looks c = let r = c.loop-free.invariant.sinking in omega (arith, sink_few r.0 r.1 c.requires.1 (omega arith) (omega arith) (omega arith))

pub loop-free-preserved : goal.loop-free-preserved
loop-free-preserved c =
    let kept = c.loop-free.invariant in
    let child = rw kept.len at c.lesser_child-child.ensures in
    record {
      same_reference = kept.same_reference;
      len = kept.len;
      long = simp length-set (omega arith);
      within = simp length-set (omega (arith, (lesser_child c.loop-free.self.words.now c.args.self.now.len c.loop-free.free (omega arith)).within));
      sinking = sink_goes kept.sinking.0 _ kept.sinking.1 (omega arith) child (omega arith);
    }

pub returns-clause-words : goal.returns-clause-words
returns-clause-words c =
    let kept = c.loop-free.invariant in
    let r = kept.sinking in
    elim c.loop-free-test.branch [
      | else-loop-free-test w ↦ rw w.looks-is (sink_ends r.0 r.1 (omega arith))
      | then-loop-free-test+then-coded-self w ↦ rw w.looks-is (sink_stays r.0 _ r.1 (omega arith) (rw kept.len at w.lesser_child-child.ensures) w.if-coded-self.true)
    ]
