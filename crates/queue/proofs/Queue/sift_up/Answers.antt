use Rattle.std.proofs.Common.{arith, length-set}
use Rattle.queue.proofs.Loops.{rise_goes, rise_stays, rise_ends, rise_few}
use Rattle.queue.proofs.Queue.sift_up.Goals as goal
use Rattle.queue.proofs.Queue.sift_up.Goals.{else-loop-free-test, then-loop-free-test+then-coded-self}

pub overflow_add-looks : goal.overflow_add-looks
overflow_add-looks c = let r = c.loop-free.invariant.rising in omega (arith, rise_few r.0 r.1 c.requires (omega arith) c.loop-free.invariant.within)

pub loop-free-preserved : goal.loop-free-preserved
loop-free-preserved c =
    let kept = c.loop-free.invariant in
    record {
      same_reference = kept.same_reference;
      len = kept.len;
      long = simp length-set (omega arith);
      within = simp length-set (omega arith);
      rising = rise_goes kept.rising.0 kept.rising.1 (omega arith) (omega arith);
    }

pub returns-clause-words : goal.returns-clause-words
returns-clause-words c =
    let r = c.loop-free.invariant.rising in
    elim c.loop-free-test.branch [
      | else-loop-free-test w ↦ rw w.looks-is (rise_ends r.0 r.1 w.loop-free-test.false)
      | then-loop-free-test+then-coded-self w ↦ rw w.looks-is (rise_stays r.0 r.1 w.loop-free-test.true w.if-coded-self.true)
    ]
