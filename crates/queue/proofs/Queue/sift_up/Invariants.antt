use Rattle.std.proofs.Common.{◌≡◌, ℕ, ◌<◌, length}
use Rattle.queue.proofs.Loops.{Rising}
use Rattle.queue.proofs.Queue.sift_up.Given as goal

abbrev pub invariant-loop-free : goal.invariant-loop-free
invariant-loop-free l = record {
  same_reference : l.self.words.ghost_name ≡ l.initial.self.words.ghost_name;
  len : l.self.len ≡ l.initial.self.len;
  long : length l.self.words.now ≡ length l.initial.self.words.now;
  within : l.free < length l.self.words.now;
  rising : (f : ℕ) × Rising l.initial.self.words.now l.initial.self.len l.coded l.self.words.now l.free l.looks f;
}

abbrev pub decreases-loop-free : goal.decreases-loop-free
decreases-loop-free l = l.free
