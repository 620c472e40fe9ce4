use Rattle.flood.specs.Run.{put}
use Rattle.flood.specs.Sent.{sends_code}
use Rattle.flood.proofs.Work.{put_held}
use Rattle.flood.proofs.flooding.Run.put.Goals as goal

pub returns-in-Some-clause-put : goal.returns-in-Some-clause-put
unfolding put
returns-in-Some-clause-put c = λ s h.
    let e = c.in-Some.ensures in
    rw (c.index.ensures, c.index-2.ensures, c.from.ensures) (put_held s c.args.self.now c.args.queue.now c.push.new.self c.args.entry.level.0 (sends_code c.args.sends) c.args.entry.cell.0 c.in-Some.looks h e.after.1 e.len)
