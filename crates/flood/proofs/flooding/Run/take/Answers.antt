use Rattle.std.proofs.Common.{◌≡◌, get_or, ap, ◌∙◌, arith}
use Rattle.queue.specs.Heap.{cell_of, level_of}
use Rattle.flood.specs.Run.{first_cell, first_level, taken}
use Rattle.flood.proofs.Work.{taken_held}
use Rattle.flood.proofs.flooding.Run.take.Goals as goal

pub returns-clause-taken : goal.returns-clause-taken
unfolding taken
returns-clause-taken c =
    let e = c.in_ok-popped.ensures in
    let first = get_or c.args.queue.now.words.now 0 0 in
    let cell : c.in_ok-popped.popped.entry.cell.0 ≡ cell_of first = omega (arith, e.after.first) in
    let level : c.in_ok-popped.popped.entry.level.0 ≡ level_of first = omega (arith, e.after.first) in
    record {
      some = e.after.some;
      cell = λ s h. cell ∙ ap first_cell h;
      level = λ s h. level ∙ ap first_level h;
      leads = λ s h. rw (c.index.ensures, c.from.ensures) (taken_held s c.args.self.now c.args.queue.now c.pop.new.self c.in_ok-popped.popped.entry.cell.0 c.in_ok-popped.popped.looks h (cell ∙ ap first_cell h) e.after.after e.len);
    }
