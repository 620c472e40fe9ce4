-- What `split` gives are the lines of the text, and `enumerate` counts them.
use Rattle.std.proofs.Common.{◌==◌, rules}
use Rattle.std.proofs.lemmas.Iterator.Consumers.{YieldsList-turn, YieldsList-end, YieldsList-from_enumerate}
use Rattle.std.proofs.lemmas.Iterator.Splits.{YieldsList-from_slice_split}
use Rattle.std.proofs.lemmas.List.{length_push}
use Rattle.changes.proofs.Words.{read_on, read_all}
use Rattle.changes.proofs.text.read_row.Goals as goal
use borrow.Author.Tests.{tests}

pub lines-preserved : goal.lines-preserved
lines-preserved c =
    let t = YieldsList-turn (YieldsList-from_enumerate {s = c.into_iter-i-iterator.result} (YieldsList-from_slice_split {s = c.into_iter-i-iterator.result.iter} _ (λ x. x == 10) c.args.text.now (cc) (cc) (cc) (λ x r q k. search (rules, tests))) (cc))
    c.lines.yielded c.lines.i-iterator c.lines.yielded_by _ _ (c.in-Some.i, c.in-Some.line) c.in-Some.is c.next.ensures.steps in
    rw (length_push c.lines.yielded (c.in-Some.i, c.in-Some.line))
    (read_on _ _ _ c.args.text.now _ (c.in-Some.i, c.in-Some.line.now) t.0 t.1 c.in_ok-push_line.ensures c.lines.invariant)

pub returns : goal.returns
returns c =
    let t = YieldsList-end (YieldsList-from_enumerate {s = c.into_iter-i-iterator.result} (YieldsList-from_slice_split {s = c.into_iter-i-iterator.result.iter} _ (λ x. x == 10) c.args.text.now (cc) (cc) (cc) (λ x r q k. search (rules, tests))) (cc))
    c.lines.yielded c.lines.i-iterator c.lines.yielded_by _ _ c.in-None.is c.next.ensures.steps in
    read_all _ _ c.args.text.now _ t.1 c.lines.invariant
