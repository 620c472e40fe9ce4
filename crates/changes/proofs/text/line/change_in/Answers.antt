-- What the calls of `next` gave are the first words of the line.
use Rattle.std.proofs.Common.{[], ◌∷◌, refl, arith, rules}
use Rattle.changes.proofs.Words.{read_words, other_words, too_many_words}
use Rattle.changes.proofs.text.line.change_in.Goals as goal
use borrow.Author.Tests.{tests}

pub returns-in-Some-Some-Some-None : goal.returns-in-Some-Some-Some-None
returns-in-Some-Some-Some-None c =
    let s = c.split-words.ensures in
    let w = c.in-Some-Some-Some-None in
    read_words _ c.args.line.now c.split-words.result c.next-3.new.self _ (w.name ∷ w.cell ∷ w.value ∷ []) (c.next.new.self, w.ensures.steps, (c.next-2.new.self, w.ensures'.steps, (c.next-3.new.self, w.ensures''.steps, refl)))
    s.rest s.done s.closure (λ x r q k. search (rules, tests)) w.ensures'''.steps _ c.change_named.ensures

pub returns-in_default : goal.returns-in_default
returns-in_default c =
    let s = c.split-words.ensures in
    let w = c.in_default in
    too_many_words _ c.args.line.now c.split-words.result c.next-3.new.self c.next-4.new.self (w.field-0-0 ∷ w.field-0-1 ∷ w.field-0-2 ∷ []) (c.next.new.self, w.ensures.steps, (c.next-2.new.self, w.ensures'.steps, (c.next-3.new.self, w.ensures''.steps, refl)))
    s.rest s.done s.closure (λ x r q k. search (rules, tests)) w.field-0-3 w.ensures'''.steps refl

pub returns-in_default-2 : goal.returns-in_default-2
returns-in_default-2 c =
    let s = c.split-words.ensures in
    let w = c.in_default in
    other_words _ c.args.line.now c.split-words.result c.next-2.new.self _ (w.field-0-0 ∷ w.field-0-1 ∷ []) (c.next.new.self, w.ensures.steps, (c.next-2.new.self, w.ensures'.steps, refl))
    s.rest s.done s.closure (λ x r q k. search (rules, tests)) w.ensures''.steps (λ e. omega arith)

pub returns-in_default-3 : goal.returns-in_default-3
returns-in_default-3 c =
    let s = c.split-words.ensures in
    let w = c.in_default in
    other_words _ c.args.line.now c.split-words.result c.next.new.self _ (w.field-0-0 ∷ []) (c.next.new.self, w.ensures.steps, refl) s.rest s.done s.closure (λ x r q k. search (rules, tests)) w.ensures'.steps (λ e. omega arith)
