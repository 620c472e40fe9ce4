-- Each outlet is put into the queue with its height.
use Rattle.std.proofs.Common.{◌≡◌, true, false, ltb, sym, ◌∙◌, subst, arith, ltb-true, lt-ltb}
use Rattle.std.proofs.lemmas.Bool.{and_parts, cond-true}
use Rattle.std.proofs.lemmas.Bool.Decides.{nat_tests}
use Rattle.model.specs.Bytes.{count}
use Rattle.model.specs.Terrain.{land}
use Rattle.model.proofs.Taken.{formed}
use Rattle.flood.specs.Run.{none, put, begun, after}
use Rattle.flood.specs.Held.{Holds}
use Rattle.flood.specs.Of.{ground}
use Rattle.flood.proofs.Turns.{begin_room, begin_skip, begin_put}
use Rattle.flood.proofs.Work.{same_at, same_after}
use Rattle.flood.proofs.flooding.Run.begin.Goals as goal

pub outlets-init : goal.outlets-init
unfolding begun
outlets-init c = (same_at c.args.self.now c.args.queue.now, c.requires)

pub put-requires : goal.put-requires
put-requires c =
    let bs = c.args.model.now.bytes.now in
    let inside = ltb-true _ _ (and_parts _ _ (sym c.if-not-leaves.ensures)).0 in
    let r = begin_room bs (formed bs c.args.model.now.taken) c.outlets.c c.outlets.self c.outlets.queue inside c.outlets.invariant.1 in
    record { cell = r.cell; room = r.room; few = r.few }

pub outlets-preserved-then-not-leaves : goal.outlets-preserved-then-not-leaves
outlets-preserved-then-not-leaves c =
    let bs = c.args.model.now.bytes.now in
    let inside : ltb c.outlets.c (count bs) ≡ true = lt-ltb _ _ (omega arith) in
    let inland : (land bs).leaves c.outlets.c ≡ false = grind (arith, nat_tests) in
    (c.outlets.invariant.0, begin_skip bs (formed bs c.args.model.now.taken) c.outlets.c c.outlets.self c.outlets.queue inland c.outlets.invariant.1)

pub outlets-preserved : goal.outlets-preserved
outlets-preserved c =
    let bs = c.args.model.now.bytes.now in
    let k = c.outlets.c in
    let outlet = and_parts _ _ (sym c.if-not-leaves.ensures) in
    let s = begun (ground c.args.model.now) k in
    let height = c.height_of-level.ensures ∙ cond-true (ltb k (count bs)) _ _ outlet.0 in
    let held = subst (λ v. Holds (put v none k s) c.put.new.self c.put.new.queue) height (c.put.ensures.put s c.outlets.invariant.1) in
    (same_after _ _ _ _ _ _ c.outlets.invariant.0 c.put.ensures.same, begin_put bs (formed bs c.args.model.now.taken) k c.put.new.self c.put.new.queue outlet.1 held)

pub returns-clause-begun : goal.returns-clause-begun
unfolding after
returns-clause-begun c =
    let all : c.outlets.c ≡ count c.args.model.now.bytes.now = omega arith in
    subst (λ k. Holds (begun (ground c.args.model.now) k) c.outlets.self c.outlets.queue) all c.outlets.invariant.1
