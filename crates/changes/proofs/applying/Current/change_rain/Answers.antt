-- A rain that is refused changes nothing; one that is written leaves amounts that add up but at its cell.
use Rattle.std.proofs.Common.{ap, rules, sym, refl, ◌∙◌, arith}
use Rattle.changes.specs.declared.asked.Change.TheVariants.{Rain}
use Rattle.changes.proofs.Outcomes.{refused_changes}
use Rattle.changes.proofs.RainChange.{Rained, rained}
use Rattle.changes.proofs.applying.Current.change_rain.Goals as goal
use Rattle.changes.proofs.applying.Current.change_rain.Goals.{In_ok-write_change, After-new-model}

-- the rain was written into the bytes
written : (c : In_ok-write_change) → Rained c.args.self.now c.args.slices.now c.args.cell c.args.rain c.rain_of-old.result c.write_change.new.bytes
written c =
    let w = c.in_ok-write_change.ensures in
    rained c.args.self.now c.args.slices.now c.args.cell c.args.rain c.rain_of-old.result _ _ c.requires w.done w.bytes c.new.ensures.bytes c.rain_of-old.ensures

-- and stands in the model of these bytes
read : (c : After-new-model) → Rained c.args.self.now c.args.slices.now c.args.cell c.args.rain c.rain_of-old.result c.new-model.result.bytes.now
read c =
    let w = c.in_ok-write_change.ensures in
    rained c.args.self.now c.args.slices.now c.args.cell c.args.rain c.rain_of-old.result _ _ c.requires w.done (c.new-model.ensures.bytes ∙ w.bytes) c.new.ensures.bytes c.rain_of-old.ensures

pub returns-in_err-write_change-clause-after : goal.returns-in_err-write_change-clause-after
returns-in_err-write_change-clause-after c =
    let w = c.in_err-write_change.ensures in
    refused_changes c.args.self.now c.args.slices.now c.requires (Rain c.args.cell c.args.rain) _ w.bytes _ (sym w.done) refl refl refl (search rules)

pub new-model-requires : goal.new-model-requires
new-model-requires c =
    let r = written ((goal.at.new-model-requires c).In_ok-write_change) in
    record { sized = r.sized; taken = r.taken }

pub move_amounts-requires : goal.move_amounts-requires
move_amounts-requires c =
    let r = read ((goal.at.move_amounts-requires c).After-new-model) in
    record { cell = r.cell; flow = r.flow; long = r.long; rain = r.rain; low = r.low; off = r.off }

pub overflow_add-self : goal.overflow_add-self
overflow_add-self c = omega (arith, (read ((goal.at.overflow_add-self c).After-new-model)).sum)

pub overflow_sub-self : goal.overflow_sub-self
overflow_sub-self c = (read ((goal.at.overflow_sub-self c).After-new-model)).rest

pub returns-clause-outcome : goal.returns-clause-outcome
returns-clause-outcome c = (read ((goal.at.returns-clause-outcome c).After-new-model)).outcome _ refl refl

pub returns-clause-after : goal.returns-clause-after
returns-clause-after c =
    (read ((goal.at.returns-clause-after c).After-new-model)).after _ _ refl (sym c.new-model.ensures.bytes) refl
    (ap (λ xs. record { levels = c.args.slices.now.levels.now; flow = c.args.slices.now.flow.now; amounts = xs; work = c.args.slices.now.work.now }) c.move_amounts.ensures.amounts) (search rules)
