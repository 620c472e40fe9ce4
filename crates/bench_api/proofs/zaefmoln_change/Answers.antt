-- What came of the row is what the callee tells.
use Rattle.std.proofs.Common.{rules, Ok, Err, vec_items}
use Rattle.changes.specs.declared.failure.Failure.TheVariants.{Memory}
use Rattle.bench_api.proofs.zaefmoln_change.Goals as goal

pub returns-in_default : goal.returns-in_default
returns-in_default c = record {
  came = Err Memory;
  told = c.from.ensures;
  holds = (tt, search rules);
}

pub returns-in-Ok-apply_row : goal.returns-in-Ok-apply_row
returns-in-Ok-apply_row c = record {
  came = Ok (vec_items c.in-Ok-apply_row.answers);
  told = search rules;
  holds = search rules;
}

pub returns : goal.returns
returns c = record { came = Err c.in-Err.failure; told = c.from-in-Err.ensures; holds = search rules }
