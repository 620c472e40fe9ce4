use Rattle.std.proofs.Common.{rules, ◌^◌, ◌∙◌, arith, tests}
use Rattle.std.specs.List.{zip}
use Rattle.std.proofs.lemmas.Iterator.{YieldsList-from_slice, YieldsList-from_map, YieldsList-from_zip}
use Rattle.std.proofs.lemmas.Iterator.Consumers.{YieldsList-at, sum_by_from_yields_List, fits_by_from_yields_list}
use Rattle.amounts.proofs.Rains.{pair_left, leaves_summed}
use Rattle.amounts.proofs.passing.leaving.Goals as goal

pub sum-requires-clause-fits : goal.sum-requires-clause-fits
sum-requires-clause-fits c =
    let flow = c.args.flow.now in
    let amounts = c.args.amounts.now in
    fits_by_from_yields_list pair_left (zip flow amounts) c.map.result (2 ^ 64) (YieldsList-from_map _ pair_left (YieldsList-at c.map.ensures.source (YieldsList-from_zip (YieldsList-from_slice flow cc) (YieldsList-from_slice amounts cc))) c.map.ensures.closure (λ x r q k. search (rules, tests))) (omega (arith, leaves_summed flow amounts c.requires.long, c.requires.fits))

pub returns : goal.returns
returns c =
    let flow = c.args.flow.now in
    let amounts = c.args.amounts.now in
    sum_by_from_yields_List pair_left (zip flow amounts) c.map.result _ c.sum.ensures.ran (YieldsList-from_map _ pair_left (YieldsList-at c.map.ensures.source (YieldsList-from_zip (YieldsList-from_slice flow cc) (YieldsList-from_slice amounts cc))) c.map.ensures.closure (λ x r q k. search (rules, tests))) ∙ leaves_summed flow amounts c.requires.long
