use Rattle.std.proofs.Common.{rules, ◌^◌, ◌∙◌, sum_by, arith, tests, ap}
use Rattle.std.specs.List.{range_with_len}
use Rattle.std.proofs.lemmas.Iterator.{YieldsList-from_range, YieldsList-from_map}
use Rattle.std.proofs.lemmas.Iterator.Consumers.{sum_by_from_yields_List, fits_by_from_yields_list}
use Rattle.model.proofs.Taken.{formed}
use Rattle.amounts.proofs.Passes.{rain_low}
use Rattle.amounts.proofs.Rains.{read_rain, rain_summed}
use Rattle.amounts.proofs.passing.rained.Goals as goal

pub sum-requires-clause-fits : goal.sum-requires-clause-fits
sum-requires-clause-fits c =
    let bs = c.args.model.now.bytes.now in
    let cells = range_with_len 0 c.cells.result in
    let low = rain_low bs (formed bs c.args.model.now.taken) in
    let all = rain_summed bs in
    let same = ap (λ n. sum_by (read_rain bs) (range_with_len 0 n)) c.cells.ensures in
    fits_by_from_yields_list (read_rain bs) cells c.map.result (2 ^ 64) (YieldsList-from_map _ (read_rain bs) (YieldsList-from_range 0 c.cells.result _ c.map.ensures.source (omega arith)) c.map.ensures.closure (λ x r q k. search (rules, tests))) (omega (arith, same, all, low))

pub returns : goal.returns
returns c =
    let bs = c.args.model.now.bytes.now in
    let cells = range_with_len 0 c.cells.result in
    let same = ap (λ n. sum_by (read_rain bs) (range_with_len 0 n)) c.cells.ensures in
    sum_by_from_yields_List (read_rain bs) cells c.map.result _ c.sum.ensures.ran (YieldsList-from_map _ (read_rain bs) (YieldsList-from_range 0 c.cells.result _ c.map.ensures.source (omega arith)) c.map.ensures.closure (λ x r q k. search (rules, tests))) ∙ (same ∙ rain_summed bs)
