use Rattle.std.proofs.Common.{rules, ◌∙◌, tests}
use Rattle.std.specs.List.{zip}
use Rattle.std.proofs.lemmas.List.Sums.{length-filter}
use Rattle.std.proofs.lemmas.Iterator.{YieldsList-from_slice, YieldsList-from_zip}
use Rattle.std.proofs.lemmas.Iterator.Consumers.{YieldsList-at, YieldsList-from_filter, count_from_yields_List}
use Rattle.amounts.proofs.Redraining.{pair_differs, changes_counted}
use Rattle.amounts.proofs.again.count_changed.Goals as goal

pub returns : goal.returns
returns c =
    let before = c.args.before.now in
    let levels = c.args.levels.now in
    let counted = count_from_yields_List c.filter.result _ c.count.ensures.ran (YieldsList-from_filter _ pair_differs (YieldsList-at c.filter.ensures.source (YieldsList-from_zip (YieldsList-from_slice before cc) (YieldsList-from_slice levels cc))) c.filter.ensures.closure (λ x r q k. search (rules, tests))) in
    counted ∙ (length-filter pair_differs (zip before levels) ∙ changes_counted before levels c.requires.long)
