use Rattle.std.proofs.Common.{replicate, ap, ◌∙◌, take, drop}
use Rattle.flood.specs.Run.{none}
use Rattle.flood.proofs.Work.{blank_held}
use Rattle.flood.proofs.flooding.flood_all.Goals as goal

pub begin-requires : goal.begin-requires
begin-requires c =
    let e = c.clear.ensures in
    let sized = c.requires in
    let wk = c.clear.new.work in
    let heap = c.split_at_mut-words.ensures in
    let noted = c.split_at_mut-order.ensures in
    blank_held _ _ _ _ wk _ _ _ (e.levels ∙ ap (λ k. replicate k none) sized.of_levels) (e.flow ∙ ap (λ k. replicate k none) sized.of_flow) (e.work ∙ ap (λ k. replicate k none) sized.of_work)
    (c.new-queue.ensures.words ∙ heap.front ∙ ap (λ k. take k wk) sized.of_levels)
    (noted.front ∙ ap (take _) heap.back ∙ ap (λ k. take k (drop k wk)) sized.of_levels)
    (noted.back ∙ ap (drop _) heap.back ∙ ap (λ k. drop k (drop k wk)) sized.of_levels) c.new-queue.ensures.len
