-- Levels of two lands compared: all by the map lemma.
use Rattle.std.proofs.Common.{◌≤◌, sym, ◌∙◌, subst, arith}
use Rattle.flood.specs.Promises.{Above, OnlyLevels, Rising, DrainMore, Numbering}
use Rattle.flood.proofs.Ways.{way_height, level_carried}

pub above : Above
above l f c d a = way_height (d.level c a).out

pub rising : Rising
rising l m f g cells next leaves height df dg c a =
    level_carried m l g f (λ x. x) (record {
      cells = λ x b. omega arith;
      height = λ x b. height x;
      next = λ x y b b' e. next x y ∙ e;
      leaves = λ x b e. leaves x ∙ e;
    }) dg df c (omega arith)

pub drain_more : DrainMore
drain_more l m f g cells next leaves height df dg c a =
    level_carried l m f g (λ x. x) (record {
      cells = λ x b. omega arith;
      height = λ x b. omega (arith, height x);
      next = λ x y b b' e. sym (next x y) ∙ e;
      leaves = λ x b e. leaves x e;
    }) df dg c a

pub numbering : Numbering
numbering l m f g π ρ p q back df dg c a =
    let there = level_carried l m f g π p df dg c a in
    let again : f.level (ρ (π c)) ≤ g.level (π c) = level_carried m l g f ρ q dg df (π c) (p.cells c a) in
    let here : f.level c ≤ g.level (π c) = subst (λ u. f.level u ≤ g.level (π c)) (back c a) again in
    omega arith

pub only_levels : OnlyLevels
only_levels l f g df dg c a = omega (arith, (df.level c a).least (g.level c) (dg.level c a).out, (dg.level c a).least (f.level c) (df.level c a).out)
