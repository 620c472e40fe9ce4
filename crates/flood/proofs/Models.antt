-- The land of a model is fair, and its run needs few looks.
use Rattle.std.proofs.Common.{◌*◌, ◌≤◌, ltb, sym, refl, ◌∙◌, arith, ltb-true, lt-ltb}
use Rattle.std.proofs.lemmas.Nat.{mul-le}
use Rattle.std.proofs.lemmas.Bool.{and_parts}
use Rattle.model.specs.Grid.{adjacent}
use Rattle.model.specs.Terrain.{Terrain, land_of}
use Rattle.flood.specs.Fair.{Sound, sides_of}
use Rattle.flood.specs.Right.{ModelsFair, ModelsRight, ModelsFewLooks, RainUnread}
use Rattle.model.proofs.Neighbours.{neighbours_share_a_side}
use Rattle.model.proofs.Positions.{adjacent_both_ways, every_cell_has_a_way}
use Rattle.flood.proofs.Ending.{run_right}

pub few_cells : (t : Terrain) → Sound t → t.w * t.h ≤ 160000
few_cells t so = mul-le t.w t.h 400 400 so.wide so.tall

pub models_fair : ModelsFair
models_fair t so = record {
  few = omega (arith, few_cells t so);
  low = λ c a. omega (arith, so.low c a);
  ways = λ c a. (1000000, every_cell_has_a_way t 1000000 so.low c a);
  both = λ c d a b. adjacent_both_ways t.w c d;
  listed = λ c d a b. neighbours_share_a_side t.w t.h c d ∙ rw (lt-ltb d (t.w * t.h) b);
  within = λ c d a e. ltb-true d (t.w * t.h) (and_parts (ltb d (t.w * t.h)) (adjacent t.w c d) (sym (neighbours_share_a_side t.w t.h c d) ∙ e)).0;
}

pub models_right : ModelsRight
models_right t so = run_right (land_of t) (sides_of t) (models_fair t so)

pub models_few_looks : ModelsFewLooks
models_few_looks t so =
    let few = (models_right t so).few 20 (omega (arith, few_cells t so)) in
    (omega arith, omega arith)

pub rain_unread : RainUnread
rain_unread t rain = refl
