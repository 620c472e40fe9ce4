-- What the flood leaves in the lent slices, and what it answers.
use Rattle.std.specs.Prelude.{◌≡◌, ℕ, ◌+◌, ◌*◌, ◌≤◌, cond, List, ◌++◌, length, drop, Some, None, Option, nat_lt}
use Rattle.model.specs.declared.refusal.Lent.TheVariants.{Levels, Flow, Work}
use Rattle.model.specs.declared.refusal.Refusal.{Refusal}
use Rattle.model.specs.declared.refusal.Refusal.TheVariants.{Short}
use Rattle.model.specs.Bytes.{count}
use Rattle.model.specs.Terrain.{terrain, land}
use Rattle.flood.specs.Run.{State, table}
use Rattle.flood.specs.Fair.{model_ground}
use Rattle.flood.specs.Right.{Right}

-- the first slice that is too short for n cells: one level, one arrow and three words of work are needed for each
abbrev pub too_short : ℕ → List ℕ → List ℕ → List ℕ → Option Refusal
too_short n levels flow work =
    cond (nat_lt (length levels) n) (Some (Short Levels)) (cond (nat_lt (length flow) n) (Some (Short Flow)) (cond (nat_lt (length work) (3 * n)) (Some (Short Work)) None))

-- what the rule gives for the bytes of a model
abbrev pub table_of : List ℕ → State
table_of bs = table (model_ground (terrain bs))

-- slices that held ls, fl and wk hold the levels, the flow, and queue, order and places of n cells, and are as they were behind them
pub record Written (s : State) (n : ℕ) (ls fl wk ls' fl' wk' : List ℕ) : Type 0 where
  pub levels : ls' ≡ s.levels ++ drop n ls
  pub flow : fl' ≡ s.flow ++ drop n fl
  pub work : wk' ≡ s.queue ++ (s.order ++ (s.places ++ drop (3 * n) wk))

-- THE FLOOD of a model: the slices hold what the rule gives, which is right, with the rule's looks, and few of them
pub record Flooded (bs ls fl wk ls' fl' wk' : List ℕ) (looks : ℕ) : Type 0 where
  pub written : Written (table_of bs) (count bs) ls fl wk ls' fl' wk'
  pub counted : looks ≡ (table_of bs).looks
  pub right : Right (land bs) (table_of bs)
  pub few : looks ≤ 2000000 + 5 * 21 * count bs
