-- What the plain numbers of an answer stand for.
use Rattle.std.specs.Prelude.{◌≡◌, ℕ, List, Some, None, Option}
use Rattle.model.specs.declared.refusal.Refusal.{Refusal}
use Rattle.model.specs.Refusals.{number, place}
use Rattle.model.specs.Slices.{Contents}
use Rattle.amounts.specs.declared.answer.Drained.{Drained}
use Rattle.bench_api.specs.declared.Answer.{Answer}

-- what four lent slices hold
abbrev pub contents_of : List ℕ → List ℕ → List ℕ → List ℕ → Contents
contents_of ls fl am wk = record { levels = ls; flow = fl; amounts = am; work = wk }

-- the number and the place of a refusal, which has a number from 1 to 9; 0 and 0 where there is none
abbrev pub number_of : Option Refusal → ℕ
number_of None = 0
number_of (Some e) = number e

abbrev pub place_of : Option Refusal → ℕ
place_of None = 0
place_of (Some e) = place e

-- what draining answered
abbrev pub drained_of : Answer → Drained
drained_of a = record { looks = a.looks; rain = record { 0 = a.rain }; leaves = record { 0 = a.leaves } }

-- no looks and no amounts
pub record NothingTold (a : Answer) : Type 0 where
  pub looks : a.looks ≡ 0
  pub rain : a.rain ≡ 0
  pub leaves : a.leaves ≡ 0

-- a model that was drained, and one that was refused
abbrev pub drained : Drained → Answer
drained d = record { refused = 0; looks = d.looks; place = 0; rain = d.rain.0; leaves = d.leaves.0 }

abbrev pub refused : Refusal → Answer
refused e = record { refused = number e; looks = 0; place = place e; rain = 0; leaves = 0 }
