-- The rule by which amounts are found, in the order turned around: steps of a list.
use Rattle.std.specs.Prelude.{◌≡◌, ℕ, zero, suc, ◌+◌, ◌<◌, ◌≤◌, false, cond, List, map, length, ◌==◌, slice_index, slice_index_or, slice_set}
use Rattle.std.specs.List.{range_with_len}
use Rattle.model.specs.Land.{Land}
use Rattle.flood.specs.Levels.{Flow}
use Rattle.flood.specs.Run.{none, State, flow_of}
use Rattle.flood.specs.Right.{Right}
use Rattle.amounts.specs.Amounts.{Carried, Acyclic, all_rain}

-- cell c adds its amount to that of the cell that it sends to; nothing changes where it sends off
unfoldable pub passed_on : List ℕ → ℕ → List ℕ → List ℕ
passed_on flow c amounts =
    cond (slice_index flow c == none) amounts (slice_set amounts (slice_index flow c) (slice_index amounts (slice_index flow c) + slice_index amounts c))

-- the amounts after the last `done` places, with the first `left` still to go: from the last place down each cell passes its amount on
unfoldable pub accumulated : (flow order amounts : List ℕ) → (done left : ℕ) → List ℕ
accumulated flow order amounts zero left = amounts
accumulated flow order amounts (suc done) left = passed_on flow (slice_index order left) (accumulated flow order amounts done (suc left))

-- the amounts at first: the rain of each cell
abbrev pub rains : Land → List ℕ
rains l = map l.rain (range_with_len 0 l.cells)

-- WHAT THE RULE GIVES: the amounts after all places
abbrev pub amounts_of : Land → (flow order : List ℕ) → List ℕ
amounts_of l flow order = accumulated flow order (rains l) l.cells 0

-- a list that says where each of n cells sends
pub record Coded (n : ℕ) (f : Flow) (flow : List ℕ) : Type 0 where
  pub offs : (c : ℕ) → c < n → (slice_index flow c == none) ≡ f.off c
  pub sends : (c : ℕ) → c < n → f.off c ≡ false → slice_index flow c ≡ f.to c

-- such a list, of a flow that leads to earlier places, and a list that holds each cell once, at its place
pub record OrderedFlow (n : ℕ) (f : Flow) (flow order : List ℕ) : Type 0 where
  pub coded : Coded n f flow
  pub falling : Acyclic n f
  pub place : (c : ℕ) → c < n → f.far c < n
  pub cell : (k : ℕ) → k < n → slice_index order k < n
  pub cell_at_place : (c : ℕ) → c < n → slice_index order (f.far c) ≡ c
  pub place_of_cell : (k : ℕ) → k < n → f.far (slice_index order k) ≡ k

-- the last state of the rule for levels has such lists
abbrev pub RunOrdered : Type 0
RunOrdered = (l : Land) (s : State) → Right l s → OrderedFlow l.cells (flow_of s) s.flow s.order

-- THE RULE IS RIGHT: its amounts add up
abbrev pub RuleAddsUp : Type 0
RuleAddsUp =
    (l : Land) (f : Flow) (flow order : List ℕ) → OrderedFlow l.cells f flow order → Carried l f (λ c. slice_index (amounts_of l flow order) c)

-- on the way no list is shorter or longer than the first
abbrev pub RuleKeepsLength : Type 0
RuleKeepsLength = (flow order amounts : List ℕ) (done left : ℕ) → length (accumulated flow order amounts done left) ≡ length amounts

-- and none has an amount above all the rain
abbrev pub RuleStaysBelow : Type 0
RuleStaysBelow =
    (l : Land) (f : Flow) (flow order : List ℕ) → OrderedFlow l.cells f flow order → (done left : ℕ) → done + left ≡ l.cells →
    (c : ℕ) → slice_index (accumulated flow order (rains l) done left) c ≤ all_rain l l.cells

-- so no sum is above it that a place makes
abbrev pub RuleSumsFit : Type 0
RuleSumsFit =
    (l : Land) (f : Flow) (flow order : List ℕ) → OrderedFlow l.cells f flow order → (done left : ℕ) → done + suc left ≡ l.cells →
    let amounts = accumulated flow order (rains l) done (suc left) in
    let c = slice_index_or order left 0 in
    (slice_index flow c == none) ≡ false → slice_index amounts (slice_index flow c) + slice_index amounts c ≤ all_rain l l.cells
