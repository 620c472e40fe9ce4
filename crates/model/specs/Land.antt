-- Land made of cells, and the ways off it.
use Rattle.std.specs.Prelude.{◌≡◌, ℕ, ◌<◌, ◌≤◌, Bool, true}

-- cells 0 to cells - 1, which lie next to which, where water can leave the land, the height of each, and the rain on each
pub record Land : Type 0 where
  pub cells : ℕ
  pub next : ℕ → ℕ → Bool
  pub leaves : ℕ → Bool
  pub height : ℕ → ℕ
  pub rain : ℕ → ℕ

-- a way off the land from c that never goes above h: every cell on it is at most h high, and it ends where water can leave
pub data Out (l : Land) (h : ℕ) : ℕ → Type 0 where
  here : {c : ℕ} → c < l.cells → l.height c ≤ h → l.leaves c ≡ true → Out l h c
  on : {c d : ℕ} → c < l.cells → l.height c ≤ h → l.next c d ≡ true → Out l h d → Out l h c
