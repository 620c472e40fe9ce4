-- Models mirrored and turned a quarter: their cells, neighbours and outlets.
use Rattle.std.proofs.Common.{◌≡◌, ℕ, suc, ◌-◌, ◌*◌, ◌<◌, eqb, ap, ◌∙◌, arith}
use Rattle.std.proofs.lemmas.Bool.Decides.{nat_tests}
use Rattle.std.proofs.lemmas.Nat.{mul-add-lt}
use Rattle.model.specs.Grid.{row, column, adjacent, border}
use Rattle.model.specs.Terrain.{land_of}
use Rattle.flood.specs.Moved.{mirror, mirrored, quarter, quarter_back, turned}
use Rattle.flood.specs.Promises.{MirrorLevels, QuarterLevels}
use Rattle.flood.proofs.Comparing.{numbering}
use Rattle.flood.proofs.Cells.{Coordinates, lies, at}

module _ (w h : ℕ) where
  mirror_at : (c : ℕ) → c < w * h → Coordinates w (mirror w c) (row w c) (w - suc (column w c))
  mirror_at c a = let p = lies w h c a in at w (row w c) (w - suc (column w c)) (omega arith)

  mirror_cell : (c : ℕ) → c < w * h → mirror w c < w * h
  mirror_cell c a = let p = lies w h c a in mul-add-lt (row w c) w (w - suc (column w c)) h p.low (omega arith)

  mirror_again : (c : ℕ) → c < w * h → mirror w (mirror w c) ≡ c
  mirror_again c a = let p = lies w h c a in let q = mirror_at c a in rw (q.in_row, q.in_column) (omega arith)

  mirror_next : (c d : ℕ) → c < w * h → d < w * h → adjacent w (mirror w c) (mirror w d) ≡ adjacent w c d
  mirror_next c d a b =
      let p = lies w h c a in let q = lies w h d b in
      let i = mirror_at c a in let j = mirror_at d b in
      rw (i.in_row, i.in_column, j.in_row, j.in_column) (ap (λ n. eqb n 1) (omega arith))

  mirror_border : (c : ℕ) → c < w * h → border w h (mirror w c) ≡ border w h c
  mirror_border c a =
      let p = lies w h c a in let i = mirror_at c a in
      rw (i.in_row, i.in_column) (grind (arith, nat_tests))

pub mirror_levels : MirrorLevels
mirror_levels t f g = numbering (land_of t) (land_of (mirrored t)) f g (mirror w) (mirror w)
    (record {
      cells = mirror_cell w h;
      height = λ c a. rw (mirror_again w h c a) (omega arith);
      next = λ c d a b e. mirror_next w h c d a b ∙ e;
      leaves = λ c a e. rw (mirror_border w h c a, mirror_again w h c a) e;
    })
    (record {
      cells = mirror_cell w h;
      height = λ c a. omega arith;
      next = λ c d a b e. mirror_next w h c d a b ∙ e;
      leaves = λ c a e. rw (mirror_border w h c a) e;
    })
    (mirror_again w h)
  where
    w : ℕ
    w = t.w

    h : ℕ
    h = t.h

module _ (w h : ℕ) where
  quarter_at : (c : ℕ) → c < w * h → Coordinates h (quarter w h c) (column w c) (h - suc (row w c))
  quarter_at c a = let p = lies w h c a in at h (column w c) (h - suc (row w c)) (omega arith)

  quarter_cell : (c : ℕ) → c < w * h → quarter w h c < h * w
  quarter_cell c a = let p = lies w h c a in mul-add-lt (column w c) h (h - suc (row w c)) w p.left (omega arith)

  quarter_again : (c : ℕ) → c < w * h → quarter_back w h (quarter w h c) ≡ c
  quarter_again c a =
      let p = lies w h c a in
      let q = quarter_at c a in
      let e : h - suc (h - suc (row w c)) ≡ row w c = omega arith in
      rw (q.in_row, q.in_column, e) p.is

  quarter_next : (c d : ℕ) → c < w * h → d < w * h → adjacent h (quarter w h c) (quarter w h d) ≡ adjacent w c d
  quarter_next c d a b =
      let p = lies w h c a in let q = lies w h d b in
      let i = quarter_at c a in let j = quarter_at d b in
      rw (i.in_row, i.in_column, j.in_row, j.in_column) (ap (λ n. eqb n 1) (omega arith))

  quarter_border : (c : ℕ) → c < w * h → border h w (quarter w h c) ≡ border w h c
  quarter_border c a =
      let p = lies w h c a in let i = quarter_at c a in
      rw (i.in_row, i.in_column) (grind (arith, nat_tests))

  back_at : (c : ℕ) → c < h * w → Coordinates w (quarter_back w h c) (h - suc (column h c)) (row h c)
  back_at c a = let p = lies h w c a in at w (h - suc (column h c)) (row h c) p.low

  back_cell : (c : ℕ) → c < h * w → quarter_back w h c < w * h
  back_cell c a = let p = lies h w c a in mul-add-lt (h - suc (column h c)) w (row h c) h (omega arith) p.low

  back_next : (c d : ℕ) → c < h * w → d < h * w → adjacent w (quarter_back w h c) (quarter_back w h d) ≡ adjacent h c d
  back_next c d a b =
      let p = lies h w c a in let q = lies h w d b in
      let i = back_at c a in let j = back_at d b in
      rw (i.in_row, i.in_column, j.in_row, j.in_column) (ap (λ n. eqb n 1) (omega arith))

  back_border : (c : ℕ) → c < h * w → border w h (quarter_back w h c) ≡ border h w c
  back_border c a =
      let p = lies h w c a in let i = back_at c a in
      rw (i.in_row, i.in_column) (grind (arith, nat_tests))

pub quarter_levels : QuarterLevels
quarter_levels t f g = numbering (land_of t) (land_of (turned t)) f g (quarter w h) (quarter_back w h)
    (record {
      cells = quarter_cell w h;
      height = λ c a. rw (quarter_again w h c a) (omega arith);
      next = λ c d a b e. quarter_next w h c d a b ∙ e;
      leaves = λ c a e. rw (quarter_border w h c a, quarter_again w h c a) e;
    })
    (record {
      cells = back_cell w h;
      height = λ c a. omega arith;
      next = λ c d a b e. back_next w h c d a b ∙ e;
      leaves = λ c a e. rw (back_border w h c a) e;
    })
    (quarter_again w h)
  where
    w : ℕ
    w = t.w

    h : ℕ
    h = t.h
