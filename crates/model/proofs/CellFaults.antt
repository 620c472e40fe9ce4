-- The first fault of a row of cells, cell after cell.
use Rattle.std.proofs.Common.{◌≡◌, ℕ, suc, ◌+◌, ◌-◌, ◌<◌, ◌≤◌, List, length, Some, None, sym, ap, ◌∙◌, add-one, arith, le-ltb, lt-ltb}
use Rattle.std.proofs.lemmas.Bool.{cond-true, cond-false}
use Rattle.model.specs.declared.refusal.Refusal.{Refusal}
use Rattle.model.specs.declared.refusal.Refusal.TheVariants.{Length}
use Rattle.model.specs.Bytes.{count, start}
use Rattle.model.specs.Faults.{or_else, head_fault, cell_fault, cells_fault, end_fault, fault}

-- cell c is the first of those that are left
pub cells_next : (bs : List ℕ) (c n : ℕ) → c < n → cells_fault bs c (n - c) ≡ or_else (cell_fault bs c) (cells_fault bs (c + 1) (n - (c + 1)))
unfolding cells_fault
cells_next bs c n h =
    let e : n - c ≡ suc (n - (c + 1)) = omega arith in
    ap (cells_fault bs c) e ∙ ap (λ d. or_else (cell_fault bs c) (cells_fault bs d (n - (c + 1)))) (sym (add-one c))

-- no cell is left
pub cells_none : (bs : List ℕ) (c n : ℕ) → n ≤ c → cells_fault bs c (n - c) ≡ None
unfolding cells_fault
cells_none bs c n h = let e : n - c ≡ 0 = omega arith in ap (cells_fault bs c) e

-- cell c has a fault, or none
pub cell_first : (bs : List ℕ) (c n : ℕ) (e : Refusal) → c < n → Some e ≡ cell_fault bs c → cells_fault bs c (n - c) ≡ Some e
cell_first bs c n e h s = cells_next bs c n h ∙ ap (λ o. or_else o (cells_fault bs (c + 1) (n - (c + 1)))) (sym s)

pub cell_passed : (bs : List ℕ) (c n : ℕ) → c < n → None ≡ cell_fault bs c → cells_fault bs c (n - c) ≡ cells_fault bs (c + 1) (n - (c + 1))
cell_passed bs c n h s = cells_next bs c n h ∙ ap (λ o. or_else o (cells_fault bs (c + 1) (n - (c + 1)))) (sym s)

-- a file whose head has no fault has that of its cells, else that of its end
pub fault_in_cells : (bs : List ℕ) (n : ℕ) (e : Refusal) → None ≡ head_fault bs → n ≡ count bs → cells_fault bs 0 n ≡ Some e → Some e ≡ fault bs
fault_in_cells bs n e head size first =
    sym (ap (λ o. or_else o (or_else (cells_fault bs 0 (count bs)) (end_fault bs))) (sym head) ∙ ap (λ o. or_else o (end_fault bs)) (ap (cells_fault bs 0) (sym size) ∙ first))

after_cells : (bs : List ℕ) (n : ℕ) → None ≡ head_fault bs → n ≡ count bs → cells_fault bs 0 n ≡ None → fault bs ≡ end_fault bs
after_cells bs n head size none =
    ap (λ o. or_else o (or_else (cells_fault bs 0 (count bs)) (end_fault bs))) (sym head) ∙ ap (λ o. or_else o (end_fault bs)) (ap (cells_fault bs 0) (sym size) ∙ none)

pub fault_past_cells : (bs : List ℕ) (n end : ℕ) → None ≡ head_fault bs → n ≡ count bs → cells_fault bs 0 n ≡ None → end ≡ start n → end < length bs → Some (Length end) ≡ fault bs
fault_past_cells bs n end head size none at past =
    let e : end ≡ start (count bs) = at ∙ ap start size in
    sym (after_cells bs n head size none ∙ cond-true _ _ _ (lt-ltb (start (count bs)) (length bs) (omega arith)) ∙ ap (λ p. Some (Length p)) (sym e))

pub no_fault : (bs : List ℕ) (n end : ℕ) → None ≡ head_fault bs → n ≡ count bs → cells_fault bs 0 n ≡ None → end ≡ start n → length bs ≤ end → None ≡ fault bs
no_fault bs n end head size none at whole =
    let e : end ≡ start (count bs) = at ∙ ap start size in
    sym (after_cells bs n head size none ∙ cond-false _ _ _ (le-ltb (start (count bs)) (length bs) (omega arith)))
