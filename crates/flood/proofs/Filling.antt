-- Land filled cell by cell, seen without a queue: what holds while some cells have places and others wait.
use Rattle.std.proofs.Common.{◌≡◌, ℕ, suc, ◌<◌, ◌≤◌, max, Bool, true, false, ◌⊎◌, List, [], ◌∷◌, sym, refl, ap, ◌∙◌, inl, inr, arith}
use Rattle.std.proofs.lemmas.Bool.Decides.{nat_tests}
use Rattle.std.proofs.lemmas.Bool.{both_ways, cases_eq, cases_Bool}
use Rattle.model.specs.Land.{Land, Out, here, on}
use Rattle.model.specs.Grid.{among}
use Rattle.flood.specs.Levels.{Flow}
use Rattle.flood.specs.Certified.{Certified}
use Rattle.flood.specs.Ordered.{Before}
use Rattle.flood.proofs.Ways.{way_cell}

-- c has its level by u, a cell next to it that has a place
pub record Source (l : Land) (p : ℕ → Bool) (f : Flow) (c u : ℕ) : Type 0 where
  pub inside : u < l.cells
  pub placed : p u ≡ true
  pub beside : l.next c u ≡ true
  pub fills : f.level c ≡ max (l.height c) (f.level u)

-- the cells that p holds of have the places below n, and the water stands at w
pub record Filled (l : Land) (p : ℕ → Bool) (f : Flow) (w n : ℕ) : Type 0 where
  pub above : (c : ℕ) → c < l.cells → p c ≡ true → l.height c ≤ f.level c
  pub below : (c : ℕ) → c < l.cells → p c ≡ true → f.level c ≤ w
  pub early : (c : ℕ) → c < l.cells → p c ≡ true → f.far c < n
  pub outlet_level : (c : ℕ) → c < l.cells → p c ≡ true → l.leaves c ≡ true → f.level c ≡ l.height c
  pub goes : (c : ℕ) → c < l.cells → p c ≡ true → l.leaves c ≡ false → Source l p f c (f.to c)
  pub nearer : (c : ℕ) → c < l.cells → p c ≡ true → l.leaves c ≡ false → f.far (f.to c) < f.far c
  pub rising : (c d : ℕ) → c < l.cells → p c ≡ true → d < l.cells → p d ≡ true → f.far c < f.far d → f.level c ≤ f.level d
  pub unfilled : (c d : ℕ) → c < l.cells → p c ≡ true → d < l.cells → p d ≡ true → l.next c d ≡ true → f.level d < f.level c → l.height c ≡ f.level c
  pub open_outlet : (c : ℕ) → c < l.cells → p c ≡ false → l.leaves c ≡ true → w ≤ l.height c
  pub open_cell : (c d : ℕ) → c < l.cells → p c ≡ false → d < l.cells → p d ≡ true → l.next c d ≡ true → (w ≤ l.height c) ⊎ (w ≤ f.level d)

-- while none has a place
pub none_filled : (l : Land) (p : ℕ → Bool) (f : Flow) (n : ℕ) → ((c : ℕ) → c < l.cells → p c ≡ false) → Filled l p f 0 n
none_filled l p f n free = record {
  above = λ c a e. absurd (both_ways _ (free c a) e);
  below = λ c a e. absurd (both_ways _ (free c a) e);
  early = λ c a e. absurd (both_ways _ (free c a) e);
  outlet_level = λ c a e. absurd (both_ways _ (free c a) e);
  goes = λ c a e. absurd (both_ways _ (free c a) e);
  nearer = λ c a e. absurd (both_ways _ (free c a) e);
  rising = λ c d a e. absurd (both_ways _ (free c a) e);
  unfilled = λ c d a e. absurd (both_ways _ (free c a) e);
  open_outlet = λ c a e o. omega arith;
  open_cell = λ c d a e i q. absurd (both_ways _ (free d i) q);
}

-- x is the cell c, which got place n at the level w by t
pub record New (l : Land) (p' : ℕ → Bool) (f' : Flow) (w n c t x : ℕ) : Type 0 where
  pub is : x ≡ c
  pub placed : p' x ≡ true
  pub level : f'.level x ≡ w
  pub to : f'.to x ≡ t
  pub far : f'.far x ≡ n

-- what is known of x is as it was
pub record Same (f f' : Flow) (x : ℕ) : Type 0 where
  pub level : f'.level x ≡ f.level x
  pub to : f'.to x ≡ f.to x
  pub far : f'.far x ≡ f.far x

-- x is another cell, of which only what has a place is kept
pub record Old (p p' : ℕ → Bool) (f f' : Flow) (c x : ℕ) : Type 0 where
  pub isnt : x ≡ c → ⊥
  pub placed : p' x ≡ p x
  pub kept : p x ≡ true → Same f f' x

-- one cell more gets a place at the level of the water
module _ (l : Land) (p p' : ℕ → Bool) (f f' : Flow) (w n c t : ℕ) (inv : Filled l p f w n)
    (cell : c < l.cells) (free : p c ≡ false) (low : l.height c ≤ w)
    (from : l.leaves c ≡ false → (t < l.cells) × (p t ≡ true) × (l.next c t ≡ true))
    (at : (x : ℕ) → New l p' f' w n c t x ⊎ Old p p' f f' c x) where
  pub one_more : Filled l p' f' w (suc n)
  one_more = record {
    above = λ x a e. let s = at x in grind (arith, inv.above);
    below = λ x a e. let s = at x in grind (arith, inv.below);
    early = λ x a e. let s = at x in grind (arith, inv.early);
    outlet_level = λ x a e q. let s = at x in grind (arith, inv.outlet_level, inv.open_outlet);
    goes = λ x a e q. let s = at x in grind (arith, inv.goes);
    nearer = λ x a e q. let s = at x in grind (arith, inv.goes, inv.nearer, inv.early);
    rising = λ x y a e b d k. let s = at x in let s' = at y in grind (arith, inv.rising, inv.early, inv.below);
    unfilled = λ x y a e b d k q. let s = at x in let s' = at y in grind (arith, inv.unfilled, inv.open_cell, inv.below);
    open_outlet = λ x a e q. let s = at x in grind (arith, inv.open_outlet);
    open_cell = λ x y a e b d k. let s = at x in let s' = at y in grind (arith, inv.open_cell);
  }

-- the water rises as far as no cell lies open to it
pub risen_to : (l : Land) (p : ℕ → Bool) (f : Flow) (w w' n : ℕ) → Filled l p f w n → w ≤ w' →
    ((c : ℕ) → c < l.cells → p c ≡ false → l.leaves c ≡ true → w' ≤ l.height c) →
    ((c d : ℕ) → c < l.cells → p c ≡ false → d < l.cells → p d ≡ true → l.next c d ≡ true → (w' ≤ l.height c) ⊎ (w' ≤ f.level d)) →
    Filled l p f w' n
risen_to l p f w w' n inv up open_outlet open_cell = record {
  above = inv.above;
  below = λ c a e. omega (arith, inv.below c a e);
  early = inv.early;
  outlet_level = inv.outlet_level;
  goes = inv.goes;
  nearer = inv.nearer;
  rising = inv.rising;
  unfilled = inv.unfilled;
  open_outlet = open_outlet;
  open_cell = open_cell;
}

-- q holds of the cells that have a level: those that wait have the lowest that a placed cell next to them gives;
-- the cells of the list `left` need not know of the cell c yet
pub record Telling (l : Land) (p q : ℕ → Bool) (f : Flow) (c : ℕ) (left : List ℕ) : Type 0 where
  pub open_outlet : (x : ℕ) → x < l.cells → p x ≡ false → l.leaves x ≡ true → (q x ≡ true) × (f.level x ≡ l.height x)
  pub open_cell :
      (x d : ℕ) → x < l.cells → p x ≡ false → l.leaves x ≡ false → d < l.cells → p d ≡ true → l.next x d ≡ true → (d ≡ c → among x left ≡ false) →
      (q x ≡ true) × (f.level x ≤ max (l.height x) (f.level d))
  pub source : (x : ℕ) → x < l.cells → p x ≡ false → q x ≡ true → l.leaves x ≡ false → Source l p f x (f.to x)

-- between turns all know
abbrev pub Waits : Land → (ℕ → Bool) → (ℕ → Bool) → Flow → Type 0
Waits l p q f = (c : ℕ) → Telling l p q f c []

-- c, the lowest that waits, gets place n
pub record Take (l : Land) (p q : ℕ → Bool) (f : Flow) (n c : ℕ) (p' : ℕ → Bool) (f' : Flow) : Type 0 where
  pub cell : c < l.cells
  pub free : p c ≡ false
  pub queued : q c ≡ true
  pub first : (d : ℕ) → d < l.cells → p d ≡ false → q d ≡ true → (d ≡ c → ⊥) → Before f c d
  pub placed : p' c ≡ true
  pub others : (x : ℕ) → (x ≡ c → ⊥) → p' x ≡ p x
  pub level : (x : ℕ) → f'.level x ≡ f.level x
  pub to : (x : ℕ) → f'.to x ≡ f.to x
  pub far : f'.far c ≡ n
  pub fars : (x : ℕ) → (x ≡ c → ⊥) → f'.far x ≡ f.far x

module _ (l : Land) (p q : ℕ → Bool) (f : Flow) (w n c : ℕ) (inv : Filled l p f w n) (ws : Telling l p q f c [])
    (cell : c < l.cells) (free : p c ≡ false) (queued : q c ≡ true) where
  -- the level of a cell that waits is not below the water, nor below its height
  pub waits_above : (w ≤ f.level c) × (l.height c ≤ f.level c)
  waits_above = let o = cases_Bool (l.leaves c) in grind (arith, ws.open_outlet c, ws.source c, inv.open_outlet c, inv.open_cell c)

module _ (l : Land) (p q : ℕ → Bool) (f : Flow) (w n c : ℕ) (p' : ℕ → Bool) (f' : Flow)
    (inv : Filled l p f w n) (ws : Telling l p q f c []) (st : Take l p q f n c p' f') where
  -- its level is the lowest, so the water may rise to it
  take_least : (d : ℕ) → d < l.cells → p d ≡ false → q d ≡ true → f.level c ≤ f.level d
  take_least d a e i = let o = cases_eq d c in grind (arith, st.first d)

  take_open : (x d : ℕ) → x < l.cells → p x ≡ false → d < l.cells → p d ≡ true → l.next x d ≡ true → (f.level c ≤ l.height x) ⊎ (f.level c ≤ f.level d)
  take_open x d a e b i k = let o = cases_Bool (l.leaves x) in grind (arith, ws.open_outlet x, ws.open_cell x d, take_least x)

  -- the places after it
  take_at : (x : ℕ) → (x ≡ c) ⊎ (x ≡ c → ⊥) → New l p' f' (f.level c) n c (f.to c) x ⊎ Old p p' f f' c x
  take_at x (inl e) = inl (record {
    is = e;
    placed = ap p' e ∙ st.placed;
    level = st.level x ∙ ap f.level e;
    to = st.to x ∙ ap f.to e;
    far = ap f'.far e ∙ st.far;
  })
  take_at x (inr e) = inr (record { isnt = e; placed = st.others x e; kept = λ _. record { level = st.level x; to = st.to x; far = st.fars x e } })

  -- what holds of the cells with places, and of those that wait
  pub take_filled : Filled l p' f' (f.level c) (suc n)
  take_filled =
      let up = waits_above l p q f w n c inv ws st.cell st.free st.queued in
      one_more l p p' f f' (f.level c) n c (f.to c)
      (risen_to l p f w (f.level c) n inv up.0 (λ x a e o. grind (arith, ws.open_outlet x, take_least x)) take_open)
      st.cell st.free up.1 (λ e. grind (arith, ws.source c, st.queued)) (λ x. take_at x (cases_eq x c))

  pub take_telling : (left : List ℕ) → ((x : ℕ) → x < l.cells → l.next x c ≡ true → among x left ≡ true) → Telling l p' q f' c left
  take_telling left all = record {
    open_outlet = λ x a e o. let i = cases_eq x c in grind (arith, st.others x, ws.open_outlet x, st.level x);
    open_cell = λ x d a e o b i k u. let j = cases_eq x c in let v = cases_eq d c in grind (arith, all x, st.others x, st.others d, ws.open_cell x d, st.level);
    source = λ x a e i o. let j = cases_eq x c in let v = cases_eq (f.to x) c in grind (arith, st.others, ws.source x, st.level, st.to x);
  }

-- y gets a level by c
pub record Tell (l : Land) (p q q' : ℕ → Bool) (f f' : Flow) (c y : ℕ) : Type 0 where
  pub cell : y < l.cells
  pub fresh : q y ≡ false
  pub free : p y ≡ false
  pub inner : l.leaves y ≡ false
  pub beside : l.next y c ≡ true
  pub queued : q' y ≡ true
  pub level : f'.level y ≡ max (l.height y) (f.level c)
  pub to : f'.to y ≡ c
  pub others : (x : ℕ) → (x ≡ y → ⊥) → q' x ≡ q x
  pub levels : (x : ℕ) → (x ≡ y → ⊥) → f'.level x ≡ f.level x
  pub tos : (x : ℕ) → (x ≡ y → ⊥) → f'.to x ≡ f.to x
  pub far : (x : ℕ) → f'.far x ≡ f.far x

module _ (l : Land) (p q q' : ℕ → Bool) (f f' : Flow) (w n c y : ℕ) (left : List ℕ)
    (inv : Filled l p f w n) (ws : Telling l p q f c (y ∷ left)) (cell : c < l.cells) (placed : p c ≡ true) (st : Tell l p q q' f f' c y) where
  -- nothing changes of the cells with places
  pub kept : (x : ℕ) → p x ≡ true → Same f f' x
  kept x e = let i = cases_eq x y in grind (arith, st.levels x, st.tos x, st.far x)

  pub tell_filled : Filled l p f' w n
  tell_filled = record {
    above = λ x a e. grind (arith, inv.above x, kept x);
    below = λ x a e. grind (arith, inv.below x, kept x);
    early = λ x a e. grind (arith, inv.early x, kept x);
    outlet_level = λ x a e o. grind (arith, inv.outlet_level x, kept x);
    goes = λ x a e o. let k = kept x e in let s = inv.goes x a e o in grind (arith, kept (f.to x));
    nearer = λ x a e o. let k = kept x e in let s = inv.goes x a e o in grind (arith, inv.nearer x, kept (f.to x));
    rising = λ x d a e b i k. grind (arith, inv.rising x d, kept x, kept d);
    unfilled = λ x d a e b i k u. grind (arith, inv.unfilled x d, kept x, kept d);
    open_outlet = inv.open_outlet;
    open_cell = λ x d a e b i k. grind (arith, inv.open_cell x d, kept d);
  }

  pub tell_telling : Telling l p q' f' c left
  tell_telling = record {
    open_outlet = λ x a e o. let i = cases_eq x y in grind (arith, ws.open_outlet x, st.levels x, st.others x);
    open_cell = λ x d a e o b i k u. let j = cases_eq x y in let v = cases_eq d c in let g = kept d i in grind (arith, nat_tests, ws.open_cell x d, st.levels x, st.others x);
    source = λ x a e i o. let j = cases_eq x y in grind (arith, ws.source x, st.levels x, st.others x, st.tos x, kept c, kept (f.to x));
  }

-- y has a level that is low enough
pub tell_none : (l : Land) (p q : ℕ → Bool) (f : Flow) (c y : ℕ) (left : List ℕ) → Telling l p q f c (y ∷ left) → q y ≡ true → f.level y ≤ max (l.height y) (f.level c) → Telling l p q f c left
tell_none l p q f c y left ws has low = record {
  open_outlet = ws.open_outlet;
  open_cell = λ x d a e o b i k u. let j = cases_eq x y in let v = cases_eq d c in grind (arith, nat_tests, ws.open_cell x d);
  source = ws.source;
}

-- where none is left to be told, all know
pub told_all : (l : Land) (p q : ℕ → Bool) (f : Flow) (c : ℕ) → Telling l p q f c [] → Waits l p q f
told_all l p q f c ws d = record { open_outlet = ws.open_outlet; open_cell = λ x e a b o i j k _. ws.open_cell x e a b o i j k (λ _. refl); source = ws.source }

-- where none waits, every cell that has a way off the land has a place
pub all_placed : (l : Land) (p q : ℕ → Bool) (f : Flow) → Waits l p q f → ((c : ℕ) → c < l.cells → p c ≡ false → q c ≡ true → ⊥) → {h c : ℕ} → Out l h c → p c ≡ true
all_placed l p q f ws none (here {c} a b e) = let s = (ws c).open_outlet c a in let o = cases_Bool (p c) in grind (arith, none c)
all_placed l p q f ws none (on {c} {d} a b e o) =
    let i = all_placed l p q f ws none o in
    let s = (ws c).open_outlet c a in
    let r = (ws c).open_cell c d a in
    let k = way_cell o in
    let u = cases_Bool (p c) in
    let v = cases_Bool (l.leaves c) in
    grind (arith, none c)

-- where every cell has a place, the flow is certified
pub all_certified : (l : Land) (p : ℕ → Bool) (f : Flow) (w n : ℕ) → Filled l p f w n → ((c : ℕ) → c < l.cells → p c ≡ true) → ((c : ℕ) → c < l.cells → f.off c ≡ l.leaves c) → Certified l f
all_certified l p f w n inv all off = record {
  above = λ c a. inv.above c a (all c a);
  sends_off = off;
  outlet_level = λ c a e. inv.outlet_level c a (all c a) (sym (off c a) ∙ e);
  inside = λ c a e. (inv.goes c a (all c a) (sym (off c a) ∙ e)).inside;
  beside = λ c a e. (inv.goes c a (all c a) (sym (off c a) ∙ e)).beside;
  nearer = λ c a e. inv.nearer c a (all c a) (sym (off c a) ∙ e);
  fills = λ c a e. (inv.goes c a (all c a) (sym (off c a) ∙ e)).fills;
  unfilled = λ c d a b. inv.unfilled c d a (all c a) b (all d b);
}
