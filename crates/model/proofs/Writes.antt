-- What a write into the bytes of a well-formed file changes.
use Rattle.std.proofs.Common.{◌≡◌, ℕ, ◌+◌, ◌*◌, ◌/◌, ◌%◌, ◌<◌, ◌≤◌, ◌≢◌, ◌⊎◌, List, length, get_or, drop, set, sym, ap, ◌∙◌, subst, ap₂, inl, arith, length-set}
use native.Mathlib.Nat.{div-div-eq-div-mul}
use Rattle.std.proofs.lemmas.List.{get_or-take, get_or-drop, get_or-set_same, get_or-set_other}
use Rattle.std.proofs.lemmas.Bool.{cases_eq, cases_lt}
use Rattle.std.proofs.lemmas.Bool.Decides.{nat_tests}
use Rattle.model.specs.Bytes.{two, four, columns, rows, count, start, cell_part, height_at, rain_at, mark_at}
use Rattle.model.specs.Edits.{put_four, but, Rewritten, HeightsReadBack, RainsReadBack, MarksReadBack}
use Rattle.model.specs.WellFormed.{WellFormed}

-- the number in the four bytes from a place on
abbrev pub word : List ℕ → ℕ → ℕ
word bs k = get_or bs k 0 + get_or bs (k + 1) 0 * 256 + get_or bs (k + 2) 0 * 65536 + get_or bs (k + 3) 0 * 16777216

-- byte i of a cell's part, by its place in the file
part_byte : (bs : List ℕ) (c i k : ℕ) → i < 9 → start c + i ≡ k → get_or (cell_part bs c) i 0 ≡ get_or bs k 0
part_byte bs c i k l e = get_or-take 9 (drop (start c) bs) i 0 l ∙ (get_or-drop (start c) bs i 0 ∙ ap (λ j. get_or bs j 0) e)

rain_byte : (bs : List ℕ) (c i k : ℕ) → i < 5 → start c + (4 + i) ≡ k → get_or (drop 4 (cell_part bs c)) i 0 ≡ get_or bs k 0
rain_byte bs c i k l e = get_or-drop 4 (cell_part bs c) i 0 ∙ part_byte bs c (4 + i) k (omega arith) e

-- a cell's values by places in the file
pub height_is : (bs : List ℕ) (c : ℕ) → height_at bs c ≡ word bs (start c)
unfolding four
height_is bs c =
    let a = part_byte bs c 0 (start c) (omega arith) (omega arith) in
    let b = part_byte bs c 1 (start c + 1) (omega arith) (omega arith) in
    let d = part_byte bs c 2 (start c + 2) (omega arith) (omega arith) in
    let e = part_byte bs c 3 (start c + 3) (omega arith) (omega arith) in
    omega arith

pub rain_is : (bs : List ℕ) (c : ℕ) → rain_at bs c ≡ word bs (start c + 4)
unfolding four
rain_is bs c =
    let a = rain_byte bs c 0 (start c + 4) (omega arith) (omega arith) in
    let b = rain_byte bs c 1 (start c + 4 + 1) (omega arith) (omega arith) in
    let d = rain_byte bs c 2 (start c + 4 + 2) (omega arith) (omega arith) in
    let e = rain_byte bs c 3 (start c + 4 + 3) (omega arith) (omega arith) in
    omega arith

pub mark_is : (bs : List ℕ) (c : ℕ) → mark_at bs c ≡ get_or bs (start c + 8) 0
mark_is bs c = part_byte bs c 8 (start c + 8) (omega arith) (omega arith)

-- no byte changes outside n bytes from a place on
abbrev Others : List ℕ → List ℕ → ℕ → ℕ → Type 0
Others bs cs at n = (k : ℕ) → (k < at) ⊎ (at + n ≤ k) → get_or cs k 0 ≡ get_or bs k 0

-- a number that lies outside them stays
word_other : (bs cs : List ℕ) (at n k : ℕ) → Others bs cs at n → (k + 4 ≤ at) ⊎ (at + n ≤ k) → word cs k ≡ word bs k
word_other bs cs at n k same out =
    let a = same k (grind arith) in
    let b = same (k + 1) (grind arith) in
    let c = same (k + 2) (grind arith) in
    let d = same (k + 3) (grind arith) in
    omega arith

head_other : (bs cs : List ℕ) (at n : ℕ) → 4 ≤ at → Others bs cs at n → (columns cs ≡ columns bs) × (rows cs ≡ rows bs)
unfolding two
head_other bs cs at n behind same =
    let a = same 0 (inl (omega arith)) in
    let b = same 1 (inl (omega arith)) in
    let c = get_or-drop 2 cs 0 0 ∙ (same 2 (inl (omega arith)) ∙ sym (get_or-drop 2 bs 0 0)) in
    let d = get_or-drop 2 cs 1 0 ∙ (same 3 (inl (omega arith)) ∙ sym (get_or-drop 2 bs 1 0)) in
    (omega arith, omega arith)

-- four bytes written
put_length : (bs : List ℕ) (at v : ℕ) → length (put_four bs at v) ≡ length bs
put_length bs at v = simp length-set

put_others : (bs : List ℕ) (at v : ℕ) → Others bs (put_four bs at v) at 4
put_others bs at v k out =
    let a : k ≢ at = grind arith in
    let b : k ≢ at + 1 = grind arith in
    let c : k ≢ at + 2 = grind arith in
    let d : k ≢ at + 3 = grind arith in
    simp get_or-set_other

-- a number below 2 ^ 32 by its four bytes
digits : (v : ℕ) → v < 4294967296 → v % 256 + v / 256 % 256 * 256 + v / 65536 % 256 * 65536 + v / 16777216 % 256 * 16777216 ≡ v
digits v small =
    let b : v / 65536 ≡ v / 256 / 256 = sym (div-div-eq-div-mul v 256 256) in
    let c : v / 16777216 ≡ v / 256 / 256 / 256 = sym (ap (λ x. x / 256) (div-div-eq-div-mul v 256 256) ∙ div-div-eq-div-mul v 65536 256) in
    rw (b, c) (omega arith)

put_same : (bs : List ℕ) (at v : ℕ) → at + 4 ≤ length bs → v < 4294967296 → word (put_four bs at v) at ≡ v
put_same bs at v fits small =
    let x = set bs at (v % 256) in
    let y = set x (at + 1) (v / 256 % 256) in
    let z = set y (at + 2) (v / 65536 % 256) in
    let top = v / 16777216 % 256 in
    let lx : length x ≡ length bs = simp length-set in
    let ly : length y ≡ length bs = simp length-set in
    let lz : length z ≡ length bs = simp length-set in
    let a = get_or-set_other z (at + 3) at top 0 (omega arith) ∙ (get_or-set_other y (at + 2) at (v / 65536 % 256) 0 (omega arith) ∙ (get_or-set_other x (at + 1) at (v / 256 % 256) 0 (omega arith) ∙ get_or-set_same bs at (v % 256) 0 (omega arith))) in
    let b = get_or-set_other z (at + 3) (at + 1) top 0 (omega arith) ∙ (get_or-set_other y (at + 2) (at + 1) (v / 65536 % 256) 0 (omega arith) ∙ get_or-set_same x (at + 1) (v / 256 % 256) 0 (omega arith)) in
    let c = get_or-set_other z (at + 3) (at + 2) top 0 (omega arith) ∙ get_or-set_same y (at + 2) (v / 65536 % 256) 0 (omega arith) in
    let d = get_or-set_same z (at + 3) top 0 (omega arith) in
    omega (arith, digits v small)

-- a file whose bytes change only in the values of a cell is well formed if its new values are in range
sound_again : (bs cs : List ℕ) (at n : ℕ) → WellFormed bs → 4 ≤ at → length cs ≡ length bs → Others bs cs at n →
    ((d : ℕ) → d < count bs → height_at cs d ≤ 1000000) → ((d : ℕ) → d < count bs → rain_at cs d ≤ 1000000) → ((d : ℕ) → d < count bs → mark_at cs d ≤ 1) → WellFormed cs
sound_again bs cs at n f behind long same heights rains marks =
    let head = head_other bs cs at n behind same in
    let size : count cs ≡ count bs = ap₂ ◌*◌ head.0 head.1 in
    record {
      wide = rw head.0 f.wide;
      tall = rw head.1 f.tall;
      long = long ∙ (f.long ∙ ap start (sym size));
      heights = λ c l. heights c (omega arith);
      rains = λ c l. rains c (omega arith);
      marks = λ c l. marks c (omega arith);
    }

-- the values of a file after a write, from those of the file before and the bytes that changed
rewritten : (bs cs : List ℕ) (at n : ℕ) (height rain mark : ℕ → ℕ) → WellFormed bs → 4 ≤ at → length cs ≡ length bs → Others bs cs at n →
    ((d : ℕ) → d < count bs → (height_at cs d ≡ height d) × (height d ≤ 1000000)) →
    ((d : ℕ) → d < count bs → (rain_at cs d ≡ rain d) × (rain d ≤ 1000000)) →
    ((d : ℕ) → d < count bs → (mark_at cs d ≡ mark d) × (mark d ≤ 1)) → Rewritten bs cs at n height rain mark
rewritten bs cs at n height rain mark f behind long same heights rains marks =
    let head = head_other bs cs at n behind same in
    record {
      w = head.0;
      h = head.1;
      heights = λ d l. (heights d l).0;
      rains = λ d l. (rains d l).0;
      marks = λ d l. (marks d l).0;
      others = same;
      sound = sound_again bs cs at n f behind long same (λ d l. omega (arith, (heights d l).0, (heights d l).1)) (λ d l. omega (arith, (rains d l).0, (rains d l).1)) (λ d l. omega (arith, (marks d l).0, (marks d l).1));
    }

-- the bytes of one cell lie before or behind those of another
apart_from : (c d : ℕ) → (d ≡ c → ⊥) → (start d + 9 ≤ start c) ⊎ (start c + 9 ≤ start d)
apart_from c d ne = let e = cases_lt d c in grind arith

-- values that lie outside the bytes that changed
height_kept : (bs cs : List ℕ) (at n d : ℕ) → Others bs cs at n → (start d + 4 ≤ at) ⊎ (at + n ≤ start d) → height_at cs d ≡ height_at bs d
height_kept bs cs at n d same out = height_is cs d ∙ (word_other bs cs at n (start d) same out ∙ sym (height_is bs d))

rain_kept : (bs cs : List ℕ) (at n d : ℕ) → Others bs cs at n → (start d + 8 ≤ at) ⊎ (at + n ≤ start d + 4) → rain_at cs d ≡ rain_at bs d
rain_kept bs cs at n d same out = rain_is cs d ∙ (word_other bs cs at n (start d + 4) same (grind arith) ∙ sym (rain_is bs d))

mark_kept : (bs cs : List ℕ) (at n d : ℕ) → Others bs cs at n → (start d + 8 < at) ⊎ (at + n ≤ start d + 8) → mark_at cs d ≡ mark_at bs d
mark_kept bs cs at n d same out = mark_is cs d ∙ (same (start d + 8) out ∙ sym (mark_is bs d))

-- a value of cell c that was written, and of the others that were kept
but_at : (f g : ℕ → ℕ) (c v d most : ℕ) → (d ≡ c → g d ≡ v) → ((d ≡ c → ⊥) → g d ≡ f d) → v ≤ most → f d ≤ most → (g d ≡ but f c v d) × (but f c v d ≤ most)
but_at f g c v d most here there low old = let e = cases_eq d c in (grind (arith, nat_tests), grind (arith, nat_tests))

pub heights_read_back : HeightsReadBack
heights_read_back bs c v f in_it low =
    let cs = put_four bs (start c) v in
    let same = put_others bs (start c) v in
    rewritten bs cs (start c) 4 (but (height_at bs) c v) (rain_at bs) (mark_at bs) f (omega arith) (put_length bs (start c) v) same
    (λ d l. but_at (height_at bs) (height_at cs) c v d 1000000
    (λ e. subst (λ (x : ℕ). height_at cs x ≡ v) (sym e) (height_is cs c ∙ put_same bs (start c) v (omega (arith, f.long)) (omega arith)))
    (λ ne. height_kept bs cs (start c) 4 d same (grind (arith, apart_from c d ne))) low (f.heights d l))
    (λ d l. (rain_kept bs cs (start c) 4 d same (grind (arith, cases_lt d c)), f.rains d l))
    (λ d l. (mark_kept bs cs (start c) 4 d same (grind (arith, cases_lt d c)), f.marks d l))

pub rains_read_back : RainsReadBack
rains_read_back bs c v f in_it low =
    let cs = put_four bs (start c + 4) v in
    let same = put_others bs (start c + 4) v in
    rewritten bs cs (start c + 4) 4 (height_at bs) (but (rain_at bs) c v) (mark_at bs) f (omega arith) (put_length bs (start c + 4) v) same
    (λ d l. (height_kept bs cs (start c + 4) 4 d same (grind (arith, cases_lt c d)), f.heights d l))
    (λ d l. but_at (rain_at bs) (rain_at cs) c v d 1000000
    (λ e. subst (λ (x : ℕ). rain_at cs x ≡ v) (sym e) (rain_is cs c ∙ put_same bs (start c + 4) v (omega (arith, f.long)) (omega arith)))
    (λ ne. rain_kept bs cs (start c + 4) 4 d same (grind (arith, apart_from c d ne))) low (f.rains d l))
    (λ d l. (mark_kept bs cs (start c + 4) 4 d same (grind (arith, cases_lt d c)), f.marks d l))

pub marks_read_back : MarksReadBack
marks_read_back bs c v f in_it low =
    let cs = set bs (start c + 8) v in
    let same : Others bs cs (start c + 8) 1 = λ k out. get_or-set_other bs (start c + 8) k v 0 (grind arith) in
    rewritten bs cs (start c + 8) 1 (height_at bs) (rain_at bs) (but (mark_at bs) c v) f (omega arith) (length-set bs (start c + 8) v) same
    (λ d l. (height_kept bs cs (start c + 8) 1 d same (grind (arith, cases_lt c d)), f.heights d l))
    (λ d l. (rain_kept bs cs (start c + 8) 1 d same (grind (arith, cases_lt c d)), f.rains d l))
    (λ d l. but_at (mark_at bs) (mark_at cs) c v d 1
    (λ e. subst (λ (x : ℕ). mark_at cs x ≡ v) (sym e) (mark_is cs c ∙ get_or-set_same bs (start c + 8) v 0 (omega (arith, f.long))))
    (λ ne. mark_kept bs cs (start c + 8) 1 d same (grind (arith, apart_from c d ne))) low (f.marks d l))
