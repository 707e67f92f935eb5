-- The passes over shapes and marks: what is still to be judged, and one law for each way that it goes on. Assumes nothing.
use Rattle.std.specs.Prelude.{None, Option, Some}
use Prim.Native.Nat.{ℕ, zero, suc, ◌+◌, ◌-◌, ◌*◌, ◌/◌, ◌≤◌, ◌<◌, max}
use native.Mathlib.Omega.{arith}
use native.Mathlib.Nat.{zero-add}
use native.Mathlib.Numerals.{add-one}
use mathlib.Core.Path.{◌≡◌, refl, sym, ap, ◌∙◌, subst}
use mathlib.Core.Logic.{◌⊎◌, inl, inr}
use mathlib.Core.Bool.{Bool, true, false, cond, ◌&&◌}
use mathlib.Core.List.{List, [], ◌∷◌, ◌++◌, map}
use lib.Dec.{ltb, leb, eqb}
use lib.ListN.{length, drop, length-append, length-drop, length-map}
use lib.Seq.{drop-drop, drop-append_seam}
use borrow.Author.Tests.{ltb-true, le-leb, lt-leb, le-ltb, ne_eqb}
use Rattle.std.proofs.lemmas.List.{drop-append-le, take-append-le}
use Rattle.numbers.specs.Little.{little}
use Rattle.numbers.proofs.LittleLaws.{little_front}
use Rattle.entries.specs.Entries.{entries, later_fault, start_fault, shapes_fault, mark_fault, marks_fault}

-- ---- entries of any width

module _ (w n i : ℕ) (b : List ℕ) where
  pub entries_next : i < n → entries w (n - i) (drop (w * i) b) ≡ drop (w * i) b ∷ entries w (n - (i + 1)) (drop (w * i + w) b)
  unfolding entries
  entries_next h =
      let one : n - i ≡ suc (n - (i + 1)) = omega arith in
      rw one (ap (λ (l : List ℕ). drop (w * i) b ∷ entries w (n - (i + 1)) l) (drop-drop w (w * i) b))

  pub entries_end : n ≤ i → entries w (n - i) (drop (w * i) b) ≡ []
  unfolding entries
  entries_end h = let none : n - i ≡ 0 = omega arith in rw none

-- a body s that begins with an entry x of w bytes, with t behind it
pub record Begins (w : ℕ) (s x t : List ℕ) : Type 0 where
  pub parts : s ≡ x ++ t
  pub wide : length x ≡ w

module _ {w : ℕ} {s x t : List ℕ} (k : Begins w s x t) where
  behind : drop w s ≡ t
  behind = ap (λ (l : List ℕ). drop w l) k.parts ∙ ap (λ (n : ℕ). drop n (x ++ t)) (sym k.wide) ∙ drop-append_seam x t

  pub entries_taken : length s / w ≡ suc (length t / w) → entries w (length s / w) s ≡ s ∷ entries w (length t / w) t
  unfolding entries
  entries_taken n = rw n (ap (λ (l : List ℕ). s ∷ entries w (length t / w) l) behind)

  -- a number in the entry
  pub number_in : (n i : ℕ) → i + n ≤ w → little n (drop i s) ≡ little n (drop i x)
  number_in n i h =
      let inside : i ≤ length x = omega (arith, k.wide, h) in
      let more : n ≤ length (drop i x) = simp length-drop (omega (arith, k.wide, h)) in
      ap (λ (l : List ℕ). little n (drop i l)) k.parts
      ∙ rw (drop-append-le i x t inside)
      (sym (little_front n n (drop i x ++ t) (omega arith)) ∙ rw (take-append-le n (drop i x) t more) (little_front n n (drop i x) (omega arith)))

pub entries_none : (w : ℕ) (s : List ℕ) → length s / w ≡ 0 → entries w (length s / w) s ≡ []
unfolding entries
entries_none w s n = rw n

-- ---- shapes

-- the same with the next start in a range, from `low` on and below `end`
unfoldable pub ranged_fault : ℕ → ℕ → ℕ → ℕ → List ℕ → Option ℕ
ranged_fault i low end bound [] = None
ranged_fault i low end bound (s ∷ ss) = cond (leb low s && ltb s end) (later_fault (i + 1) s bound ss) (Some i)

-- the first start is in 0..1
ranged_first : (bound : ℕ) (ss : List ℕ) → start_fault bound ss ≡ ranged_fault 0 0 1 bound ss
unfolding start_fault ranged_fault
ranged_first bound [] = refl
ranged_first bound (zero ∷ ss) = refl
ranged_first bound (suc s ∷ ss) = rw (ne_eqb (suc s) 0 (λ e. omega arith), le-leb 0 (suc s) (omega arith), le-ltb (suc s) 1 (omega arith))

-- any other in before + 1..bound
ranged_later : (i before bound : ℕ) (ss : List ℕ) → later_fault i before bound ss ≡ ranged_fault i (before + 1) bound bound ss
unfolding later_fault ranged_fault
ranged_later i before bound [] = refl
ranged_later i before bound (s ∷ ss) = rw (add-one before)

second : (a b : Bool) → true ≡ (a && b) → b ≡ true
second true b e = sym e
second false b e = absurd (let z : ◌≡◌ {A = ℕ} 0 1 = cc in omega arith)

-- what is at fault is what is at fault in the rest, whose first start has index i
pub record Rising (b : List ℕ) (count bound low end i size : ℕ) (rest : List ℕ) : Type 0 where
  pub wide : size ≡ 8
  pub small : end < 4294967296
  pub left : shapes_fault count b ≡ ranged_fault i low end bound (map (little 4) (entries 8 (length rest / 8) rest))

pub rising_start : (b : List ℕ) (count bound i size : ℕ) (rest : List ℕ) → bound ≡ max count 1 → i ≡ 0 → size ≡ 8 → rest ≡ b
    → Rising b count bound 0 1 i size rest
unfolding shapes_fault
rising_start b count bound i size rest e at wide all =
    let same : bound ≡ max 1 count = omega (arith, e) in
    let left : shapes_fault count b ≡ ranged_fault 0 0 1 bound (map (little 4) (entries 8 (length b / 8) b)) =
    rw same (ranged_first (max 1 count) (map (little 4) (entries 8 (length b / 8) b))) in
    record { wide = wide; small = omega arith; left = rw (at, all) left }

module _ {b : List ℕ} {count bound low end i size : ℕ} {rest : List ℕ} (k : Rising b count bound low end i size rest) where
  -- where the next entry is x, and t is behind it
  module _ (x t : List ℕ) (parts : rest ≡ x ++ t) (long : length x ≡ size) (start : ℕ) (is : start ≡ little 4 x) where
    at_start : shapes_fault count b ≡ ranged_fault i low end bound (start ∷ map (little 4) (entries 8 (length t / 8) t))
    at_start =
        let g : Begins 8 rest x t = record { parts = parts; wide = long ∙ k.wide } in
        let n : length rest / 8 ≡ suc (length t / 8) = omega (arith, ap length parts, length-append x t, g.wide) in
        k.left
        ∙ ap (λ (l : List (List ℕ)). ranged_fault i low end bound (map (little 4) l)) (entries_taken g n)
        ∙ ap (λ (s : ℕ). ranged_fault i low end bound (s ∷ map (little 4) (entries 8 (length t / 8) t))) (number_in g 4 0 (omega arith) ∙ sym is)

    pub rising_fault : {j : ℕ} → j ≡ i → false ≡ (leb low start && ltb start end) → Some j ≡ shapes_fault count b
    unfolding ranged_fault
    rising_fault at e = sym (at_start ∙ rw (← e, at))

    pub rising_next : {j size' : ℕ} → j ≡ i + 1 → size' ≡ size → bound < 4294967296 → true ≡ (leb low start && ltb start end)
        → Rising b count bound (start + 1) bound j size' t
    unfolding ranged_fault
    rising_next at same h e =
        record {
          wide = same ∙ k.wide;
          small = h;
          left = at_start ∙ rw (← e, at) (ranged_later (i + 1) start bound (map (little 4) (entries 8 (length t / 8) t)));
        }

  -- the range behind a start in it is one of 32 bits too
  pub rising_fits : (start : ℕ) → true ≡ (leb low start && ltb start end) → start + 1 < 4294967296
  rising_fits start e = omega (arith, k.small, ltb-true start end (second (leb low start) (ltb start end) e))

  pub rising_end : length rest < size → None ≡ shapes_fault count b
  unfolding ranged_fault
  rising_end h =
      let n : length rest / 8 ≡ 0 = omega (arith, k.wide) in
      sym (k.left ∙ ap (λ (l : List (List ℕ)). ranged_fault i low end bound (map (little 4) l)) (entries_none 8 rest n))

-- ---- marks

-- the same of marks
pub record Marking (b : List ℕ) (count i size : ℕ) (rest : List ℕ) : Type 0 where
  pub wide : size ≡ 12
  pub left : marks_fault count b ≡ mark_fault i count (entries 12 (length rest / 12) rest)

pub marking_start : (b : List ℕ) (count i size : ℕ) (rest : List ℕ) → i ≡ 0 → size ≡ 12 → rest ≡ b → Marking b count i size rest
unfolding marks_fault
marking_start b count i size rest at wide all = record { wide = wide; left = rw (at, all) }

module _ {b : List ℕ} {count i size : ℕ} {rest : List ℕ} (k : Marking b count i size rest) where
  module _ (x t : List ℕ) (parts : rest ≡ x ++ t) (long : length x ≡ size) (start end : ℕ) (is : start ≡ little 4 x)
      (end_is : end ≡ little 4 (drop 4 x)) where
    g : Begins 12 rest x t
    g = record { parts = parts; wide = long ∙ k.wide }

    at_mark : marks_fault count b ≡ cond (leb start end && leb end count) (mark_fault (i + 1) count (entries 12 (length t / 12) t)) (Some i)
    unfolding mark_fault
    at_mark =
        let n : length rest / 12 ≡ suc (length t / 12) = omega (arith, ap length parts, length-append x t, g.wide) in
        let from : little 4 rest ≡ start = number_in g 4 0 (omega arith) ∙ sym is in
        let to : little 4 (drop 4 rest) ≡ end = number_in g 4 4 (omega arith) ∙ sym end_is in
        k.left ∙ ap (mark_fault i count) (entries_taken g n) ∙ rw (from, to)

    pub marking_fault : {j : ℕ} → j ≡ i → (end < start) ⊎ ((start ≤ end) × (count < end)) → Some j ≡ marks_fault count b
    marking_fault at (inl h) = sym (at_mark ∙ rw (lt-leb start end h, at))
    marking_fault at (inr h) = sym (at_mark ∙ rw (le-leb start end h.0, lt-leb end count h.1, at))

    pub marking_next : {j size' : ℕ} → j ≡ i + 1 → size' ≡ size → start ≤ end → end ≤ count → Marking b count j size' t
    marking_next at same f h = record { wide = same ∙ k.wide; left = at_mark ∙ rw (le-leb start end f, le-leb end count h, at) }

  pub marking_end : length rest < size → None ≡ marks_fault count b
  unfolding mark_fault
  marking_end h = let n : length rest / 12 ≡ 0 = omega (arith, k.wide) in sym (k.left ∙ ap (mark_fault i count) (entries_none 12 rest n))

-- ---- the entry at fault is one of the body's

-- an index, if there is one, below n
abbrev pub Under : ℕ → Option ℕ → Type 0
Under n None = Unit {0}
Under n (Some i) = i < n

-- the first at fault of an entry and those behind it
under_next : (t : Bool) (i n : ℕ) (rest : Option ℕ) → Under (i + 1 + n) rest → Under (i + suc n) (cond t rest (Some i))
under_next true i n None h = tt
under_next true i n (Some j) h = omega arith
under_next false i n rest h = omega arith

later_under : (i before bound : ℕ) (ss : List ℕ) → Under (i + length ss) (later_fault i before bound ss)
unfolding later_fault
later_under i before bound [] = tt
later_under i before bound (s ∷ ss) = under_next (ltb before s && ltb s bound) i (length ss) _ (later_under (i + 1) s bound ss)

start_under : (bound : ℕ) (ss : List ℕ) → Under (length ss) (start_fault bound ss)
unfolding start_fault
start_under bound [] = tt
start_under bound (s ∷ ss) = simp zero-add at (under_next (eqb s 0) 0 (length ss) (later_fault 1 s bound ss) (later_under 1 s bound ss))

mark_under : (i count : ℕ) (es : List (List ℕ)) → Under (i + length es) (mark_fault i count es)
unfolding mark_fault
mark_under i count [] = tt
mark_under i count (e ∷ es) = under_next (leb (little 4 e) (little 4 (drop 4 e)) && leb (little 4 (drop 4 e)) count) i (length es) _ (mark_under (i + 1) count es)

pub length-entries : (w n : ℕ) (b : List ℕ) → length (entries w n b) ≡ n
unfolding entries
length-entries w zero b = refl
length-entries w (suc n) b = ap suc (length-entries w n (drop w b))

pub shapes_under : (count : ℕ) (b : List ℕ) → Under (length b / 8) (shapes_fault count b)
unfolding shapes_fault
shapes_under count b =
    let es = entries 8 (length b / 8) b in
    subst (λ (n : ℕ). Under n (start_fault (max 1 count) (map (little 4) es))) (length-map es (little 4) ∙ length-entries 8 (length b / 8) b)
    (start_under (max 1 count) (map (little 4) es))

pub marks_under : (count : ℕ) (b : List ℕ) → Under (length b / 12) (marks_fault count b)
unfolding marks_fault
marks_under count b =
    let es = entries 12 (length b / 12) b in
    subst (λ (n : ℕ). Under n (mark_fault 0 count es)) (length-entries 12 (length b / 12) b) (simp zero-add at (mark_under 0 count es))
