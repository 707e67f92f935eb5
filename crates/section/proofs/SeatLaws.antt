-- The number kept for a level says what rule 9 asks of the records there. Assumes nothing.
use Rattle.std.specs.Prelude.{None, Some}
use Prim.Native.Nat.{ℕ, ◌+◌, ◌*◌, ◌/◌, ◌%◌, ◌<◌}
use native.Mathlib.Omega.{arith}
use native.Mathlib.Nat.{div-div-eq-div-mul, zero-add}
use mathlib.Core.Path.{◌≡◌, refl, sym, ap, ◌∙◌, subst}
use mathlib.Core.Logic.{◌⊎◌, inl, inr}
use mathlib.Core.Bool.{Bool, true, false, cond, ◌&&◌, ◌||◌}
use mathlib.Core.List.{List, [], ◌∷◌}
use lib.Dec.{leb, eqb}
use borrow.Author.Tests.{lt-ltb, le-ltb, le-leb, lt-leb, eq-eqb, ne_eqb, leb-true, eqb-true, eqb-false}
use Rattle.records.specs.Records.{Rec}
use Rattle.records.specs.Parents.{parent_of}
use Rattle.records.proofs.ParentLaws.{parent_skip, parent_here}
use Rattle.text.proofs.Cases.{eq_or}
use Rattle.section.specs.Parents.{doubled, leaf, header, parent_is, misplaced}
use Rattle.section.specs.Seats.{own_code, bit_of, has, seat_leaf, seat_of}

-- ---- the four tags

pub data Leaf : ℕ → Type 0 where
  text : Leaf 67
  shapes : Leaf 68
  layout : Leaf 69
  marks : Leaf 70

both : (a b : Bool) → (a && b) ≡ true → (a ≡ true) × (b ≡ true)
both true b e = (refl, e)
both false b e = absurd (let z : ◌≡◌ {A = ℕ} 0 1 = cc in omega arith)

leaf_as : {t : ℕ} (u : ℕ) → t ≡ u → Leaf u → Leaf t
leaf_as u e l = subst Leaf (sym e) l

pub leaf_of : (t : ℕ) → leaf t ≡ true → Leaf t
unfolding leaf
leaf_of t e = go (eq_or t 67) (eq_or t 68) (eq_or t 69)
  where
    go : (t ≡ 67) ⊎ (t ≡ 67 → ⊥) → (t ≡ 68) ⊎ (t ≡ 68 → ⊥) → (t ≡ 69) ⊎ (t ≡ 69 → ⊥) → Leaf t
    go (inl q) b c = leaf_as 67 q text
    go (inr p) (inl q) c = leaf_as 68 q shapes
    go (inr p) (inr q) (inl r) = leaf_as 69 r layout
    go (inr p) (inr q) (inr r) =
        let k = both (leb 67 t) (leb t 70) e in
        leaf_as 70 (omega (arith, leb-true 67 t k.0, leb-true t 70 k.1, p, q, r)) marks

-- ---- one bit for each

even : (y : ℕ) → (y % 2 ≡ 1 → ⊥) → (y + 1) / 2 ≡ y / 2
even y h = omega arith

odd : (y : ℕ) → (y % 2 ≡ 1 → ⊥) → (y + 1) % 2 ≡ 1
odd y h = omega arith

-- equal behind m places of the number, so equal behind more
deeper : (x y m j : ℕ) → x / m ≡ y / m → x / (m * j) ≡ y / (m * j)
deeper x y m j e = sym (div-div-eq-div-mul x m j) ∙ ap (λ (z : ℕ). z / j) e ∙ div-div-eq-div-mul y m j

up_1 : (code : ℕ) → (code + 1) / 1 ≡ code / 1 + 1
up_1 code = omega arith

up_2 : (code : ℕ) → (code + 2) / 2 ≡ code / 2 + 1
up_2 code = omega arith

up_4 : (code : ℕ) → (code + 4) / 4 ≡ code / 4 + 1
up_4 code = omega arith

up_8 : (code : ℕ) → (code + 8) / 8 ≡ code / 8 + 1
up_8 code = omega arith

carry_1 : (code : ℕ) → (code / 1 % 2 ≡ 1 → ⊥) → (code + 1) / 2 ≡ code / 2
carry_1 code h = sym (div-div-eq-div-mul (code + 1) 1 2) ∙ ap (λ (z : ℕ). z / 2) (up_1 code) ∙ even (code / 1) h ∙ div-div-eq-div-mul code 1 2

carry_2 : (code : ℕ) → (code / 2 % 2 ≡ 1 → ⊥) → (code + 2) / 4 ≡ code / 4
carry_2 code h = sym (div-div-eq-div-mul (code + 2) 2 2) ∙ ap (λ (z : ℕ). z / 2) (up_2 code) ∙ even (code / 2) h ∙ div-div-eq-div-mul code 2 2

carry_4 : (code : ℕ) → (code / 4 % 2 ≡ 1 → ⊥) → (code + 4) / 8 ≡ code / 8
carry_4 code h = sym (div-div-eq-div-mul (code + 4) 4 2) ∙ ap (λ (z : ℕ). z / 2) (up_4 code) ∙ even (code / 4) h ∙ div-div-eq-div-mul code 4 2

off : (x y : ℕ) → x ≡ y → eqb (x % 2) 1 ≡ eqb (y % 2) 1
off x y e = ap (λ (z : ℕ). eqb (z % 2) 1) e

same_digit : (x y j : ℕ) → x ≡ y + 2 * j → eqb (x % 2) 1 ≡ eqb (y % 2) 1
same_digit x y j e = let q : x % 2 ≡ y % 2 = omega arith in ap (λ (z : ℕ). eqb z 1) q

-- the bit of t is set in code + its bit, and the others are as they were
bits : (code : ℕ) {t u : ℕ} → Leaf t → Leaf u → has code t ≡ false → has (code + bit_of t) u ≡ (eqb t u || has code u)
unfolding has bit_of
bits code text text e = eq-eqb ((code + 1) / 1 % 2) 1 (ap (λ (z : ℕ). z % 2) (up_1 code) ∙ odd (code / 1) (eqb-false (code / 1 % 2) 1 e))
bits code text shapes e = off ((code + 1) / 2) (code / 2) (carry_1 code (eqb-false (code / 1 % 2) 1 e))
bits code text layout e = off ((code + 1) / 4) (code / 4) (deeper (code + 1) code 2 2 (carry_1 code (eqb-false (code / 1 % 2) 1 e)))
bits code text marks e = off ((code + 1) / 8) (code / 8) (deeper (code + 1) code 2 4 (carry_1 code (eqb-false (code / 1 % 2) 1 e)))
bits code shapes text e = same_digit ((code + 2) / 1) (code / 1) 1 (omega arith)
bits code shapes shapes e = eq-eqb ((code + 2) / 2 % 2) 1 (ap (λ (z : ℕ). z % 2) (up_2 code) ∙ odd (code / 2) (eqb-false (code / 2 % 2) 1 e))
bits code shapes layout e = off ((code + 2) / 4) (code / 4) (carry_2 code (eqb-false (code / 2 % 2) 1 e))
bits code shapes marks e = off ((code + 2) / 8) (code / 8) (deeper (code + 2) code 4 2 (carry_2 code (eqb-false (code / 2 % 2) 1 e)))
bits code layout text e = same_digit ((code + 4) / 1) (code / 1) 2 (omega arith)
bits code layout shapes e = same_digit ((code + 4) / 2) (code / 2) 1 (omega arith)
bits code layout layout e = eq-eqb ((code + 4) / 4 % 2) 1 (ap (λ (z : ℕ). z % 2) (up_4 code) ∙ odd (code / 4) (eqb-false (code / 4 % 2) 1 e))
bits code layout marks e = off ((code + 4) / 8) (code / 8) (carry_4 code (eqb-false (code / 4 % 2) 1 e))
bits code marks text e = same_digit ((code + 8) / 1) (code / 1) 4 (omega arith)
bits code marks shapes e = same_digit ((code + 8) / 2) (code / 2) 2 (omega arith)
bits code marks layout e = same_digit ((code + 8) / 4) (code / 4) 1 (omega arith)
bits code marks marks e = eq-eqb ((code + 8) / 8 % 2) 1 (ap (λ (z : ℕ). z % 2) (up_8 code) ∙ odd (code / 8) (eqb-false (code / 8 % 2) 1 e))

bits_small : (code : ℕ) {t : ℕ} → Leaf t → code < 16 → has code t ≡ false → code + bit_of t < 16
unfolding has bit_of
bits_small code text h e = omega (arith, eqb-false (code / 1 % 2) 1 e)
bits_small code shapes h e = omega (arith, eqb-false (code / 2 % 2) 1 e)
bits_small code layout h e = omega (arith, eqb-false (code / 4 % 2) 1 e)
bits_small code marks h e = omega (arith, eqb-false (code / 8 % 2) 1 e)

bits_none : {t : ℕ} → Leaf t → has 0 t ≡ false
unfolding has bit_of
bits_none text = refl
bits_none shapes = refl
bits_none layout = refl
bits_none marks = refl

-- ---- the clauses of doubled

module _ (level : ℕ) (r : Rec) (e : List Rec) where
  doubled_skip : (t : ℕ) → level < r.level → doubled t level (r ∷ e) ≡ doubled t level e
  unfolding doubled
  doubled_skip t h = rw (le-ltb r.level level (omega arith), ne_eqb r.level level (λ q. omega arith))

  doubled_level : (t : ℕ) → r.level ≡ level → doubled t level (r ∷ e) ≡ (eqb r.tag t || doubled t level e)
  unfolding doubled
  doubled_level t h = rw (le-ltb r.level level (omega arith), eq-eqb r.level level h)

  doubled-below : (t : ℕ) → r.level < level → doubled t level (r ∷ e) ≡ false
  unfolding doubled
  doubled-below t h = rw (lt-ltb r.level level h)

-- ---- what the number says

pub data Speaks (code level : ℕ) (e : List Rec) : Type 0 where
  under_leaf : code ≡ 32 → parent_is leaf (parent_of level e) ≡ true → Speaks code level e
  elsewhere : code ≡ 16 → parent_is leaf (parent_of level e) ≡ false → parent_is header (parent_of level e) ≡ false → Speaks code level e
  under_header : code < 16 → parent_is leaf (parent_of level e) ≡ false → parent_is header (parent_of level e) ≡ true
      → ((t : ℕ) → leaf t ≡ true → has code t ≡ doubled t level e) → Speaks code level e

pub speaks_start : Speaks 16 0 []
unfolding parent_of
speaks_start = elsewhere refl refl refl

pub speaks_skip : {code level : ℕ} (r : Rec) {e : List Rec} → level < r.level → Speaks code level e → Speaks code level (r ∷ e)
speaks_skip {code} {level} r {e} h (under_leaf q p) = under_leaf q (rw (parent_skip level r e (omega arith)) p)
speaks_skip {code} {level} r {e} h (elsewhere q p d) =
    elsewhere q (rw (parent_skip level r e (omega arith)) p) (rw (parent_skip level r e (omega arith)) d)
speaks_skip {code} {level} r {e} h (under_header q p d k) =
    under_header q (rw (parent_skip level r e (omega arith)) p) (rw (parent_skip level r e (omega arith)) d)
    (λ t l. k t l ∙ sym (doubled_skip level r e t h))

-- a record to its first child
header-leaf : (t : ℕ) → header t ≡ true → leaf t ≡ false
unfolding header leaf
header-leaf t e = rw (lt-leb 67 t (omega (arith, eqb-true t 66 e)))

pub speaks_own : (r : Rec) (e : List Rec) → Speaks (own_code r.tag) (r.level + 1) (r ∷ e)
unfolding own_code
speaks_own r e = by (header r.tag) refl (leaf r.tag) refl
  where
    p : parent_of (r.level + 1) (r ∷ e) ≡ r ∷ e
    p = parent_here (r.level + 1) r e (omega arith)

    is : (which : ℕ → Bool) → parent_is which (parent_of (r.level + 1) (r ∷ e)) ≡ which r.tag
    is which = ap (parent_is which) p

    by : (a : Bool) → header r.tag ≡ a → (b : Bool) → leaf r.tag ≡ b → Speaks (cond (header r.tag) 0 (cond (leaf r.tag) 32 16)) (r.level + 1) (r ∷ e)
    by true q b l =
        rw q (under_header (omega arith) (is leaf ∙ header-leaf r.tag q) (is header ∙ q)
        (λ t k. bits_none (leaf_of t k) ∙ sym (doubled-below (r.level + 1) r e t (omega arith))))
    by false q true l = rw (q, l) (under_leaf refl (is leaf ∙ l))
    by false q false l = rw (q, l) (elsewhere refl (is leaf ∙ l) (is header ∙ q))

-- ---- a record takes its seat exactly where rule 9 does not name it

pub data Seating (code : ℕ) (r : Rec) (e : List Rec) : Type 0 where
  strays : seat_of code r.tag ≡ None → misplaced r e ≡ true → Seating code r e
  sits : (c : ℕ) → seat_of code r.tag ≡ Some c → misplaced r e ≡ false → Speaks c r.level (r ∷ e) → Seating code r e

module _ (code : ℕ) (r : Rec) (e : List Rec) where
  abbrev above : List Rec
  above = parent_of r.level e

  same : parent_of r.level (r ∷ e) ≡ above
  same = parent_skip r.level r e (omega arith)

  other_tag : (t : ℕ) → leaf r.tag ≡ false → leaf t ≡ true → eqb r.tag t ≡ false
  other_tag t h k = ne_eqb r.tag t (λ q. let z : true ≡ false = sym k ∙ ap leaf (sym q) ∙ h in let y : ◌≡◌ {A = ℕ} 0 1 = cc in omega arith)

  under_a_leaf : code ≡ 32 → parent_is leaf above ≡ true → Seating code r e
  unfolding seat_of misplaced
  under_a_leaf q p = strays (rw (eq-eqb code 32 q)) (rw p)

  elsewhere_by : code ≡ 16 → parent_is leaf above ≡ false → parent_is header above ≡ false → (l : Bool) → leaf r.tag ≡ l → Seating code r e
  unfolding seat_of seat_leaf misplaced
  elsewhere_by q p h true l =
      strays (rw (ne_eqb code 32 (λ z. omega arith), l, le-leb 16 code (omega arith))) (rw (p, l, h))
  elsewhere_by q p h false l =
      sits code (rw (ne_eqb code 32 (λ z. omega arith), l)) (rw (p, l)) (elsewhere q (ap (parent_is leaf) same ∙ p) (ap (parent_is header) same ∙ h))

  module _ (small : code < 16) (p : parent_is leaf above ≡ false) (h : parent_is header above ≡ true)
      (k : (t : ℕ) → leaf t ≡ true → has code t ≡ doubled t r.level e) where
    no_leaf : leaf r.tag ≡ false → Seating code r e
    unfolding seat_of misplaced
    no_leaf l =
        sits code (rw (ne_eqb code 32 (λ z. omega arith), l)) (rw (p, l))
        (under_header small (ap (parent_is leaf) same ∙ p) (ap (parent_is header) same ∙ h)
        (λ t q. k t q ∙ sym (doubled_level r.level r e t refl ∙ rw (other_tag t l q))))

    a_leaf : leaf r.tag ≡ true → (b : Bool) → has code r.tag ≡ b → Seating code r e
    unfolding seat_of seat_leaf misplaced
    a_leaf l true b =
        let d : doubled r.tag r.level e ≡ true = sym (k r.tag l) ∙ b in
        strays (rw (ne_eqb code 32 (λ z. omega arith), l, lt-leb 16 code small, b)) (rw (p, l, h, d))
    a_leaf l false b =
        let d : doubled r.tag r.level e ≡ false = sym (k r.tag l) ∙ b in
        sits (code + bit_of r.tag) (rw (ne_eqb code 32 (λ z. omega arith), l, lt-leb 16 code small, b)) (rw (p, l, h, d))
        (under_header (bits_small code (leaf_of r.tag l) small b) (ap (parent_is leaf) same ∙ p) (ap (parent_is header) same ∙ h)
        (λ t q.
        bits code (leaf_of r.tag l) (leaf_of t q) b ∙ ap (λ (z : Bool). eqb r.tag t || z) (k t q)
        ∙ sym (doubled_level r.level r e t refl)))

    under_by : (l : Bool) → leaf r.tag ≡ l → Seating code r e
    under_by true l = a_leaf l (has code r.tag) refl
    under_by false l = no_leaf l

  pub seating : Speaks code r.level e → Seating code r e
  seating (under_leaf q p) = under_a_leaf q p
  seating (elsewhere q p h) = elsewhere_by q p h (leaf r.tag) refl
  seating (under_header q p h k) = under_by q p h k (leaf r.tag) refl

-- with 0 any record takes its seat
free_by : (t : ℕ) (l : Bool) → leaf t ≡ l → seat_of 0 t ≡ Some (cond l (bit_of t) 0)
unfolding seat_of seat_leaf
free_by t true l = rw (l, bits_none (leaf_of t l)) (ap Some (zero-add (bit_of t)))
free_by t false l = rw l

pub seat_free : (t : ℕ) → seat_of 0 t ≡ Some (cond (leaf t) (bit_of t) 0)
seat_free t = free_by t (leaf t) refl
