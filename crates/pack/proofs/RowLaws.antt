-- The rows of a table: one after the other, and what an acceptance says of each. Assumes nothing.
use Rattle.std.specs.Prelude.{Err, Ok}
use Prim.Native.Nat.{ℕ, zero, suc, ◌+◌, ◌-◌, ◌≤◌, ◌<◌, min}
use native.Mathlib.Omega.{arith}
use native.Mathlib.Decide.{dec_le}
use native.Mathlib.Nat.{lt_of_not-le, add-zero}
use mathlib.Core.Path.{◌≡◌, refl, sym, ap, ◌∙◌, subst}
use mathlib.Core.Bool.{Bool, true, false, cond, not}
use mathlib.Core.List.{List, [], ◌∷◌, map}
use lib.Dec.{T, ltb, eqb, nltb→le}
use lib.ListN.{length, get_or, take, drop, length-drop}
use lib.Seq.{get_or-drop, drop-drop}
use borrow.Author.Tests.{lt-ltb, le-ltb}
use Rattle.records.specs.declared.fault.Fault.{Fault}
use Rattle.records.specs.declared.fault.Fault.TheVariants as F
use Rattle.records.specs.Records.{limit, lead_of, size}
use Rattle.records.specs.Table.{level_of, Lists, room_in}
use Rattle.records.proofs.HeaderLaws.{length_part}
use Rattle.pack.specs.declared.table.Row.{Row}
use Rattle.pack.specs.Rows.{row_of, rows, pointed, records}
use Rattle.pack.specs.Packing.{refused_at, first_of, numbers_verdict, parent_verdict, body_verdict, verdict, row_by_row, closing, SoundRow, Packed, Verdict}

-- ---- as many rows as each list has entries

pub record Listed (n : ℕ) (k : Lists) : Type 0 where
  pub in_tags : n ≤ length k.tags
  pub in_levels : n ≤ length k.levels
  pub in_places : n ≤ length k.places
  pub in_lengths : n ≤ length k.lengths
  pub in_parents : n ≤ length k.parents

pub listed_in : (n : ℕ) (k : Lists) → n ≤ room_in k → Listed n k
listed_in n k h =
    record { in_tags = omega arith; in_levels = omega arith; in_places = omega arith; in_lengths = omega arith; in_parents = omega arith }

-- ---- the rows from an index on

module _ (n : ℕ) (t l p q : List ℕ) where
  abbrev pub from : ℕ → List Row
  from i = rows (n - i) (drop i t) (drop i l) (drop i p) (drop i q)

  pub from_next : (i : ℕ) → i < n → from i ≡ row_of (get_or t i 0) (get_or l i 0) (get_or p i 0) (get_or q i 0) ∷ from (i + 1)
  unfolding rows
  from_next i h = let e : n - i ≡ suc (n - (i + 1)) = omega arith in simp (e, get_or-drop, drop-drop, add-zero)

  pub from_end : (i : ℕ) → n ≤ i → from i ≡ []
  unfolding rows
  from_end i h = let e : n - i ≡ 0 = omega arith in rw e

pub length-rows : (n : ℕ) (t l p q : List ℕ) → length (rows n t l p q) ≡ n
unfolding rows
length-rows zero t l p q = refl
length-rows (suc n) t l p q = ap suc (length-rows n (drop 1 t) (drop 1 l) (drop 1 p) (drop 1 q))

pub one_more : (n : ℕ) (t : List ℕ) → suc n ≤ length t → get_or t 0 0 ∷ take n (drop 1 t) ≡ take (suc n) t
one_more n [] h = absurd (omega arith)
one_more n (x ∷ t) h = refl

-- the levels of the records that rows point to
pub packed_levels : (bytes : List ℕ) (n : ℕ) (t l p q : List ℕ) → n ≤ length l → map level_of (records bytes (rows n t l p q)) ≡ take n l
unfolding rows
packed_levels bytes zero t l p q h = refl
packed_levels bytes (suc n) t l p q h =
    ap (λ (x : List ℕ). get_or l 0 0 ∷ x) (packed_levels bytes n (drop 1 t) (drop 1 l) (drop 1 p) (drop 1 q) (omega (arith, length-drop 1 l))) ∙ one_more n l h

-- ---- one row

both_sound : (a b : Verdict) → first_of a b ≡ Ok tt → (a ≡ Ok tt) × (b ≡ Ok tt)
both_sound (Ok tt) b e = (refl, e)
both_sound (Err f) b e = absurd (let z : ◌≡◌ {A = ℕ} 0 1 = cc in omega arith)

by_cond : (A : Verdict → Type 0) (b : Bool) (x y : Verdict) → (T b → A x) → (T (not b) → A y) → A (cond b x y)
by_cond A true x y f g = f tt
by_cond A false x y f g = g tt

-- what holds where a verdict is sound
abbrev If : Type 0 → Verdict → Type 0
If A (Ok tt) = A
If A (Err f) = Unit {0}

numbers_if : (cap tag level : ℕ) → If ((16 ≤ tag) × (tag ≤ 1023) × (level ≤ cap) × (level ≤ 1023)) (numbers_verdict cap tag level)
unfolding numbers_verdict
numbers_if cap tag level =
    let A = If ((16 ≤ tag) × (tag ≤ 1023) × (level ≤ cap) × (level ≤ 1023)) in
    by_cond A (ltb tag 16) _ _ (λ _. tt)
    (λ a.
    by_cond A (ltb 1023 tag) _ _ (λ _. tt)
    (λ b.
    by_cond A (ltb cap level) _ _ (λ _. tt)
    (λ c. by_cond A (ltb 1023 level) _ _ (λ _. tt) (λ d. (nltb→le _ _ a, nltb→le _ _ b, nltb→le _ _ c, nltb→le _ _ d)))))

parent_if : (right : Bool) → If (T right) (parent_verdict right)
unfolding parent_verdict
parent_if right = by_cond (If (T right)) right _ _ (λ g. g) (λ _. tt)

body_if : (lent end : ℕ) → If (end ≤ lent) (body_verdict lent end)
unfolding body_verdict
body_if lent end = by_cond (If (end ≤ lent)) (ltb lent end) _ _ (λ _. tt) (λ e. nltb→le _ _ e)

pub sound : (cap : ℕ) (right : Bool) (lent : ℕ) (r : Row) → verdict cap right lent r ≡ Ok tt → SoundRow cap lent r × T right
unfolding verdict
sound cap right lent r e =
    let below = first_of (parent_verdict right) (body_verdict lent (r.place + r.len)) in
    let x = both_sound (numbers_verdict cap r.tag r.level) below e in
    let y = both_sound (parent_verdict right) (body_verdict lent (r.place + r.len)) x.1 in
    let n : (16 ≤ r.tag) × (r.tag ≤ 1023) × (r.level ≤ cap) × (r.level ≤ 1023) = subst (If _) x.0 (numbers_if cap r.tag r.level) in (
      record { tag_low = n.0; tag_high = n.1; level_cap = n.2; level_high = n.3; inside = subst (If _) y.1 (body_if lent (r.place + r.len)) },
      subst (If _) y.0 (parent_if right),
    )

pub sound_verdict : (cap : ℕ) (right : Bool) (lent : ℕ) (r : Row) → SoundRow cap lent r → right ≡ true → verdict cap right lent r ≡ Ok tt
unfolding verdict numbers_verdict parent_verdict body_verdict
sound_verdict cap right lent r s g =
    simp (
      le-ltb r.tag 16 s.tag_low,
      le-ltb 1023 r.tag s.tag_high,
      le-ltb cap r.level s.level_cap,
      le-ltb 1023 r.level s.level_high,
      g,
      le-ltb lent (r.place + r.len) s.inside,
    )

-- ---- row by row

module _ (lent i cap : ℕ) where
  module _ (r : Row) (rs : List Row) (given has : List ℕ) (after : Packed) where
    pub row_next : verdict cap (eqb (get_or given 0 0) (get_or has 0 0)) lent r ≡ Ok tt
        → row_by_row lent i cap (r ∷ rs) given has after ≡ row_by_row lent (i + 1) (r.level + 1) rs (drop 1 given) (drop 1 has) after
    unfolding row_by_row
    row_next e = rw (e, row_by_row)

    pub row_stop : (f : Fault) → verdict cap (eqb (get_or given 0 0) (get_or has 0 0)) lent r ≡ Err f
        → row_by_row lent i cap (r ∷ rs) given has after ≡ refused_at f i
    unfolding row_by_row
    row_stop f e = rw (e, row_by_row)

  pub row_end : (given has : List ℕ) (after : Packed) → row_by_row lent i cap [] given has after ≡ after
  unfolding row_by_row
  row_end given has after = refl

-- ---- 1 and 26

pub closing_over : (room n : ℕ) → limit < n → closing room n ≡ refused_at F.StreamTooLong 0
unfolding closing
closing_over room n h = simp (lt-ltb limit n h)

pub closing-short : (room n : ℕ) → n ≤ limit → room < n → closing room n ≡ refused_at F.BufferTooShort 0
unfolding closing
closing-short room n h g = simp (le-ltb limit n h, lt-ltb room n g)

pub closing-fits : (room n : ℕ) → n ≤ limit → n ≤ room → closing room n ≡ Ok n
unfolding closing
closing-fits room n h g = simp (le-ltb limit n h, le-ltb room n g)

-- a total that is capped one over the limit closes as the total does
pub closing_capped : (room n : ℕ) → closing room (min 16777217 n) ≡ closing room n
closing_capped room n =
    elim (dec_le n 16777217) [
      | yes h ↦ let e : min 16777217 n ≡ n = omega arith in rw e
      | no g ↦
          let h : 16777217 < n = lt_of_not-le g in
          closing_over room (min 16777217 n) (omega arith) ∙ sym (closing_over room n (omega arith))
    ]

-- ---- the stream of rows

pub size-pointed : (bytes : List ℕ) (r : Row) → r.place + r.len ≤ length bytes → size (pointed bytes r) ≡ lead_of r.len + r.len
unfolding size
size-pointed bytes r h = simp (length_part bytes r.place r.len h)
