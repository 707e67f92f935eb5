-- The units of a text by its bytes. Assumes nothing.
use Prim.Native.Nat.{ℕ, zero, suc, ◌+◌, ◌*◌, ◌/◌, ◌-◌, ◌≤◌, ◌<◌}
use native.Mathlib.Omega.{arith}
use mathlib.Core.Path.{◌≡◌, refl, sym, ap, ◌∙◌}
use mathlib.Core.Bool.{Bool, true, false, ◌&&◌}
use mathlib.Core.List.{List, [], ◌∷◌}
use lib.Dec.{leb}
use lib.ListN.{length, get_or, take, drop, get_or-eq_default}
use lib.Seq.{get_or-drop, get_or-take}
use borrow.Author.Tests.{le-leb, lt-leb}
use Rattle.numbers.specs.Little.{little}
use Rattle.numbers.proofs.LittleLaws.{two, little_front, part_rest}
use Rattle.text.specs.Units.{units}
use Rattle.text.specs.Mirror.{four_ordinary}

pub length-units : (s : List ℕ) → length (units s) ≡ length s / 2
unfolding units
length-units [] = refl
length-units (a ∷ []) = refl
length-units (a ∷ b ∷ s) = omega (arith, length-units s)

-- a unit is the number in its two bytes
unit_at : (s : List ℕ) (p : ℕ) → p < length s / 2 → get_or (units s) p 0 ≡ little 2 (drop (2 * p) s)
unfolding units little
unit_at [] p h = absurd (omega arith)
unit_at (a ∷ []) p h = absurd (omega arith)
unit_at (a ∷ b ∷ s) zero h = omega arith
unit_at (a ∷ b ∷ s) (suc p) h = let e : 2 * suc p ≡ suc (suc (2 * p)) = omega arith in rw e (unit_at s p (omega arith))

-- the same of its two bytes alone
pub unit_part : (s : List ℕ) (p : ℕ) → p < length s / 2 → little 2 (take (2 * p + 2 - 2 * p) (drop (2 * p) s)) ≡ get_or (units s) p 0
unit_part s p h =
    let n : 2 * p + 2 - 2 * p ≡ 2 = omega arith in
    rw n (little_front 2 2 (drop (2 * p) s) (omega arith) ∙ sym (unit_at s p h))

-- no unit is behind the last
pub no_unit : (s : List ℕ) (p : ℕ) → length s / 2 ≤ p → 0 ≡ get_or (units s) p 0
no_unit s p h = sym (get_or-eq_default (units s) 0 (rw length-units h))

-- ---- four units at once

two_at : (s : List ℕ) (k : ℕ) → little 2 (drop k s) ≡ get_or s k 0 + 256 * get_or s (k + 1) 0
two_at s k = let z : k + 0 ≡ k = omega arith in two (drop k s) ∙ simp get_or-drop (rw z)

pub apart : (b : Bool) → b ≡ true → b ≡ false → ⊥
apart true e f = let z : ◌≡◌ {A = ℕ} 0 1 = cc in omega arith
apart false e f = let z : ◌≡◌ {A = ℕ} 0 1 = cc in omega arith

joined : (a b c d : Bool) → (a && (b && (c && d))) ≡ (((a && b) && c) && d)
joined true true c d = refl
joined true false c d = refl
joined false b c d = refl

module _ (s : List ℕ) (p : ℕ) where
  -- their bytes
  abbrev eight : List ℕ
  eight = take (2 * p + 8 - 2 * p) (drop (2 * p) s)

  byte_of : (k : ℕ) → k < 8 → get_or eight k 0 ≡ get_or s (2 * p + k) 0
  byte_of k h = get_or-take (2 * p + 8 - 2 * p) (drop (2 * p) s) k 0 (omega arith) ∙ get_or-drop (2 * p) s k 0

  -- the i-th of them
  unit_of : p + 4 ≤ length s / 2 → (i k : ℕ) → k ≡ 2 * i → i < 4 → get_or (units s) (p + i) 0 ≡ little 2 (drop k eight)
  unit_of h i k e l =
      let a : 2 * p + k ≡ 2 * (p + i) = omega arith in
      let b : 2 * p + (k + 1) ≡ 2 * (p + i) + 1 = omega arith in
      unit_at s (p + i) (omega arith) ∙ two_at s (2 * (p + i))
      ∙ sym (two_at eight k ∙ rw (byte_of k (omega arith), byte_of (k + 1) (omega arith), a, b))

  -- the four tests as the code joins them
  pub four_bytes : p + 4 ≤ length s / 2
      → four_ordinary (units s) p
      ≡ (((leb 32 (little 2 eight) && leb 32 (little 2 (take (length eight - 2) (drop 2 eight))))
      && leb 32 (little 2 (take (length eight - 4) (drop 4 eight))))
      && leb 32 (little 2 (take (length eight - 6) (drop 6 eight))))
  unfolding four_ordinary
  four_bytes h =
      let z : p + 0 ≡ p = omega arith in
      rw (
        part_rest eight 2,
        part_rest eight 4,
        part_rest eight 6,
        length-units,
        le-leb (p + 4) (length s / 2) h,
        ap (λ (i : ℕ). get_or (units s) i 0) (sym z) ∙ unit_of h 0 0 (omega arith) (omega arith),
        unit_of h 1 2 (omega arith) (omega arith),
        unit_of h 2 4 (omega arith) (omega arith),
        unit_of h 3 6 (omega arith) (omega arith),
      )
      (joined (leb 32 (little 2 eight)) (leb 32 (little 2 (drop 2 eight))) (leb 32 (little 2 (drop 4 eight))) (leb 32 (little 2 (drop 6 eight))))

  -- where three of them hold, the last one decides
  pub four_last : {a b c d : ℕ} → p + 4 ≤ length s / 2 → a ≡ little 2 eight → b ≡ little 2 (take (length eight - 2) (drop 2 eight))
      → c ≡ little 2 (take (length eight - 4) (drop 4 eight)) → d ≡ little 2 (take (length eight - 6) (drop 6 eight))
      → 32 ≤ a → leb 32 b ≡ true → leb 32 c ≡ true → leb 32 d ≡ four_ordinary (units s) p
  four_last {a} h ea eb ec ed x y z = sym (four_bytes h ∙ rw (← ea, ← eb, ← ec, ← ed, le-leb 32 a x, y, z))

  pub four_few : length s / 2 < p + 4 → false ≡ four_ordinary (units s) p
  unfolding four_ordinary
  four_few h = rw (length-units, lt-leb (p + 4) (length s / 2) h)
