-- What a fill answers, case by case. Assumes nothing.
use Rattle.std.specs.Prelude.{Ok}
use Prim.Native.Nat.{ℕ, ◌+◌, ◌*◌, ◌/◌, ◌%◌, ◌^◌, ◌≤◌, ◌<◌}
use native.Mathlib.Omega.{arith}
use mathlib.Core.Path.{◌≡◌, refl, ap, ◌∙◌}
use mathlib.Core.Logic.{inl, inr}
use lib.Bits.{bit_or}
use Rattle.std.specs.Int.Bits.{or_zero_r}
use Rattle.std.proofs.lemmas.Nat.{or_block}
use Rattle.text.proofs.Cases.{lt_or}
use borrow.Author.Tests.{lt-ltb, le-ltb, eq-eqb, ne_eqb}
use Rattle.records.specs.Answers.{refused_at}
use Rattle.records.specs.declared.fault.Fault.TheVariants as F
use Rattle.filling.specs.Filling.{with_bit15, fits}

module _ (n room : ℕ) where
  pub fits_not : 16777216 < n → fits n room ≡ refused_at F.SheetTooLong 0
  unfolding fits
  fits_not h = rw (lt-ltb 16777216 n h)

  pub fits_room : n ≤ 16777216 → room < n → fits n room ≡ refused_at F.BufferTooShort 0
  unfolding fits
  fits_room h k = rw (le-ltb 16777216 n h, lt-ltb room n k)

  pub fits_all : n ≤ 16777216 → n ≤ room → fits n room ≡ Ok n
  unfolding fits
  fits_all h k = rw (le-ltb 16777216 n h, le-ltb room n k)

pub bit_set : (p : ℕ) → p / 32768 % 2 ≡ 1 → with_bit15 p ≡ p
unfolding with_bit15
bit_set p h = rw (eq-eqb (p / 32768 % 2) 1 h)

pub bit_clear : (p : ℕ) → (p / 32768 % 2 ≡ 1 → ⊥) → with_bit15 p ≡ p + 32768
unfolding with_bit15
bit_clear p h = rw (ne_eqb (p / 32768 % 2) 1 h)

-- bit 15 by an 'or': the sum of what stands above it, the bit and what stands below it
one_low : (h : ℕ) → bit_or h 1 ≡ h / 2 * 2 + 1
one_low h = elim (lt_or (h % 2) 1) [
  | inl l ↦ let e : h ≡ h / 2 * 2 ^ 1 + 0 = omega arith in ap (λ (n : ℕ). bit_or n 1) e ∙ or_block 1 (h / 2) 0 0 1 (omega arith) (omega arith) ∙ rw or_zero_r refl
  | inr l ↦ let e : h ≡ h / 2 * 2 ^ 1 + 1 = omega arith in ap (λ (n : ℕ). bit_or n 1) e ∙ or_block 1 (h / 2) 0 1 1 (omega arith) (omega arith) ∙ rw or_zero_r refl
]

or_15 : (p : ℕ) → bit_or p 32768 ≡ (p / 32768 / 2 * 2 + 1) * 32768 + p % 32768
or_15 p =
    let e : p ≡ p / 32768 * 2 ^ 15 + p % 32768 = omega arith in
    ap (λ (n : ℕ). bit_or n 32768) e
    ∙ or_block 15 (p / 32768) 1 (p % 32768) 0 (omega arith) (omega arith)
    ∙ rw (one_low (p / 32768), or_zero_r (p % 32768)) refl

pub bit_put : (p : ℕ) → bit_or p 32768 ≡ with_bit15 p
bit_put p = elim (lt_or (p / 32768 % 2) 1) [
  | inl l ↦ omega (arith, or_15 p, bit_clear p (λ e. omega arith))
  | inr l ↦ omega (arith, or_15 p, bit_set p (omega arith))
]
