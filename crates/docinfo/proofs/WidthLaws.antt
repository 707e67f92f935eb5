-- The laws of the width: what a length holds, each clause of the definition under its test, and back. Assumes nothing.
use Rattle.std.specs.Prelude.{None, Some, Option}
use Prim.Native.Nat.{ℕ, ◌%◌, ◌≤◌}
use native.Mathlib.Omega.{arith}
use mathlib.Core.Path.{◌≡◌, refl}
use mathlib.Core.Bool.{Bool, true, false, cond, ◌&&◌}
use lib.Dec.{leb, eqb}
use borrow.Author.Tests.{eqb-true, leb-true, eq-eqb, ne_eqb, le-leb}
use Rattle.docinfo.specs.Widths.{form_of}
use Rattle.docinfo.specs.declared.widths.Width.{Width}
use Rattle.docinfo.specs.declared.widths.Width.TheVariants as N

-- ---- what a length holds

module _ (n : ℕ) where
  pub form_16 : n ≡ 32 → form_of n ≡ Some N.Bits16
  unfolding form_of
  form_16 e = simp (eq-eqb n 32 e)

  pub form_32 : 60 ≤ n → n % 4 ≡ 0 → form_of n ≡ Some N.Bits32
  unfolding form_of
  form_32 l e = simp (ne_eqb n 32 (λ q. omega (arith, l, q)), le-leb 60 n l, eq-eqb (n % 4) 0 e)

  -- what the form says of the length
  abbrev pub Formed : Option Width → Type 0
  Formed (Some N.Bits16) = n ≡ 32
  Formed (Some N.Bits32) = (60 ≤ n) × (n % 4 ≡ 0)
  Formed None = Unit {0}

  formed_by : (a b c : Bool) → eqb n 32 ≡ a → leb 60 n ≡ b → eqb (n % 4) 0 ≡ c
      → Formed (cond a (Some N.Bits16) (cond (b && c) (Some N.Bits32) None))
  formed_by true b c p q r = eqb-true _ _ p
  formed_by false true true p q r = (leb-true _ _ q, eqb-true _ _ r)
  formed_by false true false p q r = tt
  formed_by false false c p q r = tt

  pub formed : Formed (form_of n)
  unfolding form_of
  formed = formed_by (eqb n 32) (leb 60 n) (eqb (n % 4) 0) refl refl refl
