-- What a unit begins, and how many positions it takes. Assumes nothing.
use Prim.Native.Nat.{ℕ, ◌≤◌, ◌<◌}
use mathlib.Core.Path.{◌≡◌, refl}
use mathlib.Core.Logic.{◌⊎◌, inl, inr}
use borrow.Author.Tests.{lt-ltb, le-ltb}
use Rattle.text.specs.Asked.{control, what, class_width, width}
use Rattle.text.specs.declared.Class.{Class}
use Rattle.text.specs.declared.Class.TheVariants.{Character, Inline, Extended}
use Rattle.text.specs.declared.Standing.{Standing}
use Rattle.text.specs.declared.Standing.TheVariants.{Ordinary, Control}

pub what-control : (u : ℕ) → u < 32 → what u ≡ Control (control u)
unfolding what
what-control u h = simp (lt-ltb u 32 h)

pub what_ordinary : (u : ℕ) → 32 ≤ u → what u ≡ Ordinary u
unfolding what
what_ordinary u h = simp (le-ltb u 32 h)

class_width_or : (c : Class) → (class_width c ≡ 1) ⊎ (class_width c ≡ 8)
class_width_or Character = inl refl
class_width_or Inline = inr refl
class_width_or Extended = inr refl

-- one position or eight
pub width_or : (s : Standing) → (width s ≡ 1) ⊎ (width s ≡ 8)
width_or (Ordinary u) = inl refl
width_or (Control c) = class_width_or c.class
