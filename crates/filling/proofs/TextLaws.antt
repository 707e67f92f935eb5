-- The walk over a text with a part of it replaced, and its units. Assumes nothing.
use mathlib.Core.Path.{◌≡◌, refl, ap}
use Prim.Native.Nat.{ℕ, zero, suc, ◌+◌, ◌*◌, ◌-◌, ◌≤◌}
use native.Mathlib.Omega.{arith}
use mathlib.Core.List.{List, [], ◌∷◌, ◌++◌, map}
use lib.ListN.{length, take, drop}
use lib.Seq.{take-nil, drop-nil, length-take-le}
use Rattle.text.specs.Units.{units}
use Rattle.text.specs.Walk.{walk, AllOrdinary}
use Rattle.text.proofs.PartLaws.{left_over, shift, walk_shift, walk_parts}
use Rattle.filling.specs.Replacing.{replaced}
use Rattle.filling.proofs.ReplacingLaws.{replaced_at}

-- the walk after a fill: the part before as it was, the value, the part behind moved
pub walk_fill : (x y z w : List ℕ) → left_over 0 x ≡ 0 → AllOrdinary w
    → walk 0 0 (replaced (length x) (length x + length y) w (x ++ (y ++ z)))
    ≡ walk 0 0 x ++ (walk (length x) 0 w ++ map (shift (length w) (length y)) (walk (length x + length y) 0 z))
walk_fill x y z w h o =
    let q : length x + length y + length w - length y ≡ length x + length w = omega arith in
    rw (
      replaced_at x y z w (length x) (length x + length y) refl refl,
      walk_parts x w z h o,
      walk_shift (length x + length y) (length w) (length y) 0 z (omega arith),
      q,
    )

-- ---- the units of a body with a part replaced

units-take : (a : ℕ) (b : List ℕ) → units (take (2 * a) b) ≡ take a (units b)
unfolding units
units-take zero b = refl
units-take (suc a) [] = rw (take-nil {A = ℕ} (2 * suc a))
units-take (suc a) (x ∷ []) = let q : 2 * suc a ≡ suc (suc (2 * a)) = omega arith in rw q
units-take (suc a) (x ∷ y ∷ b) =
    let q : 2 * suc a ≡ suc (suc (2 * a)) = omega arith in rw q (ap (λ (t : List ℕ). (x + 256 * y) ∷ t) (units-take a b))

units-drop : (a : ℕ) (b : List ℕ) → units (drop (2 * a) b) ≡ drop a (units b)
unfolding units
units-drop zero b = refl
units-drop (suc a) [] = rw (drop-nil {A = ℕ} (2 * suc a))
units-drop (suc a) (x ∷ []) = let q : 2 * suc a ≡ suc (suc (2 * a)) = omega arith in rw q
units-drop (suc a) (x ∷ y ∷ b) = let q : 2 * suc a ≡ suc (suc (2 * a)) = omega arith in rw q (units-drop a b)

pub units-append : (k : ℕ) (x y : List ℕ) → length x ≡ 2 * k → units (x ++ y) ≡ units x ++ units y
unfolding units
units-append k [] y h = refl
units-append zero (a ∷ x) y h = absurd (omega arith)
units-append (suc k) (a ∷ []) y h = absurd (omega arith)
units-append (suc k) (a ∷ b ∷ x) y h = ap (λ (t : List ℕ). (a + 256 * b) ∷ t) (units-append k x y (omega arith))

pub units-replaced : (a b v : ℕ) (w l : List ℕ) → 2 * a ≤ length l → length w ≡ 2 * v
    → units (replaced (2 * a) (2 * b) w l) ≡ replaced a b (units w) (units l)
unfolding replaced
units-replaced a b v w l h e =
    rw (units-append a (take (2 * a) l) (w ++ drop (2 * b) l) (length-take-le (2 * a) l h), units-take a l, units-append v w (drop (2 * b) l) e, units-drop b l)
