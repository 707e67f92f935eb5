-- What is found first in a window of depths, and windows that are joined. Assumes nothing.
use Prim.Native.Nat.{ℕ, ◌+◌, min, ◌≤◌, ◌<◌}
use native.Mathlib.Omega.{arith}
use mathlib.Core.Path.{◌≡◌, refl, sym, ap, ◌∙◌}
use mathlib.Core.Logic.{◌⊎◌, inl, inr}
use mathlib.Core.Bool.{Bool, true, false, cond, ◌&&◌}
use mathlib.Core.List.{List, [], ◌∷◌}
use borrow.Author.Tests.{lt-ltb, le-ltb, le-leb, lt-leb}
use Rattle.records.specs.Records.{Rec, size}
use Rattle.text.proofs.Cases.{lt_or}
use Rattle.section.specs.Windows.{between, first_in}

-- a depth in a window and outside it
pub between_in : (lo hi d : ℕ) → lo ≤ d → d < hi → between lo hi d ≡ true
between_in lo hi d a b = rw (le-leb lo d a, lt-ltb d hi b)

pub between_low : (lo hi d : ℕ) → d < lo → between lo hi d ≡ false
between_low lo hi d a = rw (lt-leb lo d a)

pub between_high : (lo hi d : ℕ) → lo ≤ d → hi ≤ d → between lo hi d ≡ false
between_high lo hi d a b = rw (le-leb lo d a, le-ltb d hi b)

pub between_out : (lo hi d : ℕ) → between lo hi d ≡ false → (d < lo) ⊎ (hi ≤ d)
between_out lo hi d e = go (lt_or d lo) (lt_or d hi)
  where
    go : (d < lo) ⊎ (lo ≤ d) → (d < hi) ⊎ (hi ≤ d) → (d < lo) ⊎ (hi ≤ d)
    go (inl a) b = inl a
    go (inr a) (inr b) = inr b
    go (inr a) (inl b) = absurd (let z : ◌≡◌ {A = Bool} true false = sym (between_in lo hi d a b) ∙ e in let y : ◌≡◌ {A = ℕ} 0 1 = cc in omega arith)

module _ (depth : Rec → ℕ) (test : List Rec → Rec → List Rec → Bool) (lo hi e : ℕ) where
  pub first_next : (at : ℕ) (earlier : List Rec) (r : Rec) (rs : List Rec)
      → first_in depth test lo hi e at earlier (r ∷ rs)
      ≡ min (cond (between lo hi (depth r) && test earlier r rs) at e) (first_in depth test lo hi e (at + size r) (r ∷ earlier) rs)
  unfolding first_in
  first_next at earlier r rs = refl

  pub first_below : (at : ℕ) (earlier rs : List Rec) → first_in depth test lo hi e at earlier rs ≤ e
  unfolding first_in
  first_below at earlier [] = omega arith
  first_below at earlier (r ∷ rs) = omega (arith, first_below (at + size r) (r ∷ earlier) rs)

  pub first_miss : (at : ℕ) (earlier : List Rec) (r : Rec) (rs : List Rec) → (between lo hi (depth r) && test earlier r rs) ≡ false
      → first_in depth test lo hi e at earlier (r ∷ rs) ≡ first_in depth test lo hi e (at + size r) (r ∷ earlier) rs
  unfolding first_in
  first_miss at earlier r rs h = rw h (omega (arith, first_below (at + size r) (r ∷ earlier) rs))

  -- no place behind `at` is before it
  pub first_least : (at : ℕ) (earlier rs : List Rec) → min at e ≤ first_in depth test lo hi e at earlier rs
  unfolding first_in
  first_least at earlier [] = omega arith
  first_least at earlier (r ∷ rs) = by (between lo hi (depth r) && test earlier r rs) (first_least (at + size r) (r ∷ earlier) rs)
    where
      by : {x : ℕ} (b : Bool) → min (at + size r) e ≤ x → min at e ≤ min (cond b at e) x
      by true h = omega arith
      by false h = omega arith

  pub first_hit : (at : ℕ) (earlier : List Rec) (r : Rec) (rs : List Rec) → at ≤ e → (between lo hi (depth r) && test earlier r rs) ≡ true
      → first_in depth test lo hi e at earlier (r ∷ rs) ≡ at
  unfolding first_in
  first_hit at earlier r rs h q = rw q (omega (arith, first_least (at + size r) (r ∷ earlier) rs))

-- ---- windows side by side

-- one record: in the first, in the second, or in neither
one_join : (lo mid hi d : ℕ) (t : Bool) (at e : ℕ) {x y : ℕ} → lo ≤ mid → mid ≤ hi → x ≤ e → y ≤ e
    → min (min (cond (between lo mid d && t) at e) x) (min (cond (between mid hi d && t) at e) y) ≡ min (cond (between lo hi d && t) at e) (min x y)
one_join lo mid hi d t at e {x} {y} a b p q = go (lt_or d lo) (lt_or d mid) (lt_or d hi)
  where
    go : (d < lo) ⊎ (lo ≤ d) → (d < mid) ⊎ (mid ≤ d) → (d < hi) ⊎ (hi ≤ d)
        → min (min (cond (between lo mid d && t) at e) x) (min (cond (between mid hi d && t) at e) y) ≡ min (cond (between lo hi d && t) at e) (min x y)
    go (inl u) v w = rw (between_low lo mid d u, between_low mid hi d (omega arith), between_low lo hi d u) (omega arith)
    go (inr u) (inl v) w = rw (between_in lo mid d u v, between_low mid hi d v, between_in lo hi d u (omega arith)) (omega arith)
    go (inr u) (inr v) (inl w) = rw (between_high lo mid d u v, between_in mid hi d v w, between_in lo hi d u w) (omega arith)
    go (inr u) (inr v) (inr w) = rw (between_high lo mid d u v, between_high mid hi d v w, between_high lo hi d u w) (omega arith)

module _ (depth : Rec → ℕ) (test : List Rec → Rec → List Rec → Bool) where
  pub first_join : (lo mid hi e at : ℕ) (earlier rs : List Rec) → lo ≤ mid → mid ≤ hi
      → min (first_in depth test lo mid e at earlier rs) (first_in depth test mid hi e at earlier rs) ≡ first_in depth test lo hi e at earlier rs
  unfolding first_in
  first_join lo mid hi e at earlier [] a b = omega arith
  first_join lo mid hi e at earlier (r ∷ rs) a b =
      one_join lo mid hi (depth r) (test earlier r rs) at e a b
      (first_below depth test lo mid e (at + size r) (r ∷ earlier) rs) (first_below depth test mid hi e (at + size r) (r ∷ earlier) rs)
      ∙ ap (min (cond (between lo hi (depth r) && test earlier r rs) at e)) (first_join lo mid hi e (at + size r) (r ∷ earlier) rs a b)
