-- The passes of rule 9 together: what they find is what `stray_from` names. Assumes nothing.
use Rattle.std.specs.Prelude.{None, Some, Option}
use Prim.Native.Nat.{ℕ, ◌+◌, min, max, ◌≤◌, ◌<◌}
use native.Mathlib.Omega.{arith}
use mathlib.Core.Path.{◌≡◌, refl, sym, ap, ap₂, ◌∙◌}
use mathlib.Core.Logic.{◌⊎◌, inl, inr}
use mathlib.Core.Bool.{Bool, true, false}
use mathlib.Core.List.{List, [], ◌∷◌}
use lib.ListN.{length}
use borrow.Author.Tests.{lt-ltb, le-ltb}
use Rattle.numbers.specs.Little.{Bytes}
use Rattle.records.specs.Records.{Rec, size, encode}
use Rattle.records.specs.Reading.{offset, read_all}
use Rattle.records.specs.declared.fault.Offset.{Offset}
use Rattle.records.proofs.ReadingLaws.{size_least, read_prefix}
use Rattle.records.proofs.ScanLaws.{length-encode}
use Rattle.text.proofs.Cases.{lt_or}
use Rattle.section.specs.Parents.{misplaced, stray_from, stray_of}
use Rattle.section.specs.Windows.{first_in, deepest_from, sooner}
use Rattle.section.specs.Sweeps.{stray_in, found_at, stray_at}
use Rattle.section.proofs.FirstLaws.{between_in, first_miss, first_hit, first_join}

-- ---- the clauses

module _ (at : ℕ) (earlier : List Rec) (r : Rec) (rs : List Rec) where
  stray_here : misplaced r earlier ≡ true → stray_from at earlier (r ∷ rs) ≡ Some at
  unfolding stray_from
  stray_here e = rw e

  stray_next : misplaced r earlier ≡ false → stray_from at earlier (r ∷ rs) ≡ stray_from (at + size r) (r ∷ earlier) rs
  unfolding stray_from
  stray_next e = rw e

-- ---- how deep the records go

pub deepest_above : (m : ℕ) (rs : List Rec) → m ≤ deepest_from m rs
unfolding deepest_from
deepest_above m [] = omega arith
deepest_above m (r ∷ rs) = omega (arith, deepest_above (max m r.level) rs)

-- ---- where no record is as deep as hi, all levels below hi are all levels

abbrev depth : Rec → ℕ
depth r = r.level

abbrev test : List Rec → Rec → List Rec → Bool
test earlier r rs = misplaced r earlier

module _ (hi e : ℕ) where
  found_by : (at : ℕ) (earlier : List Rec) (r : Rec) (rs : List Rec) (b : Bool) → misplaced r earlier ≡ b → at + size r ≤ e → r.level < hi
      → stray_of (stray_from (at + size r) (r ∷ earlier) rs) ≡ found_at e (stray_in 0 hi e (at + size r) (r ∷ earlier) rs)
      → stray_of (stray_from at earlier (r ∷ rs)) ≡ found_at e (stray_in 0 hi e at earlier (r ∷ rs))
  found_by at earlier r rs true m i w further =
      let z = first_hit depth test 0 hi e at earlier r rs (omega arith) (rw (between_in 0 hi r.level (omega arith) w) m) in
      ap stray_of (stray_here at earlier r rs m) ∙ sym (ap (found_at e) z ∙ rw (lt-ltb at e (omega (arith, size_least r))))
  found_by at earlier r rs false m i w further =
      let z = first_miss depth test 0 hi e at earlier r rs (rw (between_in 0 hi r.level (omega arith) w) m) in
      ap stray_of (stray_next at earlier r rs m) ∙ further ∙ ap (found_at e) (sym z)

  found : (m at : ℕ) (earlier rs : List Rec) → at + length (encode rs) ≤ e → deepest_from m rs < hi
      → stray_of (stray_from at earlier rs) ≡ found_at e (stray_in 0 hi e at earlier rs)
  unfolding stray_from first_in deepest_from
  found m at earlier [] i w = rw (le-ltb e e (omega arith))
  found m at earlier (r ∷ rs) i w =
      found_by at earlier r rs (misplaced r earlier) refl (omega (arith, length-encode r rs)) (omega (arith, deepest_above (max m r.level) rs))
      (found (max m r.level) (at + size r) (r ∷ earlier) rs (omega (arith, length-encode r rs)) w)

-- ---- one window behind the other

sooner_found : (e x y : ℕ) → sooner (λ (p : Offset). p.0) (found_at e x) (found_at e y) ≡ found_at e (min x y)
sooner_found e x y = go (lt_or x e) (lt_or y e) (lt_or x y)
  where
    go : (x < e) ⊎ (e ≤ x) → (y < e) ⊎ (e ≤ y) → (x < y) ⊎ (y ≤ x) → sooner (λ (p : Offset). p.0) (found_at e x) (found_at e y) ≡ found_at e (min x y)
    go (inl a) (inl b) (inl c) = let m : min x y ≡ x = omega arith in rw (m, lt-ltb x e a, lt-ltb y e b, lt-ltb x y c)
    go (inl a) (inl b) (inr c) = let m : min x y ≡ y = omega arith in rw (m, lt-ltb x e a, lt-ltb y e b, le-ltb x y c)
    go (inl a) (inr b) c = let m : min x y ≡ x = omega arith in rw (m, lt-ltb x e a, le-ltb y e b)
    go (inr a) (inl b) c = let m : min x y ≡ y = omega arith in rw (m, le-ltb x e a, lt-ltb y e b)
    go (inr a) (inr b) c = rw (le-ltb x e a, le-ltb y e b, le-ltb (min x y) e (omega arith))

module _ (s : List ℕ) where
  pub sweeps_next : (lo : ℕ) {first w next : Option Offset} → first ≡ stray_at 0 lo s → w ≡ stray_at lo (lo + 200) s
      → next ≡ sooner (λ (p : Offset). p.0) first w → next ≡ stray_at 0 (lo + 200) s
  unfolding stray_at
  sweeps_next lo e q n =
      n
      ∙ ap₂ (sooner (λ (p : Offset). p.0)) e q
      ∙ sooner_found (length s) _ _
      ∙ ap (found_at (length s)) (first_join depth test 0 lo (lo + 200) (length s) 0 [] (read_all s).recs (omega arith) (omega arith))

  pub sweeps_all : (lo deepest : ℕ) {first : Option Offset} → Bytes s → first ≡ stray_at 0 lo s → deepest ≡ deepest_from 0 (read_all s).recs → deepest < lo
      → first ≡ stray_of (stray_from 0 [] (read_all s).recs)
  unfolding read_all stray_at
  sweeps_all lo deepest bs e d h = e ∙ sym (found lo (length s) 0 0 [] (read_all s).recs (omega (arith, read_prefix 0 s bs)) (omega arith))

  module _ (place lo deepest : ℕ) (bs : Bytes s) (e : place ≡ stray_in 0 lo (length s) 0 [] (read_all s).recs) (d : deepest ≡ deepest_from 0 (read_all s).recs)
      (h : deepest < lo) where
    all : found_at (length s) place ≡ stray_of (stray_from 0 [] (read_all s).recs)
    unfolding stray_at
    all = sweeps_all lo deepest bs (ap (found_at (length s)) e) d h

    pub sweeps_found : place < length s → Some (offset place) ≡ stray_of (stray_from 0 [] (read_all s).recs)
    sweeps_found q = sym (rw (lt-ltb place (length s) q)) ∙ all

    pub sweeps_none : length s ≤ place → None ≡ stray_of (stray_from 0 [] (read_all s).recs)
    sweeps_none q = sym (rw (le-ltb place (length s) q)) ∙ all
