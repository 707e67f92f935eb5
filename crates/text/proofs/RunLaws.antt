-- A run of ordinary units passed at once: the units one by one, and the fault behind it. Assumes nothing.
use Rattle.std.specs.Prelude.{Some}
use Prim.Native.Nat.{ℕ, zero, suc, ◌+◌, ◌-◌, ◌≤◌, ◌<◌}
use native.Mathlib.Omega.{arith}
use mathlib.Core.Path.{◌≡◌, refl, sym, ap, ◌∙◌}
use mathlib.Core.Logic.{inl, inr, ◌↔◌}
use mathlib.Core.Bool.{Bool, true, false, ◌&&◌}
use mathlib.Core.List.{List, [], ◌∷◌, ◌++◌}
use lib.Dec.{leb}
use lib.ListN.{length, get_or, take, drop, length-drop, length-append, drop_of_length-le, take-append-drop}
use lib.Seq.{drop-cons, drop-drop, get_or-drop, length-take-le, take_all}
use borrow.Author.Tests.{lt-ltb, le-ltb, leb-true, eq-eqb, ne_eqb}
use Rattle.text.specs.Asked.{width}
use Rattle.text.specs.Walk.{stands, broken, takes, front_of, sight, front, walk, tokens_at, AllOrdinary, fault, fault_at, run, extended_in}
use Rattle.text.specs.Mirror.{four_ordinary}
use Rattle.text.specs.declared.Standing.TheVariants.{Ordinary}
use Rattle.text.proofs.Cases.{lt_or}
use Rattle.text.proofs.UnitLaws.{length-units}
use Rattle.text.proofs.TableLaws.{what_ordinary}
use Rattle.text.proofs.WalkLaws.{stands_front, fault-front, passed}
use Rattle.text.proofs.PartLaws.{singles, walk-append, walk_ordinary, left_ordinary, extended_append, extended_singles}

-- ---- how far a run goes

run_ordinary : (u : ℕ) (l : List ℕ) → 32 ≤ u → run (u ∷ l) ≡ suc (run l)
unfolding run
run_ordinary u l o = rw (le-ltb u 32 o, run)

run-control : (u : ℕ) (l : List ℕ) → u < 32 → run (u ∷ l) ≡ 0
unfolding run
run-control u l o = rw (lt-ltb u 32 o, run)

-- r units are ordinary, and a unit below 32 or none stands behind them
record Ran (us : List ℕ) (r : ℕ) : Type 0 where
  fits : r ≤ length us
  ordinary : AllOrdinary (take r us)
  low : r < length us → get_or us r 0 < 32

ran : (us : List ℕ) → Ran us (run us)
unfolding run
ran [] = record { fits = omega arith; ordinary = tt; low = λ h. absurd (omega arith) }
ran (u ∷ us) = elim (lt_or u 32) [
  | inl h ↦ rw (run-control u us h) (record { fits = omega arith; ordinary = tt; low = λ l. h })
  | inr h ↦
      (let t = ran us in
      rw (run_ordinary u us h) (record { fits = omega (arith, t.fits); ordinary = (h, t.ordinary); low = λ l. t.low (omega arith) }))
]

-- all units are ordinary exactly when the run is as long as they are
pub run_all : (us : List ℕ) → (run us ≡ length us) ↔ AllOrdinary us
unfolding run
run_all us = (λ e. rw (take_all (run us) us (omega arith)) at (ran us).ordinary, all us)
  where
    all : (us : List ℕ) → AllOrdinary us → run us ≡ length us
    all [] o = refl
    all (u ∷ us) o = run_ordinary u us o.0 ∙ ap suc (all us o.1)

-- ---- ordinary units break no rule but that a 13 ends the text

ordinary_front : (u : ℕ) (us : List ℕ) → 32 ≤ u → 0 < length us → front (u ∷ us) ≡ stands (Ordinary u)
ordinary_front u us h l =
    let w = what_ordinary u h in
    let one : takes (sight u us) ≡ 1 = ap width w in
    stands_front u us
    (record {
      known = λ e. omega (arith, e, h);
      whole = omega (arith, one);
      closed = rw w;
      ends = inr (λ e. omega (arith, e, h), omega (arith, one));
    })
    ∙ ap stands w

fault-behind : (p : ℕ) (x y : List ℕ) → AllOrdinary x → 0 < length y → fault p 0 (x ++ y) ≡ fault (p + length x) 0 y
fault-behind p [] y o l = let e : p + 0 ≡ p = omega arith in rw e
fault-behind p (u ∷ x) y o l =
    let e : p + suc (length x) ≡ p + 1 + length x = omega arith in
    rw e ((passed p (u ∷ (x ++ y)) (Ordinary u) (ordinary_front u (x ++ y) o.0 (omega (arith, length-append x y)))).fault ∙ fault-behind (p + 1) x y o.1 l)

lone_front : (u : ℕ) → 32 ≤ u → front (u ∷ []) ≡ broken 1
unfolding front front_of
lone_front u h = rw (what_ordinary u h, ne_eqb u 0 (λ e. omega (arith, e, h)), eq-eqb u u refl, ne_eqb u 13 (λ e. omega (arith, e, h)))

fault_lacking : (p : ℕ) (x : List ℕ) → AllOrdinary x → 0 < length x → fault p 0 x ≡ Some (p + length x)
fault_lacking p [] o l = absurd (omega arith)
fault_lacking p (u ∷ []) o l = fault-front p 1 (u ∷ []) (lone_front u o.0)
fault_lacking p (u ∷ v ∷ x) o l =
    let e : p + suc (suc (length x)) ≡ p + 1 + suc (length x) = omega arith in
    rw e ((passed p (u ∷ v ∷ x) (Ordinary u) (ordinary_front u (v ∷ x) o.0 (omega arith))).fault ∙ fault_lacking (p + 1) (v ∷ x) o.1 (omega arith))

-- ---- by positions of the whole text

module _ (us : List ℕ) (p : ℕ) where
  behind : drop (run (drop p us)) (drop p us) ≡ drop (p + run (drop p us)) us
  behind = drop-drop (run (drop p us)) p us

  parts : drop p us ≡ take (run (drop p us)) (drop p us) ++ drop (p + run (drop p us)) us
  parts = sym (take-append-drop (run (drop p us)) (drop p us)) ∙ ap (λ (l : List ℕ). take (run (drop p us)) (drop p us) ++ l) behind

  passes : length (take (run (drop p us)) (drop p us)) ≡ run (drop p us)
  passes = length-take-le (run (drop p us)) (drop p us) (ran (drop p us)).fits

  pub run-within : run (drop p us) ≤ length us - p
  run-within = simp length-drop at (ran (drop p us)).fits

  pub run-tokens : tokens_at us p ≡ singles p (take (run (drop p us)) (drop p us)) ++ tokens_at us (p + run (drop p us))
  run-tokens =
      let o = (ran (drop p us)).ordinary in
      ap (walk p 0) parts ∙ walk-append p 0 (take (run (drop p us)) (drop p us)) (drop (p + run (drop p us)) us)
      ∙ rw (walk_ordinary p (take (run (drop p us)) (drop p us)) o, left_ordinary (take (run (drop p us)) (drop p us)) o, passes)

  pub run_extended : extended_in (tokens_at us p) ≡ extended_in (tokens_at us (p + run (drop p us)))
  run_extended =
      ap extended_in run-tokens
      ∙ extended_append (singles p (take (run (drop p us)) (drop p us))) (tokens_at us (p + run (drop p us)))
      ∙ rw (extended_singles p (take (run (drop p us)) (drop p us))) (omega arith)

  -- where a unit stands behind the run, it is below 32, and the first fault is not in the run
  module _ (h : p + run (drop p us) < length us) where
    pub run_low : get_or us (p + run (drop p us)) 0 < 32
    run_low = rw (get_or-drop p us (run (drop p us)) 0) at ((ran (drop p us)).low (simp length-drop (omega arith)))

    pub run-fault : fault_at us p ≡ fault_at us (p + run (drop p us))
    run-fault =
        ap (fault p 0) parts
        ∙ fault-behind p (take (run (drop p us)) (drop p us)) (drop (p + run (drop p us)) us) (ran (drop p us)).ordinary (simp length-drop (omega arith))
        ∙ rw passes

  -- a run up to the end lacks its 13
  pub run_lacking : p < length us → AllOrdinary (drop p us) → fault_at us p ≡ Some (length us)
  run_lacking h o =
      let e : p + length (drop p us) ≡ length us = simp length-drop (omega arith) in
      fault_lacking p (drop p us) o (simp length-drop (omega arith)) ∙ ap Some e

-- ---- by the steps of the code

pub run_more : (us : List ℕ) (p : ℕ) → p < length us → 32 ≤ get_or us p 0 → p + run (drop p us) ≡ p + 1 + run (drop (p + 1) us)
run_more us p h o =
    let e : p + 1 ≡ suc p = omega arith in
    rw (e, drop-cons us p 0 h, run_ordinary (get_or us p 0) (drop (suc p) us) o) (omega arith)

pub run_stop : (us : List ℕ) (p : ℕ) → get_or us p 0 < 32 → p < length us → p ≡ p + run (drop p us)
run_stop us p o h = rw (drop-cons us p 0 h, run-control (get_or us p 0) (drop (suc p) us) o) (omega arith)

pub run_over : (us : List ℕ) (p : ℕ) → length us ≤ p → p ≡ p + run (drop p us)
unfolding run
run_over us p h = rw (drop_of_length-le us h) (omega arith)

-- ---- four units at once

record Four (us : List ℕ) (p : ℕ) : Type 0 where
  fits : p + 4 ≤ length us
  first : 32 ≤ get_or us p 0
  unit : (i : ℕ) → i < 4 → 32 ≤ get_or us (p + i) 0

pub both : (a b : Bool) → (a && b) ≡ true → (a ≡ true) × (b ≡ true)
both true b e = (refl, e)
both false b e = absurd (let z : ◌≡◌ {A = ℕ} 0 1 = cc in omega arith)

four_all : (us : List ℕ) (p : ℕ) → four_ordinary us p ≡ true → Four us p
unfolding four_ordinary
four_all us p e =
    let a = both (leb (p + 4) (length us)) _ e in
    let b = both (leb 32 (get_or us p 0)) _ a.1 in
    let c = both (leb 32 (get_or us (p + 1) 0)) _ b.1 in
    let d = both (leb 32 (get_or us (p + 2) 0)) _ c.1 in
    record {
      fits = leb-true (p + 4) (length us) a.0;
      first = leb-true 32 (get_or us p 0) b.0;
      unit = each (leb-true 32 (get_or us p 0) b.0) (leb-true 32 (get_or us (p + 1) 0) c.0) (leb-true 32 (get_or us (p + 2) 0) d.0) (leb-true 32 (get_or us (p + 3) 0) d.1);
    }
  where
    each : 32 ≤ get_or us p 0 → 32 ≤ get_or us (p + 1) 0 → 32 ≤ get_or us (p + 2) 0 → 32 ≤ get_or us (p + 3) 0 → (i : ℕ) → i < 4 → 32 ≤ get_or us (p + i) 0
    each a b c d zero h = let e : p + 0 ≡ p = omega arith in rw e a
    each a b c d (suc zero) h = b
    each a b c d (suc (suc zero)) h = c
    each a b c d (suc (suc (suc zero))) h = d
    each a b c d (suc (suc (suc (suc i)))) h = absurd (omega arith)

-- they are passed
pub run_four : (us : List ℕ) (p : ℕ) → four_ordinary us p ≡ true → p + run (drop p us) ≡ p + 4 + run (drop (p + 4) us)
run_four us p e = go 4 (omega arith)
  where
    f : Four us p
    f = four_all us p e

    go : (k : ℕ) → k ≤ 4 → p + run (drop p us) ≡ p + k + run (drop (p + k) us)
    go zero h = let e : p + 0 ≡ p = omega arith in rw e
    go (suc k) h =
        let e : p + k + 1 ≡ p + suc k = omega arith in
        go k (omega arith) ∙ run_more us (p + k) (omega (arith, f.fits)) (f.unit k (omega arith)) ∙ ap (λ (i : ℕ). i + run (drop i us)) e

-- for attributes, over as many units as half the bytes
pub ruleset run_steps = (run_four, run_stop, length-units)
