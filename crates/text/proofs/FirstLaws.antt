-- The unit that is named is the first wrong one (document 02, A12): what stands before it is the beginning of a sound text. Assumes nothing.
use Rattle.std.specs.Prelude.{None, Option, Some}
use Prim.Native.Nat.{ℕ, zero, suc, ◌+◌, ◌-◌, ◌≤◌, ◌<◌}
use native.Mathlib.Omega.{arith}
use mathlib.Core.Path.{◌≡◌, refl, sym, ap, ◌∙◌, subst}
use mathlib.Core.Logic.{◌⊎◌, inl, inr}
use mathlib.Core.Bool.{Bool, true, false, cond, ◌&&◌, not}
use mathlib.Core.List.{List, [], ◌∷◌, ◌++◌, append_assoc}
use lib.Dec.{ltb, eqb}
use lib.ListN.{length, get_or, take, drop, length-drop, drop_of_length-le}
use lib.Seq.{take-add, take-nil, drop-cons, length-take-le}
use borrow.Author.Tests.{ltb-false, eqb-true, eqb-false, not-true}
use Rattle.text.specs.Asked.{what, width, SoundText, ending, single, eight, Opens}
use Rattle.text.specs.Walk.{Front, stands, broken, over, Sight, takes, front_of, sight, front, fault, fault_or, text_fault}
use Rattle.text.specs.declared.Standing.{Standing}
use Rattle.text.proofs.TableLaws.{width_or}
use Rattle.text.proofs.RunLaws.{both}
use Rattle.text.proofs.WalkLaws.{end_of, front_stands, front_left, width_pos, passed, fault-front}

-- ---- a fault is not before the position where the walk stands

abbrev From : ℕ → Option ℕ → Type 0
From p None = Unit {0}
From p (Some q) = p ≤ q

from_next : (p : ℕ) (o : Option ℕ) → From (p + 1) o → From p o
from_next p None h = tt
from_next p (Some q) h = omega arith

fault_from : (p k : ℕ) (us : List ℕ) → From p (fault p k us)
unfolding fault
fault_from p k [] = tt
fault_from p zero (u ∷ us) = go (front (u ∷ us)) (fault_from (p + 1) (width (what u) - 1) us)
  where
    go : (f : Front) → From (p + 1) (fault (p + 1) (width (what u) - 1) us) → From p (fault_or p f (fault (p + 1) (width (what u) - 1) us))
    go (stands s) h = from_next p (fault (p + 1) (width (what u) - 1) us) h
    go (broken d) h = omega arith
    go over h = tt
fault_from p (suc k) (u ∷ us) = from_next p (fault (p + 1) k us) (fault_from (p + 1) k us)

-- ---- a whole token before a sound text

module _ (u : ℕ) (us : List ℕ) (known : u ≡ 0 → ⊥) (other : u ≡ 13 → ⊥) where
  -- the units of a control up to its closing one
  six : (more : List ℕ) → 6 < length us → get_or us 6 0 ≡ u → take 7 us ++ more ≡ take 6 us ++ (u ∷ more)
  six more h c =
      ap (λ (l : List ℕ). l ++ more) (take-add 6 1 us ∙ ap (λ (l : List ℕ). take 6 us ++ take 1 l) (drop-cons us 6 0 h))
      ∙ append_assoc (take 6 us) (get_or us 6 0 ∷ []) more ∙ ap (λ (v : ℕ). take 6 us ++ (v ∷ more)) c

  token_opens : (more : List ℕ) → width (what u) ≤ suc (length us) → get_or (u ∷ us) (width (what u) - 1) 0 ≡ u → SoundText more
      → SoundText (take (width (what u)) (u ∷ us) ++ more)
  token_opens more whole closed s = elim (width_or (what u)) [
    | inl w ↦ rw w (single w known other s)
    | inr w ↦
        (let h : 6 < length us = omega arith in
        let c : get_or us 6 0 ≡ u = rw w at closed in
        rw (w, six more h c) (eight (take 6 us) w (length-take-le 6 us (omega arith)) s))
  ]

-- ---- the ways to break a rule at the front

data Ways (k : Sight) (d : ℕ) : Type 0 where
  here : d ≡ 0 → Ways k d
  unclosed : takes k ≤ k.left → (k.last ≡ k.unit → ⊥) → d ≡ takes k - 1 → Ways k d
  lacking : (k.unit ≡ 0 → ⊥) → (k.unit ≡ 13 → ⊥) → takes k ≤ k.left → k.last ≡ k.unit → d ≡ takes k → Ways k d

named : {c d : ℕ} → broken c ≡ broken d → d ≡ c
named e = cc

module _ (k : Sight) (d : ℕ) where
  ways_end : (k.unit ≡ 0 → ⊥) → takes k ≤ k.left → k.last ≡ k.unit → end_of k ≡ broken d → Ways k d
  ways_end z w c e = by (eqb k.left (takes k) && not (eqb k.unit 13)) refl e
    where
      last : (b : Bool) → cond b (broken 0) (stands (what k.unit)) ≡ broken d → Ways k d
      last true e = here (named e)
      last false e = absurd (let y : ◌≡◌ {A = ℕ} 0 1 = cc in omega arith)

      by : (b : Bool) → (eqb k.left (takes k) && not (eqb k.unit 13)) ≡ b
          → cond b (broken (takes k)) (cond (eqb k.unit 13 && not (eqb k.left (takes k))) (broken 0) (stands (what k.unit))) ≡ broken d → Ways k d
      by true q e = lacking z (eqb-false k.unit 13 (not-true (eqb k.unit 13) (both (eqb k.left (takes k)) (not (eqb k.unit 13)) q).1)) w c (named e)
      by false q e = last (eqb k.unit 13 && not (eqb k.left (takes k))) e

  ways : front_of k ≡ broken d → Ways k d
  unfolding front_of
  ways e = zero_unit (eqb k.unit 0) refl e
    where
      closing : (k.unit ≡ 0 → ⊥) → takes k ≤ k.left → (b : Bool) → eqb k.last k.unit ≡ b → cond (not b) (broken (takes k - 1)) (end_of k) ≡ broken d → Ways k d
      closing z w true q e = ways_end z w (eqb-true k.last k.unit q) e
      closing z w false q e = unclosed w (eqb-false k.last k.unit q) (named e)

      cut : (k.unit ≡ 0 → ⊥) → (b : Bool) → ltb k.left (takes k) ≡ b → cond b (broken 0) (cond (not (eqb k.last k.unit)) (broken (takes k - 1)) (end_of k)) ≡ broken d → Ways k d
      cut z true q e = here (named e)
      cut z false q e = closing z (ltb-false k.left (takes k) q) (eqb k.last k.unit) refl e

      zero_unit : (b : Bool) → eqb k.unit 0 ≡ b → cond b (broken 0) (cond (ltb k.left (takes k)) (broken 0) (cond (not (eqb k.last k.unit)) (broken (takes k - 1)) (end_of k))) ≡ broken d → Ways k d
      zero_unit true q e = here (named e)
      zero_unit false q e = cut (eqb-false k.unit 0 q) (ltb k.left (takes k)) refl e

-- ---- nothing is wrong before it

some_is : (p a b : ℕ) → Some (p + a) ≡ Some (p + b) → a ≡ b
some_is p a b e = let z : p + a ≡ p + b = cc in omega arith

opens_none : Opens []
opens_none = record { more = 13 ∷ []; sound = ending }

-- a control whose closing unit is wrong: seven units, and the right one could follow
opens_unclosed : (u : ℕ) (us : List ℕ) → width (what u) ≤ suc (length us) → (get_or (u ∷ us) (width (what u) - 1) 0 ≡ u → ⊥) → Opens (take (width (what u) - 1) (u ∷ us))
opens_unclosed u us whole c = elim (width_or (what u)) [
  | inl w ↦ absurd (c (rw w))
  | inr w ↦
      (let h : 6 ≤ length us = omega arith in
      rw w
      (record {
        more = u ∷ 13 ∷ [];
        sound = eight (take 6 us) w (length-take-le 6 us h) ending;
      }))
]

opens_broken : (u : ℕ) (us : List ℕ) (d : ℕ) → Ways (sight u us) d → Opens (take d (u ∷ us))
opens_broken u us d (here e) = rw e opens_none
opens_broken u us d (unclosed w c e) = rw e (opens_unclosed u us w c)
opens_broken u us d (lacking z t w c e) = rw e (record { more = 13 ∷ []; sound = token_opens u us z t (13 ∷ []) w c ending })

-- behind a token that stands, where the rest goes on
module _ (p u : ℕ) (us : List ℕ) (q : ℕ) (e : fault p 0 (u ∷ us) ≡ Some (p + q))
    (rest : (m r : ℕ) → 0 < m → fault (p + m) 0 (drop m (u ∷ us)) ≡ Some (p + m + r) → Opens (take r (drop m (u ∷ us)))) where
  abbrev w : ℕ
  w = width (what u)

  -- the fault is behind the token
  opens_behind : (u ≡ 0 → ⊥) → (u ≡ 13 → ⊥) → w ≤ suc (length us) → get_or (u ∷ us) (w - 1) 0 ≡ u
      → fault (p + w) 0 (drop w (u ∷ us)) ≡ Some (p + q) → Opens (take q (u ∷ us))
  opens_behind z t whole closed x =
      let low : p + w ≤ p + q = subst (From (p + w)) x (fault_from (p + w) 0 (drop w (u ∷ us))) in
      let at : p + q ≡ p + w + (q - w) = omega arith in
      let o = rest w (q - w) (width_pos (what u)) (x ∙ ap Some at) in
      let two : q ≡ w + (q - w) = omega arith in
      let parts : take q (u ∷ us) ≡ take w (u ∷ us) ++ take (q - w) (drop w (u ∷ us)) = ap (λ (i : ℕ). take i (u ∷ us)) two ∙ take-add w (q - w) (u ∷ us) in
      rw parts
      (record {
        more = o.more;
        sound =
            rw (append_assoc (take w (u ∷ us)) (take (q - w) (drop w (u ∷ us))) o.more)
            (token_opens u us z t (take (q - w) (drop w (u ∷ us)) ++ o.more) whole closed o.sound);
      })

  -- a 13 that stands is the last unit, and no fault is behind it
  opens_stands : (s : Standing) → front (u ∷ us) ≡ stands s → Opens (take q (u ∷ us))
  unfolding fault
  opens_stands s f =
      let k = front_stands u us s f in
      let same : width s ≡ w = ap width k.1 in
      let x : fault (p + w) 0 (drop w (u ∷ us)) ≡ Some (p + q) = rw same at (sym (passed p (u ∷ us) s f).fault ∙ e) in
      by k.0.known k.0.whole k.0.closed k.0.ends x
    where
      by : (u ≡ 0 → ⊥) → w ≤ suc (length us) → get_or (u ∷ us) (w - 1) 0 ≡ u → ((u ≡ 13) × (suc (length us) ≡ w)) ⊎ ((u ≡ 13 → ⊥) × (w < suc (length us)))
          → fault (p + w) 0 (drop w (u ∷ us)) ≡ Some (p + q) → Opens (take q (u ∷ us))
      by z whole closed (inl l) x =
          let h : length (u ∷ us) ≤ w = omega (arith, l.1) in
          let n : fault (p + w) 0 (drop w (u ∷ us)) ≡ None = ap (fault (p + w) 0) (drop_of_length-le (u ∷ us) h) in
          absurd (let y : ◌≡◌ {A = ℕ} 0 1 = cc in omega arith)
      by z whole closed (inr t) x = opens_behind z t.0 whole closed x

  opens_front : (f : Front) → front (u ∷ us) ≡ f → Opens (take q (u ∷ us))
  unfolding front
  opens_front (stands s) f = opens_stands s f
  opens_front (broken d) f =
      let same : d ≡ q = some_is p d q (sym (fault-front p d (u ∷ us) f) ∙ e) in
      opens_broken u us q (ways (sight u us) q (rw same at f))
  opens_front over f = absurd (front_left u us f)

opens_from : (p : ℕ) (us : List ℕ) (q : ℕ) → fault p 0 us ≡ Some (p + q)
    → ((m r : ℕ) → 0 < m → fault (p + m) 0 (drop m us) ≡ Some (p + m + r) → Opens (take r (drop m us))) → Opens (take q us)
unfolding fault
opens_from p [] q e rest = absurd (let z : ◌≡◌ {A = ℕ} 0 1 = cc in omega arith)
opens_from p (u ∷ us) q e rest = opens_front p u us q e rest (front (u ∷ us)) refl

no_fault : (p q : ℕ) (us : List ℕ) → length us ≤ 0 → fault p 0 us ≡ Some (p + q) → ⊥
unfolding fault
no_fault p q [] h e = let z : ◌≡◌ {A = ℕ} 0 1 = cc in omega arith
no_fault p q (u ∷ us) h e = omega arith

-- n bounds the length
first_within : (n p : ℕ) (us : List ℕ) → length us ≤ n → (q : ℕ) → fault p 0 us ≡ Some (p + q) → Opens (take q us)
first_within zero p us h q e = absurd (no_fault p q us h e)
first_within (suc n) p us h q e =
    opens_from p us q e (λ m r l x. first_within n (p + m) (drop m us) (omega (arith, length-drop m us, l, h)) r x)

-- the theorem
pub right_before : (us : List ℕ) (q : ℕ) → text_fault us ≡ Some q → Opens (take q us)
unfolding text_fault
right_before [] q e = rw (take-nil {A = ℕ} q) opens_none
right_before (u ∷ us) q e = let z : 0 + q ≡ q = omega arith in first_within (suc (length us)) 0 (u ∷ us) (omega arith) q (rw z e)
