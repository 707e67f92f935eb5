-- The walk's clauses: what stands at a position, and the walk behind it. Assumes nothing.
use Rattle.std.specs.Prelude.{None, Option, Some}
use Prim.Native.Nat.{ℕ, zero, suc, ◌+◌, ◌-◌, ◌≤◌, ◌<◌}
use native.Mathlib.Omega.{arith}
use mathlib.Core.Path.{◌≡◌, refl, sym, ap, ◌∙◌}
use mathlib.Core.Logic.{◌⊎◌, inl, inr}
use mathlib.Core.Bool.{Bool, true, false, cond, ◌&&◌, not}
use mathlib.Core.List.{List, [], ◌∷◌}
use lib.Dec.{ltb, eqb}
use lib.ListN.{length, get_or, drop, length-drop, drop_of_length-le}
use lib.Seq.{drop-cons, drop-drop, drop-nil, get_or-drop}
use borrow.Author.Tests.{le-ltb, eq-eqb, ne_eqb, ltb-false, eqb-true, eqb-false, not-false}
use Rattle.text.specs.Asked.{what, width}
use Rattle.text.specs.Walk.{Front, stands, broken, over, Sight, takes, front_of, sight, front, Token, walk, tokens_at, fault_or, fault, fault_at, text_fault}
use Rattle.text.specs.Answers.{position, step_of, step_at}
use Rattle.text.specs.declared.Standing.{Standing}
use Rattle.text.specs.declared.Position.{Position}
use Rattle.text.specs.declared.Cursor.{Cursor}
use Rattle.text.specs.declared.Step.TheVariants as step
use Rattle.text.proofs.Cases.{lt_or, eq_or}
use Rattle.text.proofs.TableLaws.{width_or}

-- ---- what stands at the front

-- what a step at position p has before it
abbrev pub sight_at : List ℕ → ℕ → Sight
sight_at us p = record { unit = get_or us p 0; left = length us - p; last = get_or us (p + (width (what (get_or us p 0)) - 1)) 0 }

pub front_at : (us : List ℕ) (p : ℕ) → p < length us → front (drop p us) ≡ front_of (sight_at us p)
unfolding front
front_at us p h =
    go (drop p us) (drop-cons us p 0 h) (simp length-drop (omega arith)) (λ i. get_or-drop p us i 0)
  where
    go : (l : List ℕ) → l ≡ get_or us p 0 ∷ drop (suc p) us → suc (length (drop (suc p) us)) ≡ length us - p
        → ((i : ℕ) → get_or l i 0 ≡ get_or us (p + i) 0) → front l ≡ front_of (sight_at us p)
    go l e n at = rw e (rw (n, ← at, ← e))

-- a token stands: its unit is not 0, it is whole and ends with its own code, and it is a 13 exactly at the end
pub record Stood (k : Sight) : Type 0 where
  pub known : k.unit ≡ 0 → ⊥
  pub whole : takes k ≤ k.left
  pub closed : k.last ≡ k.unit
  pub ends : ((k.unit ≡ 13) × (k.left ≡ takes k)) ⊎ ((k.unit ≡ 13 → ⊥) × (takes k < k.left))

-- the end of a text, as `front_of` judges it last
abbrev pub end_of : Sight → Front
end_of k =
    cond (eqb k.left (takes k) && not (eqb k.unit 13)) (broken (takes k))
    (cond (eqb k.unit 13 && not (eqb k.left (takes k))) (broken 0) (stands (what k.unit)))

pub stood_front : (k : Sight) → Stood k → front_of k ≡ stands (what k.unit)
unfolding front_of
stood_front k h =
    rw (ne_eqb k.unit 0 h.known, le-ltb k.left (takes k) h.whole, eq-eqb k.last k.unit h.closed) (go h.ends)
  where
    go : ((k.unit ≡ 13) × (k.left ≡ takes k)) ⊎ ((k.unit ≡ 13 → ⊥) × (takes k < k.left)) → end_of k ≡ stands (what k.unit)
    go (inl e) = rw (eq-eqb k.left (takes k) e.1, eq-eqb k.unit 13 e.0)
    go (inr e) = rw (ne_eqb k.left (takes k) (λ q. omega (arith, q, e.1)), ne_eqb k.unit 13 e.0)

passes : (t : Bool) (d : ℕ) (rest : Front) (s : Standing) → cond t (broken d) rest ≡ stands s → (t ≡ false) × (rest ≡ stands s)
passes true d rest s e = absurd (let z : ◌≡◌ {A = ℕ} 0 1 = cc in omega arith)
passes false d rest s e = (refl, e)

front_stood : (k : Sight) (s : Standing) → front_of k ≡ stands s → Stood k × (s ≡ what k.unit)
unfolding front_of
front_stood k s e =
    let a = passes (eqb k.unit 0) 0 _ s e in
    let b = passes (ltb k.left (takes k)) 0 _ s a.1 in
    let c = passes (not (eqb k.last k.unit)) (takes k - 1) _ s b.1 in
    let whole = ltb-false k.left (takes k) b.0 in
    let f = end whole c.1 in (
      record {
        known = eqb-false k.unit 0 a.0;
        whole = whole;
        closed = eqb-true k.last k.unit (not-false (eqb k.last k.unit) c.0);
        ends = f.0;
      },
      f.1,
    )
  where
    end : takes k ≤ k.left → end_of k ≡ stands s
        → (((k.unit ≡ 13) × (k.left ≡ takes k)) ⊎ ((k.unit ≡ 13 → ⊥) × (takes k < k.left))) × (s ≡ what k.unit)
    end w g = elim (eq_or k.left (takes k)) [
      | inl l ↦ elim (eq_or k.unit 13) [
        | inl x ↦ (let q : stands (what k.unit) ≡ stands s = rw (eq-eqb k.left (takes k) l, eq-eqb k.unit 13 x) at g in (inl (x, l), cc))
        | inr x ↦
            (let q : broken (takes k) ≡ stands s = rw (eq-eqb k.left (takes k) l, ne_eqb k.unit 13 x) at g in
            absurd (let z : ◌≡◌ {A = ℕ} 0 1 = cc in omega arith))
      ]
      | inr l ↦ elim (eq_or k.unit 13) [
        | inl x ↦
            (let q : broken 0 ≡ stands s = rw (ne_eqb k.left (takes k) l, eq-eqb k.unit 13 x) at g in
            absurd (let z : ◌≡◌ {A = ℕ} 0 1 = cc in omega arith))
        | inr x ↦
            (let q : stands (what k.unit) ≡ stands s = rw (ne_eqb k.left (takes k) l, ne_eqb k.unit 13 x) at g in
            (inr (x, omega arith), cc))
      ]
    ]

either {ℓ κ} : {A : Type ℓ} (P : A → Type κ) (t : Bool) {x y : A} → P x → P y → P (cond t x y)
either P true a b = a
either P false a b = b

abbrev Left : Front → Type 0
Left f = f ≡ over → ⊥

broken_left : (d : ℕ) → Left (broken d)
broken_left d e = let z : ◌≡◌ {A = ℕ} 0 1 = cc in omega arith

stands_left : (s : Standing) → Left (stands s)
stands_left s e = let z : ◌≡◌ {A = ℕ} 0 1 = cc in omega arith

some_left : (k : Sight) → Left (front_of k)
unfolding front_of
some_left k =
    either Left (eqb k.unit 0) (broken_left 0)
    (either Left (ltb k.left (takes k)) (broken_left 0)
    (either Left (not (eqb k.last k.unit)) (broken_left (takes k - 1))
    (either Left (eqb k.left (takes k) && not (eqb k.unit 13)) (broken_left (takes k))
    (either Left (eqb k.unit 13 && not (eqb k.left (takes k))) (broken_left 0) (stands_left (what k.unit))))))

-- the same of a unit with the units behind it

abbrev pub Stands : ℕ → List ℕ → Type 0
Stands u us = Stood (sight u us)

pub stands_front : (u : ℕ) (us : List ℕ) → Stands u us → front (u ∷ us) ≡ stands (what u)
unfolding front
stands_front u us = stood_front (sight u us)

pub front_stands : (u : ℕ) (us : List ℕ) (s : Standing) → front (u ∷ us) ≡ stands s → Stands u us × (s ≡ what u)
unfolding front
front_stands u us = front_stood (sight u us)

-- where a unit is left, the text is not over
pub front_left : (u : ℕ) (us : List ℕ) → front (u ∷ us) ≡ over → ⊥
unfolding front
front_left u us = some_left (sight u us)

-- ---- the walk behind a token

pub walk_skip : (p k : ℕ) (us : List ℕ) → walk p k us ≡ walk (p + k) 0 (drop k us)
unfolding walk
walk_skip p k [] = rw (drop-nil {A = ℕ} k)
walk_skip p zero (u ∷ us) = let e : p + 0 ≡ p = omega arith in rw e
walk_skip p (suc k) (u ∷ us) = let e : p + suc k ≡ p + 1 + k = omega arith in rw e (walk_skip (p + 1) k us)

pub fault_skip : (p k : ℕ) (us : List ℕ) → fault p k us ≡ fault (p + k) 0 (drop k us)
unfolding fault
fault_skip p k [] = rw (drop-nil {A = ℕ} k)
fault_skip p zero (u ∷ us) = let e : p + 0 ≡ p = omega arith in rw e
fault_skip p (suc k) (u ∷ us) = let e : p + suc k ≡ p + 1 + k = omega arith in rw e (fault_skip (p + 1) k us)

-- what passes units over does so behind a token
behind {ℓ} : {A : Type ℓ} (f : ℕ → ℕ → List ℕ → A) → ((p k : ℕ) (us : List ℕ) → f p k us ≡ f (p + k) 0 (drop k us))
    → (p u n : ℕ) (us : List ℕ) → 0 < n → f (p + 1) (n - 1) us ≡ f (p + n) 0 (drop n (u ∷ us))
behind f skip p u zero us h = absurd (omega arith)
behind f skip p u (suc m) us h =
    let e : p + suc m ≡ p + 1 + m = omega arith in
    let d : suc m - 1 ≡ m = omega arith in
    rw (e, d) (skip (p + 1) m us)

pub width_pos : (s : Standing) → 0 < width s
width_pos s = elim (width_or s) [ inl e ↦ omega arith | inr e ↦ omega arith ]

-- a token stands at the front, and the walk goes on behind it
pub record Passed (p : ℕ) (us : List ℕ) (s : Standing) : Type 0 where
  pub begins : s ≡ what (get_or us 0 0)
  pub wide : 0 < width s
  pub fits : width s ≤ length us
  pub tokens : walk p 0 us ≡ record { at = p; what = s } ∷ walk (p + width s) 0 (drop (width s) us)
  pub fault : fault p 0 us ≡ fault (p + width s) 0 (drop (width s) us)

pub passed : (p : ℕ) (us : List ℕ) (s : Standing) → front us ≡ stands s → Passed p us s
unfolding front walk fault
passed p [] s e = absurd (let z : ◌≡◌ {A = ℕ} 0 1 = cc in omega arith)
passed p (u ∷ us) s e = go (front_stands u us s e)
  where
    go : Stands u us × (s ≡ what u) → Passed p (u ∷ us) s
    go t =
        rw t.1
        (record {
          begins = refl;
          wide = width_pos (what u);
          fits = t.0.whole;
          tokens = ap (λ (r : List Token). record { at = p; what = what u } ∷ r) (behind walk walk_skip p u (width (what u)) us (width_pos (what u)));
          fault = rw (stands_front u us t.0) (behind fault fault_skip p u (width (what u)) us (width_pos (what u)));
        })

-- ---- by the steps of the code

-- the walk stands at p before s and goes on at q
pub record Onward (us : List ℕ) (p : ℕ) (s : Standing) (q : ℕ) : Type 0 where
  pub begins : s ≡ what (get_or us p 0)
  pub further : q ≡ p + width s
  pub rises : p < q
  pub fits : q ≤ length us
  pub tokens : tokens_at us p ≡ record { at = p; what = s } ∷ tokens_at us q
  pub fault : fault_at us p ≡ fault_at us q

onward : (us : List ℕ) (p : ℕ) (s : Standing) → front (drop p us) ≡ stands s → Onward us p s (p + width s)
onward us p s e =
    let t = passed p (drop p us) s e in
    let d : drop (width s) (drop p us) ≡ drop (p + width s) us = drop-drop (width s) p us in
    let z : p + 0 ≡ p = omega arith in
    record {
      begins = t.begins ∙ rw (get_or-drop p us 0 0, z);
      further = refl;
      rises = omega (arith, t.wide);
      fits = omega (arith, t.wide, simp length-drop at t.fits);
      tokens = rw d at t.tokens;
      fault = rw d at t.fault;
    }

pub step_stands : (us : List ℕ) (p : ℕ) (a : Position) (s : Standing) (c : Cursor) → step_at us p ≡ step.Stands a s c
    → (a ≡ position p) × Onward us p s c.at.0
unfolding step_at
step_stands us p a s c e = go (front (drop p us)) refl e
  where
    go : (f : Front) → front (drop p us) ≡ f → step_of p f ≡ step.Stands a s c → (a ≡ position p) × Onward us p s c.at.0
    go (stands t) h q =
        let x : t ≡ s = cc in
        let y : c ≡ record { at = position (p + width t) } = cc in
        (cc, rw (y, ← x) (onward us p t h))
    go (broken d) h q = absurd (let z : ◌≡◌ {A = ℕ} 0 1 = cc in omega arith)
    go over h q = absurd (let z : ◌≡◌ {A = ℕ} 0 1 = cc in omega arith)

pub fault-front : (p d : ℕ) (us : List ℕ) → front us ≡ broken d → fault p 0 us ≡ Some (p + d)
unfolding front fault
fault-front p d [] e = absurd (let z : ◌≡◌ {A = ℕ} 0 1 = cc in omega arith)
fault-front p d (u ∷ us) e = rw e

pub step_broken : (us : List ℕ) (p : ℕ) (q : Position) → step_at us p ≡ step.Broken q → fault_at us p ≡ Some q.0
unfolding step_at
step_broken us p q e = go (front (drop p us)) refl e
  where
    go : (f : Front) → front (drop p us) ≡ f → step_of p f ≡ step.Broken q → fault_at us p ≡ Some q.0
    go (stands t) h r = absurd (let z : ◌≡◌ {A = ℕ} 0 1 = cc in omega arith)
    go (broken d) h r = let x : q ≡ position (p + d) = cc in rw x (fault-front p d (drop p us) h)
    go over h r = absurd (let z : ◌≡◌ {A = ℕ} 0 1 = cc in omega arith)

-- ---- a fault is at a unit of the text, or at its end

-- a position, if there is one, at n or before it
abbrev pub Upto : ℕ → Option ℕ → Type 0
Upto n None = Unit {0}
Upto n (Some p) = p ≤ n

abbrev Within : ℕ → Front → Type 0
Within n (stands s) = Unit {0}
Within n (broken d) = d ≤ n
Within n over = Unit {0}

front-within : (k : Sight) → Within k.left (front_of k)
unfolding front_of
front-within k =
    either (Within k.left) (eqb k.unit 0) (omega arith)
    (by (ltb k.left (takes k)) refl)
  where
    by : (b : Bool) → ltb k.left (takes k) ≡ b → Within k.left (cond b (broken 0) (cond (not (eqb k.last k.unit)) (broken (takes k - 1)) (end_of k)))
    by true e = omega arith
    by false e =
        let h : takes k ≤ k.left = ltb-false k.left (takes k) e in
        either (Within k.left) (not (eqb k.last k.unit)) (omega arith)
        (either (Within k.left) (eqb k.left (takes k) && not (eqb k.unit 13)) (omega arith)
        (either (Within k.left) (eqb k.unit 13 && not (eqb k.left (takes k))) (omega arith) tt))

fault-within : (p k : ℕ) (us : List ℕ) → Upto (p + length us) (fault p k us)
unfolding fault front
fault-within p k [] = tt
fault-within p zero (u ∷ us) = go (front (u ∷ us)) (front-within (sight u us)) (fault (p + 1) (width (what u) - 1) us) (fault-within (p + 1) (width (what u) - 1) us)
  where
    go : (f : Front) → Within (suc (length us)) f → (o : Option ℕ) → Upto (p + 1 + length us) o → Upto (p + suc (length us)) (fault_or p f o)
    go (stands s) w None h = tt
    go (stands s) w (Some q) h = omega arith
    go (broken d) w o h = omega arith
    go over w o h = tt
fault-within p (suc k) (u ∷ us) = on (fault (p + 1) k us) (fault-within (p + 1) k us)
  where
    on : (o : Option ℕ) → Upto (p + 1 + length us) o → Upto (p + suc (length us)) o
    on None h = tt
    on (Some q) h = omega arith

pub text-within : (us : List ℕ) → Upto (length us) (text_fault us)
unfolding text_fault
text-within [] = omega arith
text-within (u ∷ us) = let e : 0 + suc (length us) ≡ suc (length us) = omega arith in rw e at (fault-within 0 0 (u ∷ us))

over_of : (p : ℕ) (f : Front) → step_of p f ≡ step.End → f ≡ over
over_of p (stands s) e = absurd (let z : ◌≡◌ {A = ℕ} 0 1 = cc in omega arith)
over_of p (broken d) e = absurd (let z : ◌≡◌ {A = ℕ} 0 1 = cc in omega arith)
over_of p over e = refl

-- where no step is left, no unit is
pub step_past : (us : List ℕ) (p : ℕ) → step_at us p ≡ step.End → length us ≤ p
unfolding step_at front
step_past us p e = elim (lt_or p (length us)) [
  | inl h ↦ absurd (some_left (sight_at us p) (sym (front_at us p h) ∙ over_of p (front (drop p us)) e))
  | inr h ↦ h
]

-- no token is left
pub record Ended (us : List ℕ) (p : ℕ) : Type 0 where
  pub tokens : tokens_at us p ≡ []
  pub fault : fault_at us p ≡ None

pub past_ended : (us : List ℕ) (p : ℕ) → length us ≤ p → Ended us p
unfolding walk fault
past_ended us p h = let d : drop p us ≡ [] = drop_of_length-le us h in record { tokens = rw d; fault = rw d }
