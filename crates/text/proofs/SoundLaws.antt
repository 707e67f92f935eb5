-- A text has no fault exactly when it is sound. Assumes nothing.
use Rattle.std.specs.Prelude.{None}
use Prim.Native.Nat.{ℕ, zero, suc, ◌+◌, ◌-◌, ◌<◌}
use native.Mathlib.Omega.{arith}
use mathlib.Core.Path.{◌≡◌, refl, sym, ap, ◌∙◌}
use mathlib.Core.Logic.{◌⊎◌, inl, inr, ◌↔◌}
use mathlib.Core.List.{List, [], ◌∷◌, ◌++◌}
use lib.ListN.{length, get_or, take, drop, length-drop}
use lib.Seq.{split_at, length-take-le, drop_at, drop-drop, get_or_at}
use Rattle.text.specs.Asked.{among, class_of, what, width, SoundText, ending, single, eight}
use Rattle.text.specs.Walk.{Front, stands, broken, over, front_of, front, fault, fault_or, text_fault}
use Rattle.text.proofs.TableLaws.{width_or}
use Rattle.text.proofs.WalkLaws.{Stands, stands_front, front_stands, front_left, width_pos}

pub sound_some : {us : List ℕ} → SoundText us → 0 < length us
sound_some ending = omega arith
sound_some (single w z t s) = omega arith
sound_some (eight six w l s) = omega arith

-- ---- a sound text by its first unit

-- a whole token that is no 13, and a sound text behind it
pub record Begins (u : ℕ) (us : List ℕ) : Type 0 where
  pub not_0 : u ≡ 0 → ⊥
  pub not_13 : u ≡ 13 → ⊥
  pub closed : get_or (u ∷ us) (width (what u) - 1) 0 ≡ u
  pub rest : SoundText (drop (width (what u)) (u ∷ us))

-- units 0 and 13 take one position
eight_not_0 : (u : ℕ) → width (what u) ≡ 8 → u ≡ 0 → ⊥
unfolding what class_of among
eight_not_0 u w e = let x : width (what 0) ≡ 8 = rw e at w in omega arith

eight_not_13 : (u : ℕ) → width (what u) ≡ 8 → u ≡ 13 → ⊥
unfolding what class_of among
eight_not_13 u w e = let x : width (what 13) ≡ 8 = rw e at w in omega arith

past : (six : List ℕ) (v : ℕ) (vs : List ℕ) → length six ≡ 6 → drop 7 (six ++ (v ∷ vs)) ≡ vs
past six v vs k = sym (drop-drop 1 6 (six ++ (v ∷ vs))) ∙ ap (drop 1) (drop_at six (v ∷ vs) 6 k)

pub unrolled : (u : ℕ) (us : List ℕ) → SoundText (u ∷ us) → ((u ≡ 13) × (us ≡ [])) ⊎ Begins u us
unrolled u us s = go (u ∷ us) s u us refl
  where
    go : (l : List ℕ) → SoundText l → (u : ℕ) (us : List ℕ) → l ≡ u ∷ us → ((u ≡ 13) × (us ≡ [])) ⊎ Begins u us
    go l ending u us e = inl (cc, cc)
    go l (single {u = v} {us = vs} w z t s) u us e =
        let x : v ≡ u = cc in
        let y : vs ≡ us = cc in
        rw (← x, ← y) (inr (record { not_0 = z; not_13 = t; closed = rw w; rest = rw w s }))
    go l (eight {u = v} {us = vs} six w k s) u us e =
        let x : v ≡ u = cc in
        let y : six ++ (v ∷ vs) ≡ us = cc in
        rw (← x, ← y)
        (inr (record {
          not_0 = eight_not_0 v w;
          not_13 = eight_not_13 v w;
          closed = rw w (get_or_at six v vs 0 6 k);
          rest = rw (w, past six v vs k) s;
        }))

pub rolled : (u : ℕ) (us : List ℕ) → Begins u us → SoundText (u ∷ us)
rolled u us b = elim (width_or (what u)) [
  | inl w ↦ single w b.not_0 b.not_13 (rw w at b.rest)
  | inr w ↦
      (let r : SoundText (drop 7 us) = rw w at b.rest in
      let h : 6 < length us = omega (arith, sound_some r, length-drop 7 us) in
      let c : get_or us 6 0 ≡ u = rw w at b.closed in
      rw (split_at us 6 0 h, c) (eight (take 6 us) w (length-take-le 6 us (omega arith)) r))
]

-- ---- no fault

pub drop-behind : (n u : ℕ) (us : List ℕ) → 0 < n → drop n (u ∷ us) ≡ drop (n - 1) us
drop-behind zero u us h = absurd (omega arith)
drop-behind (suc n) u us h = let e : suc n - 1 ≡ n = omega arith in rw e

begins_stands : (u : ℕ) (us : List ℕ) → Begins u us → Stands u us
begins_stands u us b =
    let l : width (what u) < suc (length us) = omega (arith, simp length-drop at (sound_some b.rest)) in
    record { known = b.not_0; whole = omega arith; closed = b.closed; ends = inr (b.not_13, l) }

last_fault : (p u : ℕ) (us : List ℕ) → u ≡ 13 → us ≡ [] → fault p 0 (u ∷ us) ≡ None
unfolding fault front front_of what class_of among
last_fault p u us e z = rw (e, z)

sound_fault : (p k : ℕ) (us : List ℕ) → SoundText (drop k us) → fault p k us ≡ None
unfolding fault front
sound_fault p k [] s = refl
sound_fault p zero (u ∷ us) s = go (unrolled u us s) (sound_fault (p + 1) (width (what u) - 1) us)
  where
    go : ((u ≡ 13) × (us ≡ [])) ⊎ Begins u us
        → (SoundText (drop (width (what u) - 1) us) → fault (p + 1) (width (what u) - 1) us ≡ None) → fault p 0 (u ∷ us) ≡ None
    go (inl e) on = last_fault p u us e.0 e.1
    go (inr b) on =
        rw (stands_front u us (begins_stands u us b)) (on (rw (drop-behind (width (what u)) u us (width_pos (what u))) at b.rest))
sound_fault p (suc k) (u ∷ us) s = sound_fault (p + 1) k us s

last_sound : (u : ℕ) (us : List ℕ) → u ≡ 13 → suc (length us) ≡ width (what u) → SoundText (u ∷ us)
unfolding what class_of among
last_sound u [] e h = rw e ending
last_sound u (v ∷ us) e h = let x : suc (suc (length us)) ≡ width (what 13) = rw e at h in absurd (omega arith)

stands_sound : (u : ℕ) (us : List ℕ) → Stands u us → (width (what u) - 1 < length us → SoundText (drop (width (what u) - 1) us)) → SoundText (u ∷ us)
stands_sound u us s on = go s.ends
  where
    go : ((u ≡ 13) × (suc (length us) ≡ width (what u))) ⊎ ((u ≡ 13 → ⊥) × (width (what u) < suc (length us))) → SoundText (u ∷ us)
    go (inl e) = last_sound u us e.0 e.1
    go (inr e) =
        rolled u us (record {
          not_0 = s.known;
          not_13 = e.0;
          closed = s.closed;
          rest = rw (drop-behind (width (what u)) u us (width_pos (what u))) (on (omega (arith, width_pos (what u), e.1)));
        })

fault_sound : (p k : ℕ) (us : List ℕ) → fault p k us ≡ None → k < length us → SoundText (drop k us)
unfolding fault front
fault_sound p k [] e h = absurd (omega arith)
fault_sound p zero (u ∷ us) e h = go (front (u ∷ us)) refl e (fault_sound (p + 1) (width (what u) - 1) us)
  where
    go : (f : Front) → front (u ∷ us) ≡ f → fault_or p f (fault (p + 1) (width (what u) - 1) us) ≡ None
        → (fault (p + 1) (width (what u) - 1) us ≡ None → width (what u) - 1 < length us → SoundText (drop (width (what u) - 1) us)) → SoundText (u ∷ us)
    go (stands s) q e on = stands_sound u us (front_stands u us s q).0 (on e)
    go (broken d) q e on = absurd (let z : ◌≡◌ {A = ℕ} 0 1 = cc in omega arith)
    go over q e on = absurd (front_left u us q)
fault_sound p (suc k) (u ∷ us) e h = fault_sound (p + 1) k us e (omega arith)

-- the theorem
pub sound_exactly : (us : List ℕ) → (text_fault us ≡ None) ↔ SoundText us
unfolding text_fault
sound_exactly [] = (λ e. absurd (let z : ◌≡◌ {A = ℕ} 0 1 = cc in omega arith), λ s. absurd (omega (arith, sound_some s)))
sound_exactly (u ∷ us) = (λ e. fault_sound 0 0 (u ∷ us) e (omega arith), sound_fault 0 0 (u ∷ us))
