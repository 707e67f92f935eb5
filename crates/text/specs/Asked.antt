-- What document 01 asks of a text ('Text units', table 6), with no order of tests. The walk in `Walk` is believed by it: a text has no fault
-- exactly when it is sound (`sound_exactly` of `SoundLaws`).
use Rattle.std.specs.Prelude.{ℕ, ◌≡◌, Bool, false, cond, ◌||◌, List, [], ◌∷◌, ◌++◌, ltb, eqb, length}
use Rattle.text.specs.declared.Class.{Class}
use Rattle.text.specs.declared.Class.TheVariants.{Character, Inline, Extended}
use Rattle.text.specs.declared.Control as declared
use Rattle.text.specs.declared.Standing.{Standing}
use Rattle.text.specs.declared.Standing.TheVariants.{Ordinary, Control}

-- ---- table 6

-- whether a code is in a list of codes
unfoldable pub among : ℕ → List ℕ → Bool
among u [] = false
among u (c ∷ cs) = eqb u c || among u cs

-- 'Eight, inline: 4 to 9, 19, 20. Eight, extended: 1, 2, 3, 11, 12, 14 to 18, 21, 22, 23'; every other unit below 32 takes one position
unfoldable pub class_of : ℕ → Class
class_of u =
    cond (among u (1 ∷ 2 ∷ 3 ∷ 11 ∷ 12 ∷ 14 ∷ 15 ∷ 16 ∷ 17 ∷ 18 ∷ 21 ∷ 22 ∷ 23 ∷ [])) Extended
    (cond (among u (4 ∷ 5 ∷ 6 ∷ 7 ∷ 8 ∷ 9 ∷ 19 ∷ 20 ∷ [])) Inline Character)

-- 'a control with its class and code'
abbrev pub control : ℕ → declared.Control
control u = record { class = class_of u; code = u }

-- what a unit begins: 'Units from 32 up are ordinary', one below is a control
unfoldable pub what : ℕ → Standing
what u = cond (ltb u 32) (Control (control u)) (Ordinary u)

-- an inline or an extended control takes eight positions
abbrev pub class_width : Class → ℕ
class_width Character = 1
class_width Inline = 8
class_width Extended = 8

-- how many positions it takes
abbrev pub width : Standing → ℕ
width (Ordinary u) = 1
width (Control c) = class_width c.class

-- ---- a sound text: ordinary units and controls, one behind the other, then a 13

pub data SoundText : List ℕ → Type 0 where
  -- 'Unit 13 as a control stands at the end'
  ending : SoundText (13 ∷ [])
  -- what takes one position stands before a sound text: 'Unit 0 is refused', and 13 stands 'only there'
  single : {u : ℕ} {us : List ℕ} → width (what u) ≡ 1 → (u ≡ 0 → ⊥) → (u ≡ 13 → ⊥) → SoundText us → SoundText (u ∷ us)
  -- 'An eight-unit control ends with its own code; the six between may hold anything, 13 too'
  eight : {u : ℕ} {us : List ℕ} (six : List ℕ) → width (what u) ≡ 8 → length six ≡ 6 → SoundText us → SoundText (u ∷ (six ++ (u ∷ us)))

-- the beginning of a sound text: units behind which it can go on to be one
pub record Opens (us : List ℕ) : Type 0 where
  pub more : List ℕ
  pub sound : SoundText (us ++ more)
