-- The walk over a text's units: what stands at each position, and the first unit that breaks what `Asked` asks (document 01, 'Text units').
use Rattle.std.specs.Prelude.{ℕ, zero, suc, ◌+◌, ◌-◌, ◌≤◌, true, false, cond, ◌&&◌, not, List, [], ◌∷◌, ltb, eqb, length, get_or, drop, None, Option, Some}
use Rattle.text.specs.Asked.{what, width}
use Rattle.text.specs.declared.Class.TheVariants.{Character, Inline, Extended}
use Rattle.text.specs.declared.Standing.{Standing}
use Rattle.text.specs.declared.Standing.TheVariants.{Ordinary, Control}

-- ---- what stands at the front of the units that are left

-- a token; or the distance to the unit that breaks a rule; or nothing, where no unit is left
pub data Front : Type 0 where
  stands : Standing → Front
  broken : ℕ → Front
  over : Front

-- what a step has before it: a unit, how many units are left from it on, and the last of those that it takes
pub record Sight : Type 0 where
  pub unit : ℕ
  pub left : ℕ
  pub last : ℕ

-- how many positions the unit takes
abbrev pub takes : Sight → ℕ
takes s = width (what s.unit)

-- the rules of `SoundText`, the first that is broken deciding; what breaks it is named by its distance from the unit
unfoldable pub front_of : Sight → Front
front_of s =
    -- 'Unit 0 is refused'
    cond (eqb s.unit 0) (broken 0)
    -- 'a control takes eight positions': they are there
    (cond (ltb s.left (takes s)) (broken 0)
    -- 'An eight-unit control ends with its own code'
    (cond (not (eqb s.last s.unit)) (broken (takes s - 1))
    -- 'Unit 13 as a control stands at the end': where something else stands last, it is lacking behind that
    (cond (eqb s.left (takes s) && not (eqb s.unit 13)) (broken (takes s))
    -- 'and only there'
    (cond (eqb s.unit 13 && not (eqb s.left (takes s))) (broken 0)
    (stands (what s.unit))))))

-- the same of a unit u and the units behind it
abbrev pub sight : ℕ → List ℕ → Sight
sight u us = record { unit = u; left = length (u ∷ us); last = get_or (u ∷ us) (width (what u) - 1) 0 }

-- what stands at the front of units
unfoldable pub front : List ℕ → Front
front [] = over
front (u ∷ us) = front_of (sight u us)

-- ---- the tokens

-- 'Each step reports where it stood and what stands there'
pub record Token : Type 0 where
  pub at : ℕ
  pub what : Standing

-- the tokens from position p on, of which the first k units belong to the token before
unfoldable pub walk : ℕ → ℕ → List ℕ → List Token
walk p k [] = []
walk p zero (u ∷ us) = record { at = p; what = what u } ∷ walk (p + 1) (width (what u) - 1) us
walk p (suc k) (u ∷ us) = walk (p + 1) k us

-- those of a whole text
unfoldable pub tokens : List ℕ → List Token
tokens us = walk 0 0 us

-- those from a position on where a token begins
abbrev pub tokens_at : List ℕ → ℕ → List Token
tokens_at us p = walk p 0 (drop p us)

-- 1 of an extended control, else 0
abbrev pub is_extended : Standing → ℕ
is_extended (Ordinary u) = 0
is_extended (Control c) = elim c.class [ Character ↦ 0 | Inline ↦ 0 | Extended ↦ 1 ]

-- how many extended controls are among tokens
unfoldable pub extended_in : List Token → ℕ
extended_in [] = 0
extended_in (t ∷ ts) = is_extended t.what + extended_in ts

-- how many a text has; each owns a control header
unfoldable pub extended_count : List ℕ → ℕ
extended_count us = extended_in (tokens us)

-- ---- the first fault

-- the fault at position p, else that of what follows
abbrev pub fault_or : ℕ → Front → Option ℕ → Option ℕ
fault_or p (stands s) rest = rest
fault_or p (broken d) rest = Some (p + d)
fault_or p over rest = None

-- the position of the first unit that breaks a rule, with p and k as in `walk`
unfoldable pub fault : ℕ → ℕ → List ℕ → Option ℕ
fault p k [] = None
fault p zero (u ∷ us) = fault_or p (front (u ∷ us)) (fault (p + 1) (width (what u) - 1) us)
fault p (suc k) (u ∷ us) = fault (p + 1) k us

-- the same from a position on where a token begins
abbrev pub fault_at : List ℕ → ℕ → Option ℕ
fault_at us p = fault p 0 (drop p us)

-- that of a whole text; where there is no unit, 13 is lacking. It is the first wrong one: what stands before it is the beginning of a sound
-- text (`right_before` in proofs/FirstLaws.antt)
unfoldable pub text_fault : List ℕ → Option ℕ
text_fault [] = Some 0
text_fault (u ∷ us) = fault 0 0 (u ∷ us)

-- ---- ordinary units

-- units from 32 up, as a value holds them
abbrev pub AllOrdinary : List ℕ → Type 0
AllOrdinary [] = Unit {0}
AllOrdinary (u ∷ us) = (32 ≤ u) × AllOrdinary us

-- how many stand before 'the next unit below 32' (document 01, 'Filling a field'); all of them where there is none
unfoldable pub run : List ℕ → ℕ
run [] = 0
run (u ∷ us) = elim (ltb u 32) [ true ↦ 0 | false ↦ suc (run us) ]
