-- The fields of a paragraph: its code 3 controls (document 01, 'Filling a field').
use Rattle.std.specs.Prelude.{ℕ, ◌+◌, ◌*◌, Bool, false, cond, List, [], ◌∷◌, eqb, get_or, drop, None, Option, Some}
use Rattle.numbers.specs.Little.{little}
use Rattle.records.specs.Kinds as kind
use Rattle.text.specs.Units.{units}
use Rattle.text.specs.Walk.{Token, tokens, is_extended}
use Rattle.text.specs.declared.Standing.TheVariants.{Ordinary, Control}
use Rattle.paragraph.specs.View.{View, child, controls}
use Rattle.paragraph.specs.Rules.{bytes_in}

-- a field: how many extended controls stand before it, the position a behind its control, the position b of the next unit below 32
-- (0 if there is none), and whether that is code 4
pub record Field : Type 0 where
  pub ordinal : ℕ
  pub a : ℕ
  pub b : ℕ
  pub plain : Bool

-- the next unit below 32: its position, and its code
unfoldable pub next : List Token → Option (ℕ × ℕ)
next [] = None
next (t ∷ ts) = elim t.what [ Ordinary u ↦ next ts | Control c ↦ Some (t.at, c.code) ]

-- the field whose control stands at position p, with n extended controls before it
unfoldable pub field_at : ℕ → ℕ → Option (ℕ × ℕ) → Field
field_at n p None = record { ordinal = n; a = p + 8; b = 0; plain = false }
field_at n p (Some x) = record { ordinal = n; a = p + 8; b = x.0; plain = eqb x.1 4 }

-- the fields among tokens, before which n extended controls stand
unfoldable pub fields_in : ℕ → List Token → List Field
fields_in n [] = []
fields_in n (t ∷ ts) =
    elim t.what [
      | Ordinary u ↦ fields_in n ts
      | Control c ↦
          cond (eqb c.code 3) (field_at n t.at (next ts) ∷ fields_in (is_extended (Control c) + n) ts)
          (fields_in (is_extended (Control c) + n) ts)
    ]

-- the fields of a paragraph; one without a text record has none
unfoldable pub fields : View → List Field
fields v = fields_in 0 (tokens (units (bytes_in (child kind.text v.own))))

-- the id in a field's control header (table 141): behind the command, whose length stands at 9
unfoldable pub id_in : List ℕ → ℕ
id_in body = little 4 (drop (11 + 2 * little 2 (drop 9 body)) body)

-- the id of a field: the nth extended control owns the nth control header
unfoldable pub id_of : View → Field → ℕ
id_of v f = id_in (get_or (controls v.own) f.ordinal [])

-- those of the fields that have the id
unfoldable pub with_id : ℕ → View → List Field → List Field
with_id id v [] = []
with_id id v (f ∷ fs) = cond (eqb (id_of v f) id) (f ∷ with_id id v fs) (with_id id v fs)
