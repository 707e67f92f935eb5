-- The field search: paragraphs in stream order, and in each its text from the start (document 01, 'The field search').
use Rattle.std.specs.Prelude.{ℕ, suc, ◌+◌, true, false, cond, List, [], ◌∷◌, ◌++◌, map, eqb, None, Some}
use Rattle.records.specs.Kinds as kind
use Rattle.records.specs.Records.{Rec, size}
use Rattle.paragraph.specs.View.{view}
use Rattle.paragraph.specs.Rules.{counts_of}
use Rattle.paragraph.specs.Places.{found_in, place_found, Found}
use Rattle.records.specs.declared.fault.Fault.{Fault}
use Rattle.records.specs.declared.fault.Fault.TheVariants as F
use Rattle.filling.specs.Fields.{Field, fields, with_id}

-- the place of the first byte of a child's body
abbrev pub first_byte : Found → ℕ
first_byte (Some p) = p.body.0
first_byte None = 0

-- a field with the id: the number of its paragraph, the places of the paragraph header, of the text's first byte and of its control
-- header, and its paragraph's number of marks
pub record Hit : Type 0 where
  pub paragraph : ℕ
  pub header : ℕ
  pub text : ℕ
  pub control : ℕ
  pub marks : ℕ
  pub field : Field

-- a field of the paragraph header r, which stands at `at` before rs and is number i
unfoldable pub hit_of : ℕ → ℕ → Rec → List Rec → Field → Hit
hit_of i at r rs f =
    record {
      paragraph = i;
      header = at;
      text = first_byte (found_in (suc r.level) kind.text 0 (at + size r) rs);
      control = place_found 0 (found_in (suc r.level) kind.control_header f.ordinal (at + size r) rs);
      marks = (counts_of r.body).marks;
      field = f;
    }

-- all fields with the id, where the first of the records stands at `at` and the next paragraph is number i
unfoldable pub hits : ℕ → ℕ → ℕ → List Rec → List Hit
hits id i at [] = []
hits id i at (r ∷ rs) =
    elim (eqb r.tag kind.paragraph_header) [
      | true ↦ map (hit_of i at r rs) (with_id id (view r rs) (fields (view r rs))) ++ hits id (suc i) (at + size r) rs
      | false ↦ hits id i (at + size r) rs
    ]

-- what a search comes to: one plain field, or the refusal 21, 22 at the second control header, or 23
pub data Outcome : Type 0 where
  one : Hit → Outcome
  refused : Fault → ℕ → Outcome

unfoldable pub outcome : List Hit → Outcome
outcome [] = refused F.NoField 0
outcome (h ∷ []) = cond h.field.plain (one h) (refused F.FieldNotPlain h.control)
outcome (h ∷ k ∷ hs) = refused F.FieldTwice k.control

unfoldable pub search : ℕ → List Rec → Outcome
search id rs = outcome (hits id 0 0 rs)
