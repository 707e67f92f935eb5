-- Where a paragraph's children stand, and the place of what a fault names (document 01, the table's column 'Place'; document 02, A12).
use Rattle.text.specs.Answers.{Judged, judged}
use Rattle.std.specs.Prelude.{ℕ, zero, suc, ◌+◌, ◌*◌, ◌≤◌, min, Bool, cond, List, [], ◌∷◌, eqb, length, take, drop, Err, None, Ok, Option, Result, Some}
use Rattle.records.specs.Kinds as kind
use Rattle.records.specs.Records.{Rec, size}
use Rattle.records.specs.Reading.{offset, record_at}
use Rattle.records.specs.declared.fault.Fault.TheVariants as F
use Rattle.records.specs.declared.fault.Offset.{Offset}
use Rattle.records.specs.declared.header.Record.{Record}
use Rattle.text.specs.declared.Position.{Position}
use Rattle.text.specs.Units.{units}
use Rattle.paragraph.specs.View.{side, owned_if, kids, controls}
use Rattle.paragraph.specs.declared.view.Side.{Side}
use Rattle.paragraph.specs.declared.view.Side.TheVariants as S
use Rattle.paragraph.specs.declared.finding.Which.{Which}
use Rattle.paragraph.specs.declared.finding.Which.TheVariants as W
use Rattle.paragraph.specs.Rules.{Lengths, Owner, breach}
use Rattle.paragraph.specs.declared.finding.Breach.{Breach}
use Rattle.paragraph.specs.declared.fields.Owned.{Owned}
use Rattle.paragraph.specs.declared.fields.Owned.TheVariants as K
use Rattle.paragraph.specs.declared.children.Parts.{Parts}

-- what a search finds: a record, or none
abbrev pub Found : Type 0
Found = Option Record

-- a child with another tag is passed in a search for `tag`
abbrev pub sought_by : Side → ℕ → ℕ → Side
sought_by x tag t = owned_if (eqb t tag) x

unfoldable pub sought : ℕ → ℕ → ℕ → ℕ → Side
sought n tag t level = sought_by (side n t level) tag t

-- the nth child with a tag, among children at level n; the first of the records stands at `at`
unfoldable pub found_in : ℕ → ℕ → ℕ → ℕ → List Rec → Found
found_in n tag nth at [] = None
found_in n tag nth at (r ∷ rs) =
    elim (sought n tag r.tag r.level) [
      | S.Beyond ↦ None
      | S.Passed ↦ found_in n tag nth (at + size r) rs
      | S.Owned ↦ elim nth [ zero ↦ Some (record_at at r) | suc k ↦ found_in n tag k (at + size r) rs ]
    ]

-- a search's result by the bytes: the length of the body, and the body
abbrev pub length_found : Found → Option ℕ
length_found (Some p) = Some p.len
length_found None = None

abbrev pub body_of : List ℕ → Record → List ℕ
body_of s p = take p.len (drop p.body.0 s)

abbrev pub body_found : List ℕ → Found → Option (List ℕ)
body_found s (Some p) = Some (body_of s p)
body_found s None = None

-- it is within the stream
abbrev pub Inside : List ℕ → Found → Type 0
Inside s (Some p) = p.body.0 + p.len ≤ length s
Inside s None = Unit {0}

-- the four records that a paragraph has at most one of, and how many control headers it has
unfoldable pub parts_in : ℕ → ℕ → List Rec → Parts
parts_in n at rs =
    record {
      text = found_in n kind.text 0 at rs;
      shapes = found_in n kind.shapes 0 at rs;
      layout = found_in n kind.layout 0 at rs;
      marks = found_in n kind.marks 0 at rs;
      controls = length (controls (kids n rs));
    }

-- what was found before, or this record where it is the one sought
abbrev pub taken_as : Found → Bool → Record → Found
taken_as (Some q) is p = Some q
taken_as None is p = cond is (Some p) None

abbrev pub lengths_found : Parts → Lengths
lengths_found p =
    record {
      text = length_found p.text;
      shapes = length_found p.shapes;
      layout = length_found p.layout;
      marks = length_found p.marks;
    }

-- the control header that was found for a field
abbrev pub header_found : Found → Owned
header_found (Some p) = K.Header p
header_found None = K.Lacking

-- the next control header, behind k of them, is what a control owns; only a field's is looked for
abbrev pub owned_by : ℕ → ℕ → ℕ → List Rec → Owner → Owned
owned_by n k at rs None = K.Nobody
owned_by n k at rs (Some code) = cond (eqb code 3) (header_found (found_in n kind.control_header k at rs)) K.Other

-- what the walk of a text finds: an absent text has no extended controls
abbrev pub text_judged : Found → List ℕ → Judged
text_judged (Some p) b = judged (units b)
text_judged None b = Ok 0

-- 12 names the unit at which a text breaks a rule
abbrev pub text_told : Judged → Result ℕ Breach
text_told (Ok n) = Ok n
text_told (Err p) = Err (breach F.TextRule (W.Unit p))

-- the place of what was found and that of its body, or p where nothing was
abbrev pub place_found : ℕ → Found → ℕ
place_found p (Some r) = r.at.0
place_found p None = p

abbrev pub body_place : ℕ → Found → ℕ
body_place p (Some r) = r.body.0
body_place p None = p

-- the nth child with a tag of the paragraph whose header is the first of the records and stands at `at`
unfoldable pub child_in : ℕ → List Rec → ℕ → ℕ → Found
child_in at [] tag nth = None
child_in at (r ∷ rs) tag nth = found_in (suc r.level) tag nth (at + size r) rs

-- the place of a position of the text whose first byte stands at `text`: a unit is two bytes; a number has 64 bits
abbrev pub unit_place : Offset → Position → Offset
unit_place text p = offset (min 18446744073709551615 (text.0 + 2 * p.0))

-- the place of the entry that begins at an offset of the body whose first byte stands at `body`; a number has 64 bits
abbrev pub entry_place : Offset → Offset → Offset
entry_place body from = offset (min 18446744073709551615 (body.0 + from.0))

-- the place of what a fault names in the paragraph whose header is the first of the records and stands at `at`
abbrev pub place_of : ℕ → List Rec → Which → ℕ
place_of at rs W.Header = at
place_of at rs (W.Child tag nth) = place_found at (child_in at rs tag nth)
place_of at rs (W.Unit p) = (unit_place (offset (body_place at (child_in at rs kind.text 0))) p).0
place_of at rs (W.Entry tag from) = (entry_place (offset (body_place at (child_in at rs tag 0))) from).0
