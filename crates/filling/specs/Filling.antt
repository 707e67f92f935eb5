-- Filling a field, and the text of a field (document 01, 'Filling a field' and 'Order').
use Rattle.std.specs.Prelude.{ℕ, ◌+◌, ◌*◌, ◌-◌, ◌/◌, ◌%◌, ◌≤◌, Bool, true, false, cond, ◌||◌, ◌≡◌, List, [], ◌∷◌, ltb, eqb, length, drop, Err, None, Ok, Option, Some, Result}
use Rattle.numbers.specs.Little.{little, bytes_of}
use Rattle.records.specs.Kinds as kind
use Rattle.records.specs.Records.{Rec, limit, encode}
use Rattle.records.specs.Answers.{refused_at, number_of, host_form, Answer}
use Rattle.records.specs.declared.fault.Fault.{Fault}
use Rattle.records.specs.declared.fault.Fault.TheVariants as F
use Rattle.text.specs.Units.{units}
use Rattle.text.specs.Walk.{AllOrdinary}
use Rattle.paragraph.specs.View.{child}
use Rattle.filling.specs.Replacing.{replaced}
use Rattle.filling.specs.Shapes.{Entry, shapes_in, packed, shapes_after}
use Rattle.filling.specs.Fields.{Field}
use Rattle.filling.specs.Editing.{Change, Edit, edit_at}
use Rattle.filling.specs.Search.{Hit, Outcome, one, refused, search}
use Rattle.records.specs.declared.fault.Refusal.{Refusal}
use Rattle.filling.specs.declared.Span.{Span}

-- what field text answers: where the value stands, or the refusal
abbrev pub TextAnswer : Type 0
TextAnswer = Result Span Refusal

abbrev pub text_refused_at : Fault → ℕ → TextAnswer
text_refused_at f p = Err (record { fault = f; place = record { 0 = p } })

-- ---- the value: bytes, two for each unit

unfoldable pub any_below : ℕ → List ℕ → Bool
any_below n [] = false
any_below n (u ∷ us) = ltb u n || any_below n us

-- 20: an odd number of bytes, over 1,024 units, or a unit below 32
unfoldable pub value_wrong : List ℕ → Bool
value_wrong value = eqb (length value % 2) 1 || (ltb 1024 (length value / 2) || any_below 32 (units value))

-- a value that is not wrong
pub record Value (value : List ℕ) : Type 0 where
  pub even : length value ≡ 2 * (length value / 2)
  pub short : length value / 2 ≤ 1024
  pub ordinary : AllOrdinary (units value)

-- v, the value's number of units
abbrev pub unit_count : List ℕ → ℕ
unit_count value = length value / 2

-- ---- the edit of the paragraph's view

-- the 32 bits that hold the count, which changes by v - (b - a); bit 31 is kept
unfoldable pub recounted : ℕ → ℕ → ℕ → ℕ → ℕ
recounted a b v w = w / 2147483648 * 2147483648 + (w % 2147483648 + v - (b - a))

-- the header's body: count at 0, number of shapes at 12, lines at 16
unfoldable pub new_head : ℕ → ℕ → ℕ → ℕ → List ℕ → List ℕ
new_head a b v shapes h =
    replaced 0 4 (bytes_of 4 (recounted a b v (little 4 h))) (replaced 12 14 (bytes_of 2 shapes) (replaced 16 18 (bytes_of 2 0) h))

-- properties with bit 15 (table 142, contents altered)
unfoldable pub with_bit15 : ℕ → ℕ
with_bit15 p = cond (eqb (p / 32768 % 2) 1) p (p + 32768)

-- the field's control header, whose properties stand at 4
unfoldable pub altered : List ℕ → List ℕ
altered body = replaced 4 8 (bytes_of 4 (with_bit15 (little 4 (drop 4 body)))) body

-- the entries of a shapes record, if there is one
unfoldable pub shapes_of : Option (List ℕ) → List Entry
shapes_of None = []
shapes_of (Some s) = shapes_in s

-- by the child's tag: text 67, shapes 68, layout 69, control header 71
unfoldable pub new_body : Field → List ℕ → Change
new_body f value c =
    cond (eqb c.tag kind.text) (Some (replaced (2 * f.a) (2 * f.b) value c.body))
    (cond (eqb c.tag kind.shapes) (Some (packed (shapes_after f.a f.b (unit_count value) (shapes_in c.body))))
    (cond (eqb c.tag kind.layout) None
    (cond (eqb c.tag kind.control_header) (Some (cond (eqb c.before f.ordinal) (altered c.body) c.body)) (Some c.body))))

-- the fill of a field as an edit of its paragraph
unfoldable pub filling : Field → List ℕ → Edit
filling f value =
    record {
      head = λ v.
          new_head f.a f.b (unit_count value) (length (shapes_after f.a f.b (unit_count value) (shapes_of (child kind.shapes v.own)))) v.head;
      child = new_body f value;
    }

-- ---- the calls, over the records of an accepted section

-- 20, then the search, then 24
unfoldable pub unmarked : Outcome → Outcome
unmarked (one h) = cond (eqb h.marks 0) (one h) (refused F.MarksInParagraph h.header)
unmarked (refused f p) = refused f p

unfoldable pub fillable : ℕ → List ℕ → List Rec → Outcome
fillable id value rs = elim (value_wrong value) [ true ↦ refused F.ValueWrong 0 | false ↦ unmarked (search id rs) ]

-- the sheet's records, and its bytes
unfoldable pub filled : Hit → List ℕ → List Rec → List Rec
filled h value rs = edit_at h.paragraph (filling h.field value) rs

unfoldable pub sheet : Hit → List ℕ → List Rec → List ℕ
sheet h value rs = encode (filled h value rs)

-- a sheet of n bytes for a buffer of `room` bytes: 25, 26, else its length
unfoldable pub fits : ℕ → ℕ → Answer
fits n room = cond (ltb limit n) (refused_at F.SheetTooLong 0) (cond (ltb room n) (refused_at F.BufferTooShort 0) (Ok n))

-- what fill answers
unfoldable pub fill_answer : ℕ → List ℕ → List Rec → ℕ → Answer
fill_answer id value rs room =
    elim (fillable id value rs) [ refused f p ↦ refused_at f p | one h ↦ fits (length (sheet h value rs)) room ]

-- the bytes that fill writes to the front of the buffer: none on a refusal
unfoldable pub fill_bytes : ℕ → List ℕ → List Rec → ℕ → List ℕ
fill_bytes id value rs room =
    elim (fillable id value rs) [
      | refused f p ↦ []
      | one h ↦ elim (fits (length (sheet h value rs)) room) [ Ok n ↦ sheet h value rs | Err r ↦ [] ]
    ]

-- ---- field text: 21 to 23, else the place and length of the bytes from a to b

-- a position of the text whose first byte stands at a place, as a place
abbrev pub place_in : ℕ → ℕ → ℕ
place_in text p = text + 2 * p

unfoldable pub text_answer : ℕ → List Rec → TextAnswer
text_answer id rs =
    elim (search id rs) [
      | refused f p ↦ text_refused_at f p
      | one h ↦ Ok (record { place = record { 0 = place_in h.text h.field.a }; len = 2 * (h.field.b - h.field.a) })
    ]

-- document 01's number, place and further number of field text's answer
abbrev pub text_number : TextAnswer → ℕ
text_number (Ok t) = 0
text_number (Err r) = number_of r.fault

abbrev pub text_place : TextAnswer → ℕ
text_place (Ok t) = t.place.0
text_place (Err r) = r.place.0

abbrev pub text_length : TextAnswer → ℕ
text_length (Ok t) = t.len
text_length (Err r) = 0

-- the sum that tells the host field text's answer
abbrev pub text_sum : TextAnswer → ℕ
text_sum a = host_form (text_number a) (text_place a) (text_length a)
