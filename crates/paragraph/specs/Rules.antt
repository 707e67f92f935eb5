-- The rules of one paragraph over its view, in document 01's order 8, 10, 11, 12, 13, 14, 15 ('Paragraphs' and 'Order'), each fault with what it
-- names of the paragraph (document 01, the column 'Place'; document 02, A12).
use Rattle.std.specs.Prelude.{ℕ, ◌+◌, ◌*◌, ◌%◌, Bool, true, false, ◌&&◌, ◌||◌, not, List, [], ◌∷◌, ltb, leb, eqb, length, drop, Err, None, Ok, Option, Some, Result}
use Rattle.numbers.specs.Little.{little}
use Rattle.records.specs.Kinds as kind
use Rattle.records.specs.Records.{Rec}
use Rattle.records.specs.declared.fault.Fault.{Fault}
use Rattle.records.specs.declared.fault.Fault.TheVariants as F
use Rattle.records.specs.Reading.{offset}
use Rattle.text.specs.Units.{units}
use Rattle.text.specs.Answers.{position}
use Rattle.text.specs.Walk.{Token, tokens, text_fault, extended_count}
use Rattle.text.specs.declared.Class.TheVariants.{Character, Inline, Extended}
use Rattle.text.specs.declared.Standing.{Standing}
use Rattle.text.specs.declared.Standing.TheVariants.{Ordinary, Control}
use Rattle.paragraph.specs.View.{View, view, child, controls}
use Rattle.entries.specs.Entries.{shapes_fault, marks_fault}
use Rattle.paragraph.specs.declared.finding.Counts.{Counts}
use Rattle.paragraph.specs.declared.finding.Which.{Which}
use Rattle.paragraph.specs.declared.finding.Which.TheVariants as W
use Rattle.paragraph.specs.declared.finding.Breach.{Breach}

-- what a rule finds: nothing against it, or a breach
abbrev pub Finding : Type 0
Finding = Result Unit Breach

-- a fault, and what it names
abbrev pub breach : Fault → Which → Breach
breach f w = record { fault = f; which = w }

-- the code of an extended control, which owns a control header
abbrev pub Owner : Type 0
Owner = Option ℕ

-- the numbers in a paragraph header's body; bit 31 of the first is a flag that is kept, the count is the other 31
unfoldable pub counts_of : List ℕ → Counts
counts_of head =
    record { count = little 4 head % 2147483648; shapes = little 2 (drop 12 head); marks = little 2 (drop 14 head); lines = little 2 (drop 16 head) }

-- the finding where the test holds, and else what follows
unfoldable pub guard : Bool → Finding → Finding → Finding
guard true x rest = x
guard false x rest = rest

-- a fault where a position or an index is at fault, with what it names by that, and else what follows
unfoldable pub guard_at : Option ℕ → Fault → (ℕ → Which) → Finding → Finding
guard_at None f names rest = rest
guard_at (Some i) f names rest = Err (breach f (names i))

-- a breach, and else what follows
unfoldable pub or_else : Finding → Finding → Finding
or_else (Ok tt) rest = rest
or_else (Err b) rest = Err b

-- a fault that names the paragraph header, and one that names the child with a tag
abbrev pub of_header : Fault → Finding
of_header f = Err (breach f W.Header)

abbrev pub of_child : ℕ → Fault → Finding
of_child tag f = Err (breach f (W.Child tag 0))

-- the unit at a position of the text
abbrev pub unit_of : ℕ → Which
unit_of p = W.Unit (position p)

-- the entry with an index in the child with a tag, w bytes each: its first byte
abbrev pub entry_of : ℕ → ℕ → ℕ → Which
entry_of tag w i = W.Entry tag (offset (w * i))

-- ---- 10 and 11, by the lengths of the four records

abbrev pub length_of : Option (List ℕ) → Option ℕ
length_of None = None
length_of (Some b) = Some (length b)

pub record Lengths : Type 0 where
  pub text : Option ℕ
  pub shapes : Option ℕ
  pub layout : Option ℕ
  pub marks : Option ℕ

unfoldable pub lengths_of : List Rec → Lengths
lengths_of own =
    record {
      text = length_of (child kind.text own);
      shapes = length_of (child kind.shapes own);
      layout = length_of (child kind.layout own);
      marks = length_of (child kind.marks own);
    }

-- a record is absent that is needed where its number is at least `least`
abbrev pub lacks : ℕ → ℕ → Option ℕ → Bool
lacks least number None = leb least number
lacks least number (Some n) = false

-- 10: text may be absent with count 0 or 1; shapes are always present; layout and marks exactly if their number is above 0
unfoldable pub absent : Counts → Lengths → Bool
absent c l =
    lacks 2 c.count l.text || (lacks 0 c.shapes l.shapes || (lacks 1 c.lines l.layout || lacks 1 c.marks l.marks))

-- a record is present though its number is 0
abbrev pub unwanted : ℕ → Option ℕ → Bool
unwanted number None = false
unwanted number (Some n) = eqb number 0

-- or its length is not the number of bytes that its number asks for
abbrev pub misfits : ℕ → ℕ → Option ℕ → Bool
misfits number asked None = false
misfits number asked (Some n) = eqb number 0 || not (eqb n asked)

-- 11 in tag order; the layout's body is not examined
unfoldable pub length_fault : Counts → Lengths → Finding
length_fault c l =
    guard (misfits c.count (2 * c.count) l.text) (of_child kind.text F.LengthWrong)
    (guard (misfits c.shapes (8 * c.shapes) l.shapes) (of_child kind.shapes F.LengthWrong)
    (guard (unwanted c.lines l.layout) (of_child kind.layout F.LengthWrong)
    (guard (misfits c.marks (12 * c.marks) l.marks) (of_child kind.marks F.LengthWrong) (Ok tt))))

-- ---- 12 and 13, by the bodies

-- the unit that breaks a rule, of a text that is present
abbrev pub unit_broken : Option (List ℕ) → Option ℕ
unit_broken None = None
unit_broken (Some b) = text_fault (units b)

-- the bytes of a body; an absent record has none: no entries, and no units that matter here, since an absent text is empty or the lone
-- unit 13
abbrev pub bytes_in : Option (List ℕ) → List ℕ
bytes_in None = []
bytes_in (Some b) = b

-- 13 at the entry of shapes, '8 bytes each', then of marks, '12 bytes each'
unfoldable pub entry_fault : ℕ → List ℕ → List ℕ → Finding
entry_fault count shapes marks =
    guard_at (shapes_fault count shapes) F.EntriesWrong (entry_of kind.shapes 8)
    (guard_at (marks_fault count marks) F.EntriesWrong (entry_of kind.marks 12) (Ok tt))

-- ---- 14 and 15

-- the code of an extended control, which owns a control header
abbrev pub owner_of : Standing → Owner
owner_of (Ordinary u) = None
owner_of (Control c) = elim c.class [ Character ↦ None | Inline ↦ None | Extended ↦ Some c.code ]

abbrev pub code_before : Owner → List ℕ → List ℕ
code_before None cs = cs
code_before (Some code) cs = code ∷ cs

-- the codes of the extended controls, in text order
unfoldable pub codes_in : List Token → List ℕ
codes_in [] = []
codes_in (t ∷ ts) = code_before (owner_of t.what) (codes_in ts)

-- a field's control header holds at least 15 + 2 x length bytes, with the command's length at 9
unfoldable pub field_short : List ℕ → Bool
field_short b = ltb (length b) 15 || ltb (length b) (15 + 2 * little 2 (drop 9 b))

-- 15: the nth extended control owns the nth control header; code 3 is a field
unfoldable pub field_fault : ℕ → List ℕ → List (List ℕ) → Finding
field_fault nth [] bs = Ok tt
field_fault nth (c ∷ cs) [] = Ok tt
field_fault nth (c ∷ cs) (b ∷ bs) = guard (eqb c 3 && field_short b) (Err (breach F.FieldHeaderShort (W.Child kind.control_header nth))) (field_fault (nth + 1) cs bs)

-- 14, then 15
unfoldable pub control_fault : List ℕ → List (List ℕ) → Finding
control_fault us bs = guard (not (eqb (extended_count us) (length bs))) (of_header F.ControlsUnmatched) (field_fault 0 (codes_in (tokens us)) bs)

-- ---- the whole

-- behind 10 and 11: 12 at the unit that breaks a rule, then 13 to 15
unfoldable pub body_fault : ℕ → Option (List ℕ) → List ℕ → List ℕ → List (List ℕ) → Finding
body_fault count text shapes marks bs =
    guard_at (unit_broken text) F.TextRule unit_of (or_else (entry_fault count shapes marks) (control_fault (units (bytes_in text)) bs))

-- behind a header of 22 bytes or more
unfoldable pub parts_fault : Counts → List Rec → Finding
parts_fault c own =
    guard (absent c (lengths_of own)) (of_header F.RecordAbsent)
    (or_else (length_fault c (lengths_of own))
    (body_fault c.count (child kind.text own) (bytes_in (child kind.shapes own)) (bytes_in (child kind.marks own)) (controls own)))

-- by the header's body
unfoldable pub head_fault : List ℕ → List Rec → Finding
head_fault head own = guard (ltb (length head) 22) (of_header F.ParagraphHeaderShort) (parts_fault (counts_of head) own)

unfoldable pub paragraph_fault : View → Finding
paragraph_fault v = head_fault v.head v.own

-- the paragraph whose header is the first of some records
unfoldable pub first_fault : List Rec → Finding
first_fault [] = Ok tt
first_fault (r ∷ rs) = paragraph_fault (view r rs)
