-- A mirror of the code that gathers the parts of the paragraphs of a window of levels, of which nothing has to be believed: what the pass promises is
-- `paragraphs_fault` (Section), and `proofs/GatherLaws.antt` says that a slot holds the parts of its paragraph. A slot has where its paragraph's
-- header stands, and one more; where its text, shapes, layout and marks stand, and one more; and how many control headers it has. 0 is none. In a
-- window from lo on, the slot of the paragraphs whose children are at level n has the index n - lo.
use Rattle.std.specs.Prelude.{ℕ, zero, suc, ◌+◌, ◌-◌, min, ◌≡◌, Bool, true, false, cond, ◌&&◌, List, [], ◌∷◌, ltb, eqb, length, get_or, set, drop, Err, None, Ok, Option, Some}
use Rattle.records.specs.Kinds as kind
use Rattle.records.specs.Records.{Rec, size}
use Rattle.records.specs.Reading.{ahead_of, Ahead}
use Rattle.paragraph.specs.Stream.{records_in}
use Rattle.paragraph.specs.Rules.{first_fault, Finding}
use Rattle.paragraph.specs.Places.{parts_in, Found}
use Rattle.section.specs.Section.{finding_of}
use Rattle.section.specs.Windows.{between, first_in}
use Rattle.section.specs.declared.slot.Blamed.{Blamed}
use Rattle.section.specs.declared.slot.Slot.{Slot}
use Rattle.paragraph.specs.declared.children.Parts.{Parts}

-- a slot with a header or with none, and nothing else; and the slot with an index
abbrev pub fresh : ℕ → Slot
fresh x = record { header = x; text = 0; shapes = 0; layout = 0; marks = 0; controls = 0 }

abbrev pub slot_at : List Slot → ℕ → Slot
slot_at slots i = get_or slots i (fresh 0)

-- the record that stands at a place
abbrev pub found_ahead : Ahead → Found
found_ahead (Some (Ok r)) = Some r
found_ahead (Some (Err f)) = None
found_ahead None = None

unfoldable pub part_found : List ℕ → ℕ → Found
part_found s x = cond (eqb x 0) None (found_ahead (ahead_of 1023 s (x - 1)))

unfoldable pub parts_of : List ℕ → Slot → Parts
parts_of s k =
    record {
      text = part_found s k.text;
      shapes = part_found s k.shapes;
      layout = part_found s k.layout;
      marks = part_found s k.marks;
      controls = k.controls;
    }

abbrev pub at_fault : Finding → Bool
at_fault (Ok tt) = false
at_fault (Err b) = true

-- the level of a record's children, and whether it is a paragraph at fault
abbrev pub below : Rec → ℕ
below r = r.level + 1

abbrev pub faulty : List Rec → Rec → List Rec → Bool
faulty earlier r rs = at_fault (finding_of r.tag (r ∷ rs))

-- the place of the paragraph that an entry names if it is at fault, and else the length of the stream
unfoldable pub slot_fault : List ℕ → ℕ → ℕ
slot_fault s x = cond (eqb x 0) (length s) (cond (at_fault (first_fault (records_in (drop (x - 1) s)))) (x - 1) (length s))

-- the least of the first n slots
unfoldable pub slots_fault : List ℕ → List Slot → ℕ → ℕ
slots_fault s slots zero = length s
slots_fault s slots (suc n) = min (slots_fault s slots n) (slot_fault s (slot_at slots n).header)

-- what is noted of a paragraph is all that it has
abbrev pub Ended : List ℕ → Slot → Type 0
Ended s k =
    (h : Rec) (rs : List Rec) → (k.header ≡ 0 → ⊥) → records_in (drop (k.header - 1) s) ≡ h ∷ rs
    → parts_of s k ≡ parts_in (suc h.level) (k.header - 1 + size h) rs

-- an entry, where one more record has its tag or another: the first is named
abbrev pub first_of : Bool → ℕ → ℕ → ℕ
first_of is place x = cond (is && eqb x 0) place x

-- a record with a tag noted as a child of the paragraph in a slot, if there is one
unfoldable pub noted : Slot → ℕ → ℕ → Slot
noted k tag place =
    cond (eqb k.header 0) k
    (record {
      header = k.header;
      text = first_of (eqb tag kind.text) place k.text;
      shapes = first_of (eqb tag kind.shapes) place k.shapes;
      layout = first_of (eqb tag kind.layout) place k.layout;
      marks = first_of (eqb tag kind.marks) place k.marks;
      controls = k.controls + cond (eqb tag kind.control_header) 1 0;
    })

-- a record at a level with its parent's slot, and then with its own, that of children at level `below`
unfoldable pub noted_in : ℕ → List Slot → ℕ → ℕ → ℕ → List Slot
noted_in lo slots tag level place =
    cond (between lo (lo + 16) level) (set slots (level - lo) (noted (slot_at slots (level - lo)) tag place)) slots

unfoldable pub taken_in : ℕ → List Slot → ℕ → ℕ → ℕ → List Slot
taken_in lo slots tag below place =
    cond (between lo (lo + 16) below) (set slots (below - lo) (fresh (cond (eqb tag kind.paragraph_header) place 0))) slots

unfoldable pub own_fault : List ℕ → ℕ → List Slot → ℕ → ℕ
own_fault s lo slots below = cond (between lo (lo + 16) below) (slot_fault s (slot_at slots (below - lo)).header) (length s)

-- a paragraph stands in the slot of children at level `below`, where the window has one; and that slot
unfoldable pub held_in : ℕ → List Slot → ℕ → Bool
held_in lo slots below = between lo (lo + 16) below && ltb 0 (slot_at slots (below - lo)).header

abbrev pub held_slot : ℕ → List Slot → ℕ → Option ℕ
held_slot lo slots below = cond (held_in lo slots below) (Some (below - lo)) None

-- the place of the first paragraph at fault whose children's level is from lo up to and not including hi, and else the length of the stream
unfoldable pub fault_in : ℕ → ℕ → List ℕ → ℕ
fault_in lo hi s = first_in below faulty lo hi (length s) 0 [] (records_in s)

-- where a paragraph at fault stands; e where none is
abbrev pub place_of_blamed : Blamed → ℕ
place_of_blamed j = j.at.0

abbrev pub place_or : ℕ → Option Blamed → ℕ
place_or e None = e
place_or e (Some j) = j.at.0

-- what was found of a paragraph is what it is at fault with
abbrev pub Known : List ℕ → Option Blamed → Type 0
Known s None = Unit {0}
Known s (Some j) = Err j.breach ≡ first_fault (records_in (drop j.at.0 s))
