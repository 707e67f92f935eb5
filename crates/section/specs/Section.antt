-- The rules of a section over its records, and what check and the section read answer (document 01, 'Order').
use Rattle.std.specs.Prelude.{ℕ, ◌+◌, cond, List, [], ◌∷◌, length, Err, None, Ok, Option, Some}
use Rattle.records.specs.Records.{Rec, size}
use Rattle.records.specs.Answers.{refusal, Answer}
use Rattle.records.specs.Reading.{read_all}
use Rattle.records.specs.Table.{read_answer, after_read}
use Rattle.records.specs.declared.fault.Fault.TheVariants as F
use Rattle.records.specs.declared.fault.Refusal.{Refusal}
use Rattle.paragraph.specs.Rules.{first_fault, Finding}
use Rattle.paragraph.specs.Places.{place_of}
use Rattle.section.specs.Parents.{header, stray_from}

-- the refusal that a finding makes of the paragraph at `at`, and else what follows
abbrev pub refusal_or : ℕ → List Rec → Finding → Option Refusal → Option Refusal
refusal_or at rs (Ok tt) rest = rest
refusal_or at rs (Err b) rest = Some (refusal b.fault (place_of at rs b.which))

-- the finding of the first of some records, by its tag
abbrev pub finding_of : ℕ → List Rec → Finding
finding_of tag rs = cond (header tag) (first_fault rs) (Ok tt)

-- the paragraphs in stream order, where the first of the records stands at `at`
unfoldable pub paragraphs_fault : ℕ → List Rec → Option Refusal
paragraphs_fault at [] = None
paragraphs_fault at (r ∷ rs) =
    refusal_or at (r ∷ rs) (finding_of r.tag (r ∷ rs)) (paragraphs_fault (at + size r) rs)

-- 9 at a place, and else what follows
abbrev pub stray_or : Option ℕ → Option Refusal → Option Refusal
stray_or None rest = rest
stray_or (Some p) rest = Some (refusal F.Misplaced p)

-- 9 over all records, then each paragraph. Nothing is at fault exactly where document 01's sentences hold: `obeys_exactly` in
-- acceptance/proofs/SectionReader.antt
unfoldable pub section_fault : List Rec → Option Refusal
section_fault rs = stray_or (stray_from 0 [] rs) (paragraphs_fault 0 rs)

-- the section read, where the shortest list has `room` entries: read's numbers, 7 among them, then the section's
unfoldable pub section_answer : List ℕ → ℕ → Answer
section_answer s room = after_read (read_answer s room) (section_fault (read_all s).recs)

-- check is the section read without lists: a stream has room for as many records as bytes, so that 7 is never given
unfoldable pub check_answer : List ℕ → Answer
check_answer s = section_answer s (length s)
