-- The numbers the host sees (document 01, the table of numbers): one name for each, and its number.
use Rattle.std.specs.Prelude.{ℕ, ◌+◌, ◌*◌, min, Result, Err, Ok}
use Rattle.records.specs.declared.fault.Fault.{Fault}
use Rattle.records.specs.declared.fault.Fault.TheVariants as F
use Rattle.records.specs.declared.fault.Refusal.{Refusal}

-- document 01's number of a fault
abbrev pub number_of : Fault → ℕ
number_of F.StreamTooLong = 1
number_of F.HeaderCut = 2
number_of F.LongLengthTooSmall = 3
number_of F.BodyPastEnd = 4
number_of F.TagOutside = 5
number_of F.LevelRule = 6
number_of F.NoRoom = 7
number_of F.ParagraphHeaderShort = 8
number_of F.Misplaced = 9
number_of F.RecordAbsent = 10
number_of F.LengthWrong = 11
number_of F.TextRule = 12
number_of F.EntriesWrong = 13
number_of F.ControlsUnmatched = 14
number_of F.FieldHeaderShort = 15
number_of F.DocInfoRecord = 16
number_of F.DocInfoLength = 17
number_of F.CountUnmatched = 18
number_of F.ValueWrong = 20
number_of F.NoField = 21
number_of F.FieldTwice = 22
number_of F.FieldNotPlain = 23
number_of F.MarksInParagraph = 24
number_of F.SheetTooLong = 25
number_of F.BufferTooShort = 26
number_of F.ListTooShort = 27
number_of F.ParentWrong = 28

-- a fault and where: at a byte place
abbrev pub refusal : Fault → ℕ → Refusal
refusal f p = record { fault = f; place = record { 0 = p } }

-- the same fault where what it was found in begins at a place
abbrev pub further : ℕ → Refusal → Refusal
further at r = refusal r.fault (at + r.place.0)

-- what a call over one stream answers: how much it found or wrote, or the refusal
abbrev pub Answer : Type 0
Answer = Result ℕ Refusal

-- the refusal of a fault at a byte place
abbrev pub refused_at : Fault → ℕ → Answer
refused_at f p = Err (refusal f p)

-- the number of an answer, 0 where it is accepted, by that of a reason to refuse
abbrev pub number_by : {E : Type 0} → (E → ℕ) → Result ℕ E → ℕ
number_by number_is (Ok n) = 0
number_by number_is (Err e) = number_is e

-- the place that goes with it, or what stands in its column for 0
abbrev pub place_by : {E : Type 0} → (E → ℕ) → Result ℕ E → ℕ
place_by place_is (Ok n) = n
place_by place_is (Err e) = place_is e

-- document 01's number of an answer, and the place or what stands in its column
abbrev pub number : Answer → ℕ
number a = number_by (λ (r : Refusal). number_of r.fault) a

abbrev pub place : Answer → ℕ
place a = place_by (λ (r : Refusal). r.place.0) a

-- the host's 64 bits: the number, plus 256 times the place, plus 2 to the power 36 times the further number (document 01, 'What the part does')
unfoldable pub host_form : ℕ → ℕ → ℕ → ℕ
host_form n p further = n + 256 * p + 68719476736 * further

-- the sum that tells the host an answer
abbrev pub sum_of : Answer → ℕ
sum_of a = host_form (number a) (place a) 0

-- a place that has its 28 bits there, as every place within the limit does; a larger one would be given as the largest
abbrev pub place_bits : ℕ → ℕ
place_bits p = min p 268435455
