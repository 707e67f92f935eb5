-- What the code's steps come to, in its own types: nothing here has to be believed. What a search met is document 01's search by `field_met`
-- and `fillable_met`, the sheet of a hit is document 01's sheet by `hit_sheet_lem` (proofs/LocateLaws.antt, FillLaws.antt).
use Rattle.records.specs.Answers.{Answer}
use Rattle.std.specs.Prelude.{ℕ, cond, List, [], eqb, Err, Ok, Result}
use Rattle.records.specs.Reading.{offset}
use Rattle.records.specs.declared.fault.Offset.{Offset}
use Rattle.records.specs.declared.fault.Fault.{Fault}
use Rattle.records.specs.declared.fault.Fault.TheVariants as F
use Rattle.filling.specs.Filling.{value_wrong}
use Rattle.writing.specs.Sheet.{field_of, sheet_written}
use Rattle.search.specs.declared.seek.Hit.{Hit}
use Rattle.search.specs.declared.seek.Met.{Met}
use Rattle.search.specs.declared.seek.Met.TheVariants as M
use Rattle.records.specs.declared.fault.Refusal.{Refusal}

-- the one plain field with the id, or a refusal
abbrev pub Searched : Type 0
Searched = Result Hit Refusal

-- a fault at its place
abbrev pub refusal : Fault → Offset → Searched
refusal f p = Err (record { fault = f; place = p })

-- 21 where nothing was met, 22 at the second, 23 where the only one is not plain
unfoldable pub plain_field : Met → Searched
plain_field M.Nothing = refusal F.NoField (offset 0)
plain_field (M.One h) = cond h.field.plain (Ok h) (refusal F.FieldNotPlain h.control)
plain_field (M.Twice second) = refusal F.FieldTwice second

-- 24 where its paragraph has marks
unfoldable pub unmarked_field : Searched → Searched
unmarked_field (Ok h) = cond (eqb h.marks 0) (Ok h) (refusal F.MarksInParagraph h.header)
unmarked_field (Err r) = Err r

-- 20 before all of them
unfoldable pub fillable_field : List ℕ → Met → Searched
fillable_field value met = cond (value_wrong value) (refusal F.ValueWrong (offset 0)) (unmarked_field (plain_field met))

-- the bytes that a fill leaves at the front of its buffer: a refusal none
abbrev pub leaves : Answer → List ℕ → List ℕ
leaves (Ok n) bs = bs
leaves (Err r) bs = []

-- the sheet that is written for a hit of the search
abbrev pub hit_sheet : Hit → List ℕ → List ℕ → List ℕ
hit_sheet h value s = sheet_written (field_of h.field.ordinal h.field.a.0 h.field.b.0) value s h.header.0
