-- Where records 67 to 70 may stand (document 01, 'Paragraphs'). Earlier records are given the nearest first.
use Rattle.std.specs.Prelude.{ℕ, ◌+◌, Bool, false, cond, ◌&&◌, ◌||◌, not, List, [], ◌∷◌, ltb, leb, eqb, None, Option, Some}
use Rattle.records.specs.Kinds as kind
use Rattle.records.specs.Records.{Rec, size}
use Rattle.records.specs.Parents.{parent_of}
use Rattle.records.specs.Reading.{offset}
use Rattle.records.specs.declared.fault.Offset.{Offset}

-- an earlier record with the same parent has the tag: by the level rule the children of one parent have one level, and no record of
-- smaller level stands between them (`doubled_sibling` and `sibling_doubled` in acceptance/proofs/SiblingLaws.antt)
unfoldable pub doubled : ℕ → ℕ → List Rec → Bool
doubled tag level [] = false
doubled tag level (q ∷ before) = cond (ltb q.level level) false ((eqb q.level level && eqb q.tag tag) || doubled tag level before)

-- records 67 to 70
unfoldable pub leaf : ℕ → Bool
leaf tag = leb kind.text tag && leb tag kind.marks

unfoldable pub header : ℕ → Bool
header tag = eqb tag kind.paragraph_header

-- there is a parent, and its tag is such
abbrev pub parent_is : (ℕ → Bool) → List Rec → Bool
parent_is which [] = false
parent_is which (p ∷ before) = which p.tag

-- records 67 to 70 must be children of a 66, at most one of each, and have no children (for a parent, its first child is named). That this is
-- said of the parent as document 01 has it is `placed_exactly` in acceptance/proofs/SectionReader.antt
unfoldable pub misplaced : Rec → List Rec → Bool
misplaced r earlier =
    parent_is leaf (parent_of r.level earlier)
    || (leaf r.tag && (not (parent_is header (parent_of r.level earlier)) || doubled r.tag r.level earlier))

-- the place of the earliest record that 9 can name; the first of the records stands at `at`
unfoldable pub stray_from : ℕ → List Rec → List Rec → Option ℕ
stray_from at earlier [] = None
stray_from at earlier (r ∷ rs) = cond (misplaced r earlier) (Some at) (stray_from (at + size r) (r ∷ earlier) rs)

-- the same as the pass of rule 9 answers it
abbrev pub stray_of : Option ℕ → Option Offset
stray_of None = None
stray_of (Some p) = Some (offset p)
