-- What a fault can name of a paragraph, and that it stands among the paragraph's records. Assumes nothing.
use Rattle.std.specs.Prelude.{Err, None, Ok, Option, Some}
use Prim.Native.Nat.{ℕ, zero, suc, ◌+◌, ◌*◌, ◌≤◌, ◌<◌}
use native.Mathlib.Omega.{arith}
use mathlib.Core.Path.{◌≡◌, refl}
use mathlib.Core.Bool.{Bool, true, false}
use mathlib.Core.List.{List, [], ◌∷◌}
use lib.ListN.{length}
use Rattle.records.specs.Kinds as kind
use Rattle.records.specs.Records.{Rec, encode, size}
use Rattle.records.specs.declared.fault.Fault.{Fault}
use Rattle.records.specs.declared.fault.Fault.TheVariants as F
use Rattle.records.proofs.ScanLaws.{length-encode}
use Rattle.text.specs.Units.{units}
use Rattle.text.specs.Walk.{text_fault}
use Rattle.text.proofs.UnitLaws.{length-units}
use Rattle.text.proofs.WalkLaws.{Upto, text-within}
use Rattle.entries.proofs.EntryLaws.{Under, shapes_under, marks_under}
use Rattle.paragraph.specs.View.{View, view, kids, child}
use Rattle.paragraph.specs.Rules.{guard, guard_at, or_else, unit_of, entry_of, bytes_in, unit_broken, length_fault, entry_fault, field_fault, control_fault, body_fault, parts_fault, head_fault, paragraph_fault, Finding}
use Rattle.paragraph.specs.Places.{sought, found_in, place_found, body_place, child_in, place_of}
use Rattle.paragraph.specs.declared.view.Side.{Side}
use Rattle.paragraph.specs.declared.view.Side.TheVariants as S
use Rattle.paragraph.specs.declared.finding.Which.{Which}
use Rattle.paragraph.specs.declared.finding.Which.TheVariants as W
use Rattle.paragraph.proofs.FindLaws.{found_beyond, found_passed, found_here, found_later}
use Rattle.paragraph.proofs.BodyLaws.{Ways, beyond, owned, other, passed, ways, kids_beyond, kids_owned, kids_passed, child_here, child_other}

-- ---- a fault and what it names, of the paragraph that owns these records

pub data Names (own : List Rec) : Fault → Which → Type 0 where
  short : Names own F.ParagraphHeaderShort W.Header
  absent : Names own F.RecordAbsent W.Header
  length_wrong : (tag : ℕ) → Names own F.LengthWrong (W.Child tag 0)
  unit : (p : ℕ) → 2 * p ≤ length (bytes_in (child kind.text own)) → Names own F.TextRule (unit_of p)
  entry : (tag w i : ℕ) → w * i ≤ length (bytes_in (child tag own)) → Names own F.EntriesWrong (entry_of tag w i)
  unmatched : Names own F.ControlsUnmatched W.Header
  header-short : (nth : ℕ) → Names own F.FieldHeaderShort (W.Child kind.control_header nth)

-- where there is a breach, it is one of these
abbrev pub NamesIf : List Rec → Finding → Type 0
NamesIf own (Ok tt) = Unit {0}
NamesIf own (Err b) = Names own b.fault b.which

module _ (own : List Rec) where
  by_guard : (b : Bool) (x rest : Finding) → NamesIf own x → NamesIf own rest → NamesIf own (guard b x rest)
  unfolding guard
  by_guard true x rest h k = h
  by_guard false x rest h k = k

  by_else : (x rest : Finding) → NamesIf own x → NamesIf own rest → NamesIf own (or_else x rest)
  unfolding or_else
  by_else (Ok tt) rest h k = k
  by_else (Err b) rest h k = h

  by_unit : (t : Option (List ℕ)) (rest : Finding) → child kind.text own ≡ t → NamesIf own rest → NamesIf own (guard_at (unit_broken t) F.TextRule unit_of rest)
  unfolding guard_at
  by_unit None rest e k = k
  by_unit (Some b) rest e k = on (text_fault (units b)) (text-within (units b))
    where
      on : (o : Option ℕ) → Upto (length (units b)) o → NamesIf own (guard_at o F.TextRule unit_of rest)
      on None h = k
      on (Some p) h = unit p (rw e (omega (arith, length-units b)))

  by_entry : (tag w n : ℕ) (o : Option ℕ) (rest : Finding) → Under n o → ((i : ℕ) → i < n → w * i ≤ length (bytes_in (child tag own)))
      → NamesIf own rest → NamesIf own (guard_at o F.EntriesWrong (entry_of tag w) rest)
  unfolding guard_at
  by_entry tag w n None rest u h k = k
  by_entry tag w n (Some i) rest u h k = entry tag w i (h i u)

  by_field : (nth : ℕ) (cs : List ℕ) (bs : List (List ℕ)) → NamesIf own (field_fault nth cs bs)
  unfolding field_fault
  by_field nth [] bs = tt
  by_field nth (c ∷ cs) [] = tt
  by_field nth (c ∷ cs) (b ∷ bs) = by_guard _ _ _ (header-short nth) (by_field (nth + 1) cs bs)

pub names : (v : View) → NamesIf v.own (paragraph_fault v)
unfolding paragraph_fault head_fault parts_fault length_fault body_fault entry_fault control_fault
names v =
    let own = v.own in
    let l = length_wrong in
    by_guard own _ _ _ short
    (by_guard own _ _ _ absent
    (by_else own _ _ (by_guard own _ _ _ (l 67) (by_guard own _ _ _ (l 68) (by_guard own _ _ _ (l 69) (by_guard own _ _ _ (l 70) tt))))
    (by_unit own (child kind.text own) _ refl
    (by_else own _ _
    (by_entry own kind.shapes 8 _ _ _ (shapes_under _ (bytes_in (child kind.shapes own))) (λ i h. omega arith)
    (by_entry own kind.marks 12 _ _ _ (marks_under _ (bytes_in (child kind.marks own))) (λ i h. omega arith) tt))
    (by_guard own _ _ _ unmatched (by_field own 0 _ _))))))

-- ---- where a child stands

-- the place of a child, or p where there is none
pub found_near : (n tag nth at p : ℕ) (rs : List Rec) → p ≤ at + length (encode rs)
    → place_found p (found_in n tag nth at rs) ≤ at + length (encode rs)
found_near n tag nth at p [] h = unfold found_in in h
found_near n tag nth at p (r ∷ rs) h =
    by (sought n tag r.tag r.level) refl nth (λ k. found_near n tag k (at + size r) p rs (omega (arith, length-encode r rs, h)))
  where
    by : (x : Side) → sought n tag r.tag r.level ≡ x → (nth : ℕ)
        → ((k : ℕ) → place_found p (found_in n tag k (at + size r) rs) ≤ at + size r + length (encode rs))
        → place_found p (found_in n tag nth at (r ∷ rs)) ≤ at + length (encode (r ∷ rs))
    by S.Beyond e nth rest = rw (found_beyond n tag at r rs nth e) h
    by S.Passed e nth rest = rw (found_passed n tag at r rs nth e) (omega (arith, length-encode r rs, rest nth))
    by S.Owned e zero rest = rw (found_here n tag at r rs e) (omega arith)
    by S.Owned e (suc k) rest = rw (found_later n tag at r rs k e) (omega (arith, length-encode r rs, rest k))

-- the end of the first child's body
body_near : (n tag at p : ℕ) (rs : List Rec) → p ≤ at + length (encode rs)
    → body_place p (found_in n tag 0 at rs) + length (bytes_in (child tag (kids n rs))) ≤ at + length (encode rs)
unfolding kids child size
body_near n tag at p [] h = unfold found_in in omega arith
body_near n tag at p (r ∷ rs) h = by (ways n tag r) (body_near n tag (at + size r) p rs (omega (arith, length-encode r rs, h)))
  where
    by : Ways n tag r → body_place p (found_in n tag 0 (at + size r) rs) + length (bytes_in (child tag (kids n rs))) ≤ at + size r + length (encode rs)
        → body_place p (found_in n tag 0 at (r ∷ rs)) + length (bytes_in (child tag (kids n (r ∷ rs)))) ≤ at + length (encode (r ∷ rs))
    by (beyond w o) rest = rw (found_beyond n tag at r rs 0 w, kids_beyond n r rs o) (omega arith)
    by (owned w o t) rest = rw (found_here n tag at r rs w, kids_owned n r rs o, child_here tag r (kids n rs) t) (omega (arith, length-encode r rs))
    by (other w o t) rest = rw (found_passed n tag at r rs 0 w, kids_owned n r rs o, child_other tag r (kids n rs) t) (omega (arith, length-encode r rs, rest))
    by (passed w o) rest = rw (found_passed n tag at r rs 0 w, kids_passed n r rs o) (omega (arith, length-encode r rs, rest))

-- ---- what a fault names in the paragraph that stands at `at`

pub place_near : (at : ℕ) (r : Rec) (rs : List Rec) (f : Fault) (w : Which) → Names (view r rs).own f w → place_of at (r ∷ rs) w ≤ at + length (encode (r ∷ rs))
unfolding child_in view
place_near at r rs f w short = omega arith
place_near at r rs f w absent = omega arith
place_near at r rs f w unmatched = omega arith
place_near at r rs f w (length_wrong tag) = omega (arith, length-encode r rs, found_near (suc r.level) tag 0 (at + size r) at rs (omega arith))
place_near at r rs f w (header-short nth) = omega (arith, length-encode r rs, found_near (suc r.level) 71 nth (at + size r) at rs (omega arith))
place_near at r rs f w (unit p h) = omega (arith, length-encode r rs, body_near (suc r.level) 67 (at + size r) at rs (omega arith), h)
place_near at r rs f w (entry tag k i h) = omega (arith, length-encode r rs, body_near (suc r.level) tag (at + size r) at rs (omega arith), h)
