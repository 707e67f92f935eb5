-- Every place that check and the section read answer is within the limit. Assumes nothing.
use Rattle.std.specs.Prelude.{Err, Ok, Option, Some}
use Prim.Native.Nat.{ℕ, ◌+◌, ◌≤◌}
use native.Mathlib.Omega.{arith}
use mathlib.Core.Bool.{Bool, true, false, cond}
use mathlib.Core.List.{List, [], ◌∷◌}
use lib.ListN.{length}
use Rattle.numbers.specs.Little.{Bytes}
use Rattle.records.specs.Records.{Rec, limit, encode, size}
use Rattle.records.specs.Reading.{read_all}
use Rattle.records.specs.Answers.{place}
use Rattle.records.specs.declared.fault.Refusal.{Refusal}
use Rattle.records.proofs.ScanLaws.{length-encode, Near, judged_near}
use Rattle.paragraph.specs.View.{view}
use Rattle.paragraph.specs.Rules.{first_fault, Finding}
use Rattle.paragraph.proofs.NearLaws.{NamesIf, names, place_near}
use Rattle.section.specs.Parents.{header, misplaced, stray_from}
use Rattle.section.specs.Section.{refusal_or, finding_of, paragraphs_fault, stray_or, section_fault, section_answer, check_answer}

-- what the finding of a record names, where it is a paragraph header and where not
pub finding_names : (r : Rec) (rs : List Rec) (b : Bool) → NamesIf (view r rs).own (cond b (first_fault (r ∷ rs)) (Ok tt))
unfolding first_fault
finding_names r rs true = names (view r rs)
finding_names r rs false = tt

paragraphs_near : (at end : ℕ) (rs : List Rec) → at + length (encode rs) ≤ end → Near end (paragraphs_fault at rs)
unfolding paragraphs_fault
paragraphs_near at end [] h = tt
paragraphs_near at end (r ∷ rs) h =
    by (finding_of r.tag (r ∷ rs)) (finding_names r rs (header r.tag)) (paragraphs_near (at + size r) end rs (omega (arith, length-encode r rs, h)))
  where
    by : (x : Finding) → NamesIf (view r rs).own x → Near end (paragraphs_fault (at + size r) rs)
        → Near end (refusal_or at (r ∷ rs) x (paragraphs_fault (at + size r) rs))
    by (Ok tt) n rest = rest
    by (Err b) n rest = omega (arith, place_near at r rs b.fault b.which n, h)

stray_near : (at end : ℕ) (earlier rs : List Rec) (rest : Option Refusal) → at + length (encode rs) ≤ end → Near end rest
    → Near end (stray_or (stray_from at earlier rs) rest)
unfolding stray_from
stray_near at end earlier [] rest h k = k
stray_near at end earlier (r ∷ rs) rest h k =
    by (misplaced r earlier) (stray_near (at + size r) end (r ∷ earlier) rs rest (omega (arith, length-encode r rs, h)) k)
  where
    by : (b : Bool) → Near end (stray_or (stray_from (at + size r) (r ∷ earlier) rs) rest)
        → Near end (stray_or (cond b (Some at) (stray_from (at + size r) (r ∷ earlier) rs)) rest)
    by true further = omega (arith, h)
    by false further = further

section_fault_near : (rs : List Rec) → Near (length (encode rs)) (section_fault rs)
unfolding section_fault
section_fault_near rs =
    stray_near 0 (length (encode rs)) [] rs (paragraphs_fault 0 rs) (omega arith) (paragraphs_near 0 (length (encode rs)) rs (omega arith))

pub section_near : (s : List ℕ) (room : ℕ) → Bytes s → place (section_answer s room) ≤ limit
unfolding section_answer
section_near s room bs = judged_near s room bs (section_fault (read_all s).recs) (section_fault_near (read_all s).recs)

pub check_near : (s : List ℕ) → Bytes s → place (check_answer s) ≤ limit
unfolding check_answer
check_near s bs = section_near s (length s) bs
