-- Every place that the DocInfo read answers is within the limit. Assumes nothing.
use Rattle.std.specs.Prelude.{None, Option, Some}
use Prim.Native.Nat.{ℕ, ◌+◌, ◌≤◌}
use native.Mathlib.Omega.{arith}
use mathlib.Core.Bool.{Bool, true, false, cond}
use mathlib.Core.List.{List, [], ◌∷◌}
use lib.Dec.{ltb, eqb}
use lib.ListN.{length}
use Rattle.numbers.specs.Little.{Bytes}
use Rattle.records.specs.Records.{Rec, limit, encode, size}
use Rattle.records.specs.Parents.{keep_if}
use Rattle.records.specs.Reading.{read_all}
use Rattle.records.specs.Answers.{place}
use Rattle.records.specs.declared.fault.Refusal.{Refusal}
use Rattle.records.proofs.ScanLaws.{length-encode, Near, judged_near}
use Rattle.docinfo.specs.Only.{Located, body_place, tagged, Only, one, wrong, only_of, only}
use Rattle.docinfo.specs.Widths.{count_bytes, form_of}
use Rattle.docinfo.specs.Counts.{count_fault}
use Rattle.docinfo.specs.DocInfo.{kids_of, count_refusal, mappings_fault, bodies_fault, judged, docinfo_fault, docinfo_answer}
use Rattle.docinfo.proofs.CountLaws.{Within, fault-within}
use Rattle.docinfo.specs.declared.widths.Width.{Width}

-- each ends at `end` or before it
abbrev AllNear : ℕ → List Located → Type 0
AllNear end [] = Unit {0}
AllNear end (p ∷ ps) = (p.at + size p.it ≤ end) × AllNear end ps

near_keep : (end : ℕ) (b : Bool) (p : Located) (ps : List Located) → p.at + size p.it ≤ end → AllNear end ps → AllNear end (keep_if b p ps)
unfolding keep_if
near_keep end true p ps h a = (h, a)
near_keep end false p ps h a = a

tagged_near : (t at end : ℕ) (rs : List Rec) → at + length (encode rs) ≤ end → AllNear end (tagged t at rs)
unfolding tagged
tagged_near t at end [] h = tt
tagged_near t at end (r ∷ rs) h =
    near_keep end (eqb r.tag t) (record { at = at; it = r; behind = rs }) (tagged t (at + size r) rs) (omega (arith, h, length-encode r rs))
    (tagged_near t (at + size r) end rs (omega (arith, h, length-encode r rs)))

abbrev OnlyNear : ℕ → Only → Type 0
OnlyNear end (one p) = p.at + size p.it ≤ end
OnlyNear end (wrong a) = a ≤ end

only_near : (end : ℕ) (ps : List Located) → AllNear end ps → OnlyNear end (only_of ps)
unfolding only_of
only_near end [] a = omega arith
only_near end (p ∷ []) a = by (eqb p.it.level 0)
  where
    by : (b : Bool) → OnlyNear end (cond b (one p) (wrong p.at))
    by true = a.0
    by false = omega (arith, a.0)
only_near end (p ∷ q ∷ qs) a = by (eqb p.it.level 0)
  where
    by : (b : Bool) → cond b q.at p.at ≤ end
    by true = omega (arith, a.1.0)
    by false = omega (arith, a.0)

near_cond : (end : ℕ) (b : Bool) (x y : Option Refusal) → Near end x → Near end y → Near end (cond b x y)
near_cond end true x y h k = h
near_cond end false x y h k = k

count_near : (end p w : ℕ) (body : List ℕ) (o : Option ℕ) → Within w body o → p + length body ≤ end → Near end (count_refusal p w o)
count_near end p w body None k h = tt
count_near end p w body (Some i) k h = omega (arith, k)

mappings_near : (end : ℕ) (m : Located) (f : Option Width) → m.at + size m.it ≤ end → Near end (mappings_fault m f)
unfolding size
mappings_near end m (Some w) h =
    count_near end (body_place m) (count_bytes w) m.it.body (count_fault (count_bytes w) m.it.body (kids_of m)) (fault-within (count_bytes w) m.it.body (kids_of m)) (omega arith)
mappings_near end m None h = omega arith

both_near : (end : ℕ) (x y : Only) → OnlyNear end x → OnlyNear end y → Near end (judged x y)
unfolding judged bodies_fault
both_near end (wrong a) y h k = h
both_near end (one p) (wrong b) h k = k
both_near end (one p) (one m) h k =
    near_cond end (ltb (length p.it.body) 30) _ _ (omega arith) (mappings_near end m (form_of (length m.it.body)) k)

fault_near : (rs : List Rec) → Near (length (encode rs)) (docinfo_fault rs)
unfolding docinfo_fault only
fault_near rs =
    let e = length (encode rs) in
    both_near e (only 16 rs) (only 17 rs) (only_near e (tagged 16 0 rs) (tagged_near 16 0 e rs (omega arith)))
    (only_near e (tagged 17 0 rs) (tagged_near 17 0 e rs (omega arith)))

pub docinfo_near : (s : List ℕ) (room : ℕ) → Bytes s → place (docinfo_answer s room) ≤ limit
unfolding docinfo_answer
docinfo_near s room bs = judged_near s room bs (docinfo_fault (read_all s).recs) (fault_near (read_all s).recs)
