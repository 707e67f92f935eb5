-- Check never gives 7 (document 01: 'the same numbers but 7'), nor a number above 15. Assumes nothing.
use Rattle.std.specs.Prelude.{Err, None, Ok, Option, Some}
use Rattle.paragraph.specs.Rules.{Finding, breach}
use Prim.Native.Nat.{ℕ, zero, suc, ◌+◌, ◌-◌, ◌≤◌}
use native.Mathlib.Omega.{arith}
use mathlib.Core.Path.{◌≡◌, refl}
use mathlib.Core.Bool.{Bool, true, false, cond, ◌&&◌}
use mathlib.Core.List.{List, [], ◌∷◌}
use lib.Dec.{ltb, leb}
use lib.ListN.{length}
use borrow.Author.Tests.{le-leb, leb-true}
use Rattle.records.specs.Records.{Rec, limit, size, encode}
use Rattle.records.specs.Answers.{number_of, number, refused_at, Answer}
use Rattle.records.specs.Reading.{Stands, whole, fault, stands_at, onto, read_from, read_all}
use Rattle.records.specs.Table.{room_for, stopped, answer_of, read_answer, settled, after_read}
use Rattle.records.specs.declared.fault.Fault.{Fault}
use Rattle.records.specs.declared.fault.Fault.TheVariants as F
use Rattle.records.specs.declared.fault.Refusal.{Refusal}
use Rattle.records.specs.Stopping.{AtFront, cut, long_cut, small, past, long_past, reserved, deep}
use Rattle.records.proofs.ReadingLaws.{at_front}
use Rattle.paragraph.specs.View.{view}
use Rattle.paragraph.specs.declared.finding.Which.{Which}
use Rattle.paragraph.proofs.NearLaws.{Names, short, absent, length_wrong, unit, entry, unmatched, header-short, NamesIf}
use Rattle.section.specs.Parents.{header, stray_from}
use Rattle.section.specs.Section.{refusal_or, finding_of, paragraphs_fault, stray_or, section_fault, section_answer, check_answer}
use Rattle.section.proofs.NearLaws.{finding_names}
use Rattle.acceptance.proofs.ChainLaws.{both_true}
use Rattle.acceptance.proofs.SectionReader.{room_enough}

-- ---- the numbers of reading are 1 to 6

early : (cap : ℕ) (s : List ℕ) (f : Refusal) → AtFront cap s f → number_of f.fault ≤ 6
early cap s f (cut h) = omega arith
early cap s f (long_cut z h) = omega arith
early cap s f (small z k h) = omega arith
early cap s f (past z h) = omega arith
early cap s f (long_past z h) = omega arith
early cap s f (reserved h) = omega arith
early cap s f (deep h) = omega arith

abbrev EarlyStop : Option Refusal → Type 0
EarlyStop None = Unit {0}
EarlyStop (Some f) = number_of f.fault ≤ 6

early_stop : (cap k : ℕ) (s : List ℕ) → EarlyStop (read_from cap k s).stop
unfolding read_from onto
early_stop cap k [] = tt
early_stop cap (suc k) (x ∷ s) = early_stop cap k s
early_stop cap zero (x ∷ s) = by (stands_at cap (x ∷ s)) refl (λ c k. early_stop c k s)
  where
    by : (a : Stands) → stands_at cap (x ∷ s) ≡ a → ((c k : ℕ) → EarlyStop (read_from c k s).stop) → EarlyStop (read_from cap 0 (x ∷ s)).stop
    by (fault f) e rest = rw (e, read_from) (early cap (x ∷ s) f (at_front cap (x ∷ s) f e))
    by (whole r) e rest = rw (e, read_from) (rest (r.level + 1) (size r - 1))

-- ---- the numbers of the section's rules are 8 to 15

abbrev LateFault : Fault → Type 0
LateFault f = (leb 8 (number_of f) && leb (number_of f) 15) ≡ true

late : (own : List Rec) (f : Fault) (w : Which) → Names own f w → LateFault f
late own f w short = refl
late own f w absent = refl
late own f w (length_wrong tag) = refl
late own f w (unit p h) = refl
late own f w (entry tag k i h) = refl
late own f w unmatched = refl
late own f w (header-short nth) = refl

abbrev LateRefusal : Option Refusal → Type 0
LateRefusal None = Unit {0}
LateRefusal (Some r) = LateFault r.fault

late_bounds : (f : Fault) → LateFault f → (8 ≤ number_of f) × (number_of f ≤ 15)
late_bounds f h = let k = both_true _ _ h in (leb-true 8 (number_of f) k.0, leb-true (number_of f) 15 k.1)

late_or : (at : ℕ) (rs own : List Rec) (x : Finding) (rest : Option Refusal) → NamesIf own x → LateRefusal rest → LateRefusal (refusal_or at rs x rest)
late_or at rs own (Ok tt) rest h k = k
late_or at rs own (Err b) rest h k = late own b.fault b.which h

late_paragraphs : (at : ℕ) (rs : List Rec) → LateRefusal (paragraphs_fault at rs)
unfolding paragraphs_fault
late_paragraphs at [] = tt
late_paragraphs at (r ∷ rs) =
    late_or at (r ∷ rs) (view r rs).own (finding_of r.tag (r ∷ rs)) (paragraphs_fault (at + size r) rs) (finding_names r rs (header r.tag))
    (late_paragraphs (at + size r) rs)

late_stray : (o : Option ℕ) (rest : Option Refusal) → LateRefusal rest → LateRefusal (stray_or o rest)
late_stray None rest k = k
late_stray (Some p) rest k = refl

late_section : (rs : List Rec) → LateRefusal (section_fault rs)
unfolding section_fault
late_section rs = late_stray (stray_from 0 [] rs) (paragraphs_fault 0 rs) (late_paragraphs 0 rs)

-- ---- check

abbrev Ours : Answer → Type 0
Ours a = (number a ≡ 7 → ⊥) × (number a ≤ 15)

settled_ours : (n : ℕ) (o : Option Refusal) → LateRefusal o → Ours (settled n o)
settled_ours n None h = ((λ e. omega arith), omega arith)
settled_ours n (Some r) h = let k = late_bounds r.fault h in ((λ e. omega (arith, k.0)), k.1)

abbrev EarlyAnswer : Answer → Type 0
EarlyAnswer (Ok n) = Unit {0}
EarlyAnswer (Err r) = number_of r.fault ≤ 6

ruled_ours : (rs : List Rec) (a : Answer) → EarlyAnswer a → Ours (after_read a (section_fault rs))
ruled_ours rs (Ok n) h = settled_ours n (section_fault rs) (late_section rs)
ruled_ours rs (Err r) h = ((λ e. omega arith), omega (arith, h))

early_room : (s : List ℕ) → EarlyAnswer (room_for (length s) (read_all s).recs)
unfolding room_for
early_room s = rw (le-leb (length (read_all s).recs) (length s) (room_enough s)) tt

early_answer : (s : List ℕ) → (o : Option Refusal) → EarlyStop o → EarlyAnswer (stopped o (length (encode (read_all s).recs)) (room_for (length s) (read_all s).recs))
unfolding stopped
early_answer s None h = early_room s
early_answer s (Some f) h = h

early_limit : (b : Bool) (a : Answer) → EarlyAnswer a → EarlyAnswer (cond b (refused_at F.StreamTooLong 0) a)
early_limit true a h = omega arith
early_limit false a h = h

-- where there is room for as many records as bytes, read gives 1 to 6 only
pub read_early : (s : List ℕ) → EarlyAnswer (read_answer s (length s))
unfolding read_answer answer_of read_all
read_early s = early_limit (ltb limit (length s)) (answer_of (length s) (read_all s)) (early_answer s (read_all s).stop (early_stop 0 0 s))

ours : (s : List ℕ) → Ours (check_answer s)
unfolding check_answer section_answer
ours s = ruled_ours (read_all s).recs (read_answer s (length s)) (read_early s)

pub never_seven : (s : List ℕ) → number (check_answer s) ≡ 7 → ⊥
never_seven s = (ours s).0

pub below_sixteen : (s : List ℕ) → number (check_answer s) ≤ 15
below_sixteen s = (ours s).1
