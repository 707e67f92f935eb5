-- A step over the records of a part of a stream: it comes nearer to the end, and what is known of the record. Assumes nothing.
use Rattle.std.specs.Prelude.{Err, None, Ok, Result, Some}
use Rattle.std.specs.Result.{result_ok}
use Prim.Native.Nat.{ℕ, ◌+◌, ◌-◌, ◌<◌}
use native.Mathlib.Omega.{arith}
use mathlib.Core.Path.{◌≡◌, refl, sym, ap, ◌∙◌}
use mathlib.Core.Bool.{Bool, true, false, cond}
use mathlib.Core.List.{List, []}
use lib.Dec.{ltb}
use borrow.Author.Tests.{ltb-true}
use lib.ListN.{length, drop}
use Rattle.numbers.specs.Little.{Bytes}
use Rattle.records.specs.Records.{size}
use Rattle.records.specs.Reading.{Stands, whole, fault, stands_at, record_at, ahead_by, ahead_of, Ahead}
use Rattle.records.specs.declared.fault.Offset.{Offset}
use Rattle.records.specs.declared.fault.Refusal.{Refusal}
use Rattle.records.specs.declared.header.Record.{Record}
use Rattle.records.proofs.ReadingLaws.{size_least}
use Rattle.paragraph.specs.declared.stream.RecordsFrom.{RecordsFrom}
use Rattle.paragraph.specs.Steps.{steps_over}
use Rattle.paragraph.specs.Stream.{records_in}
use Rattle.paragraph.proofs.StreamLaws.{Read, read_at, none_at}

module _ (s : List ℕ) (at : ℕ) where
  nearer_by : (b : Bool) (a : Stands) (r : Record) → ltb at (length s) ≡ b → cond b (ahead_by at a) None ≡ Some (Ok r) → length s - r.next.0 < length s - at
  nearer_by false a r t e = absurd (let z : ◌≡◌ {A = ℕ} 0 1 = cc in omega arith)
  nearer_by true (fault f) r t e = absurd (let z : ◌≡◌ {A = ℕ} 0 1 = cc in omega arith)
  nearer_by true (whole k) r t e =
      let q : record_at at k ≡ r = cc in
      let n : at + size k ≡ r.next.0 = ap (λ (x : Record). x.next.0) q in
      omega (arith, n, size_least k, ltb-true at (length s) t)

  pub nearer : (r : Record) → ahead_of 1023 s at ≡ Some (Ok r) → length s - r.next.0 < length s - at
  unfolding ahead_of
  nearer r e = nearer_by (ltb at (length s)) (stands_at 1023 (drop at s)) r refl e

-- what was told at a place, by its record alone
module _ (s : List ℕ) (at : ℕ) (x : Ahead) (e : x ≡ ahead_of 1023 s at) where
  pub told_end : x ≡ None → records_in (drop at s) ≡ []
  told_end q = none_at s at None (sym q ∙ e) (λ r z. absurd (let y : ◌≡◌ {A = ℕ} 0 1 = cc in omega arith))

  pub told_fault : (y : Result Record Refusal) → x ≡ Some y → result_ok y ≡ None → records_in (drop at s) ≡ []
  told_fault (Ok r) q z = absurd (let y : ◌≡◌ {A = ℕ} 0 1 = cc in omega arith)
  told_fault (Err f) q z = none_at s at (Some (Err f)) (sym q ∙ e) (λ r z. absurd (let y : ◌≡◌ {A = ℕ} 0 1 = cc in omega arith))

  pub told_record : (y : Result Record Refusal) (r : Record) → x ≡ Some y → result_ok y ≡ Some r → ahead_of 1023 s at ≡ Some (Ok r)
  told_record (Ok k) r q z = let n : k ≡ r = cc in sym e ∙ q ∙ rw n
  told_record (Err f) r q z = absurd (let y : ◌≡◌ {A = ℕ} 0 1 = cc in omega arith)

-- a step from p gave r and left q, in the stream s
pub record Stepped (s : List ℕ) (p q : RecordsFrom) (r : Record) : Type 0 where
  pub read : Read s p.at.0 r
  pub stream-is : q.stream.now ≡ s
  pub at-is : q.at.0 ≡ r.next.0

pub stepped : {s : List ℕ} {p q : RecordsFrom} {r : Record} → Bytes s → p.stream.now ≡ s → steps_over p (Some r) q → Stepped s p q r
stepped {s} {p} {q} {r} bs e w =
    record {
      read = read_at s p.at.0 bs r (ap (λ (l : List ℕ). ahead_of 1023 l p.at.0) (sym e) ∙ w.0);
      stream-is = ap (λ (x : RecordsFrom). x.stream.now) w.1 ∙ e;
      at-is = ap (λ (x : RecordsFrom). x.at.0) w.1;
    }

-- the first step over the records from a place on
module _ {s : List ℕ} {at : Offset} {p q : RecordsFrom} (e : p.stream.now ≡ s) (i : p.at ≡ at) where
  pub first_read : {r : Record} → Bytes s → steps_over p (Some r) q → Read s at.0 r
  first_read {r} bs w = let d = stepped bs e w in rw i at d.read

  pub first_none : steps_over p None q → records_in (drop at.0 s) ≡ []
  first_none w = rw (e, i) at w.0
