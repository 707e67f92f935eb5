-- The ways out of the DocInfo read, in the order of document 01. Assumes nothing.
use Rattle.std.specs.Prelude.{Err, None, Ok, Option, Some}
use Prim.Native.Nat.{ℕ, ◌+◌, ◌*◌, ◌≤◌, ◌<◌}
use native.Mathlib.Omega.{arith}
use mathlib.Core.Path.{◌≡◌, sym, ap, ◌∙◌}
use mathlib.Core.List.{List}
use lib.ListN.{length, take, drop}
use borrow.Author.Tests.{lt-ltb, le-ltb}
use Rattle.records.specs.Answers.{refusal, refused_at, Answer}
use Rattle.records.specs.Reading.{read_all}
use Rattle.records.specs.Table.{read_answer, settled}
use Rattle.records.specs.declared.fault.Fault.TheVariants as F
use Rattle.records.specs.declared.fault.Refusal.{Refusal}
use Rattle.records.specs.Records.{Rec}
use Rattle.numbers.specs.Little.{Bytes}
use Rattle.records.specs.declared.header.Record.{Record}
use Rattle.records.proofs.AnswerLaws.{judged_accepted}
use Rattle.records.proofs.HeaderLaws.{length_part}
use Rattle.docinfo.specs.Only.{Located, Only, one, wrong, only, record_of, sole_of, required_of, located_at, InStream}
use Rattle.docinfo.specs.Widths.{count_bytes, form_of}
use Rattle.docinfo.specs.Counts.{count_fault}
use Rattle.docinfo.specs.DocInfo.{kids_of, counts_fault, mappings_fault, bodies_fault, judged, docinfo_fault, docinfo_answer}
use Rattle.docinfo.specs.declared.widths.Width.{Width}
use Rattle.docinfo.proofs.OnlyLaws.{Alone, alone}
use Rattle.docinfo.proofs.CountLaws.{within-told, fault-within}

-- ---- the two bodies: 17, 17, 18

module _ (s : List ℕ) (n : ℕ) (p m : Record) (pre : (InStream s p) × (InStream s m) × (m.level ≡ 0)) where
  abbrev body_of : Record → List ℕ
  body_of x = take x.len (drop x.body.0 s)

  abbrev answer : Answer
  answer = settled n (bodies_fault (located_at s p) (located_at s m))

  length_16 : length (body_of p) ≡ p.len
  length_16 = length_part s p.body.0 p.len pre.0.1

  length_17 : length (body_of m) ≡ m.len
  length_17 = length_part s m.body.0 m.len pre.1.1

  pub bodies_16 : p.len < 30 → refused_at F.DocInfoLength p.at.0 ≡ answer
  unfolding bodies_fault
  bodies_16 h = simp (length_16, lt-ltb p.len 30 h)

  module _ (h : 30 ≤ p.len) where
    -- record 17 is judged by the form that its length has
    judged_by : (f : Option Width) → form_of m.len ≡ f → answer ≡ settled n (mappings_fault (located_at s m) f)
    unfolding bodies_fault
    judged_by f e = simp (length_16, length_17, le-ltb p.len 30 h, e)

    pub bodies_17 : None ≡ form_of m.len → refused_at F.DocInfoLength m.at.0 ≡ answer
    bodies_17 e = sym (judged_by None (sym e))

    pub bodies_18 : (w : Width) → Some w ≡ form_of m.len
        → settled n (counts_fault (count_bytes w) s m) ≡ answer
    unfolding kids_of
    bodies_18 w e =
        let next : m.level + 1 ≡ 1 = omega (arith, pre.2) in
        sym (judged_by (Some w) (sym e) ∙ simp (next, length_17, ← pre.1.0))

-- the count at fault is in the stream
pub count_inside : (s : List ℕ) (m : Record) (w i : ℕ) (body : List ℕ) (kids : List Rec) → InStream s m → body ≡ take m.len (drop m.body.0 s)
    → Some i ≡ count_fault w body kids → m.body.0 + w * i ≤ length s
count_inside s m w i body kids inside is e =
    let h = within-told w body (count_fault w body kids) i (fault-within w body kids) e in
    omega (arith, h, ap length is, length_part s m.body.0 m.len inside.1, inside.1)

-- ---- the two records: 16, 16

module _ (n : ℕ) where
  first_wrong : (x y : Only) (f : Refusal) → Err f ≡ required_of x → Err f ≡ settled n (judged x y)
  unfolding judged
  first_wrong (one p) y f e = absurd (let z : ◌≡◌ {A = ℕ} 0 1 = cc in omega arith)
  first_wrong (wrong a) y f e = let same : f ≡ refusal F.DocInfoRecord a = cc in ap Err same

  second_wrong : (p : Located) (y : Only) (f : Refusal) → Err f ≡ required_of y → Err f ≡ settled n (judged (one p) y)
  unfolding judged
  second_wrong p (one q) f e = absurd (let z : ◌≡◌ {A = ℕ} 0 1 = cc in omega arith)
  second_wrong p (wrong a) f e = let same : f ≡ refusal F.DocInfoRecord a = cc in ap Err same

required_one : (x : Only) (p : Record) → Ok p ≡ required_of x → sole_of x ≡ Ok p
required_one (one q) p e = let same : p ≡ record_of q = cc in ap Ok (sym same)
required_one (wrong a) p e = absurd (let z : ◌≡◌ {A = ℕ} 0 1 = cc in omega arith)

-- the record that is required
pub required_alone : (s : List ℕ) → Bytes s → (t : ℕ) (p : Record) → Ok p ≡ required_of (only t (read_all s).recs) → Alone s t p
required_alone s bs t p e = alone s bs t p (required_one (only t (read_all s).recs) p e)

module _ (s : List ℕ) (n : ℕ) where
  abbrev found : Answer
  found = settled n (docinfo_fault (read_all s).recs)

  pub judge_16 : (f : Refusal) → Err f ≡ required_of (only 16 (read_all s).recs) → Err f ≡ found
  unfolding docinfo_fault
  judge_16 f e = first_wrong n (only 16 (read_all s).recs) (only 17 (read_all s).recs) f e

  module _ (p : Record) (a : Alone s 16 p) where
    pub judge_17 : (f : Refusal) → Err f ≡ required_of (only 17 (read_all s).recs) → Err f ≡ found
    unfolding docinfo_fault
    judge_17 f e = rw a.is (second_wrong n (located_at s p) (only 17 (read_all s).recs) f e)

    pub judge_both : (m : Record) → Alone s 17 m → settled n (bodies_fault (located_at s p) (located_at s m)) ≡ found
    unfolding docinfo_fault judged
    judge_both m b = simp (a.is, b.is)

-- ---- behind read's numbers

module _ (s : List ℕ) (room : ℕ) where
  -- what DocInfo's rules accept read accepts too
  pub answer_accepted : (n : ℕ) → docinfo_answer s room ≡ Ok n → read_answer s room ≡ Ok n
  unfolding docinfo_answer
  answer_accepted n e = (judged_accepted (read_answer s room) (docinfo_fault (read_all s).recs) n e).0
