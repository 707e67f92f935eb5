-- The reader's statement (document 01, 'DocInfo'; document 02, A4): DocInfo is accepted, given room, exactly when it is a stream of records,
-- one of them 16 and one 17, both at level 0, 16 long enough and 17 in one of its two forms, and the counts of 17 are those of its children.
-- Assumes nothing.
use Rattle.std.specs.Prelude.{None, Ok, Option, Some}
use Prim.Native.Nat.{ℕ, ◌+◌, ◌%◌, ◌≤◌}
use native.Mathlib.Omega.{arith}
use native.Mathlib.Decide.{dec_le}
use native.Mathlib.Nat.{lt_of_not-le}
use mathlib.Core.Path.{◌≡◌, refl, ap, ◌∙◌, subst}
use mathlib.Core.Bool.{Bool, true, false, cond}
use mathlib.Core.Logic.{inl, inr}
use mathlib.Core.List.{List, ◌∷◌}
use lib.Dec.{ltb, lit<}
use lib.ListN.{length}
use borrow.Author.Tests.{ltb-false, le-ltb}
use Rattle.numbers.specs.Little.{span, Bytes}
use Rattle.records.specs.Records.{Rec, Lawful, encode}
use Rattle.records.specs.Parents.{WithParent, children}
use Rattle.records.specs.Reading.{Read, read_all}
use Rattle.records.specs.Table.{read_answer}
use Rattle.records.specs.declared.fault.Refusal.{Refusal}
use Rattle.records.proofs.ParentLaws.{children_exactly, lawful_behind}
use Rattle.records.proofs.AnswerLaws.{judged_accepted}
use Rattle.records.proofs.Reader.{IsStream, accepted_stream, stream_records, stream_accepted}
use Rattle.docinfo.specs.Only.{Located, body_place, tagged, Only, one, wrong, only_of, only}
use Rattle.docinfo.specs.Widths.{count_bytes, form_of}
use Rattle.docinfo.specs.declared.widths.Width.TheVariants as N
use Rattle.docinfo.specs.DocInfo.{kids_of, count_refusal, mappings_fault, bodies_fault, judged, docinfo_fault, docinfo_answer}
use Rattle.docinfo.specs.SoundDocInfo.{Single, MappingsHold, of_16_bits, of_32_bits, SoundDocInfo}
use Rattle.docinfo.proofs.OnlyLaws.{only_of-is, only_of_one}
use Rattle.docinfo.proofs.WidthLaws.{form_16, form_32, Formed, formed}
use Rattle.docinfo.proofs.SoundLaws.{Split, tagged_split, split_tagged, Counted, counts_hold, counts_fine}
use Rattle.docinfo.specs.declared.widths.Width.{Width}

-- ---- the only record

module _ (t : ℕ) (rs : List Rec) where
  abbrev single_of : (p : Located) → Split t rs p → p.it.level ≡ 0 → Single t rs
  single_of p k l =
      record {
        before = k.before;
        it = p.it;
        behind = p.behind;
        whole = k.whole;
        tag_is = k.tag_is;
        level_is = l;
        none_before = k.none_before;
        none_behind = k.none_behind;
      }

  only_split : (p : Located) → only t rs ≡ one p → Split t rs p × (p.it.level ≡ 0)
  unfolding only
  only_split p e = let k = only_of-is (tagged t 0 rs) p e in (tagged_split t 0 rs p k.0, k.1)

  -- where it stands: its place is the length of the stream before it
  abbrev placed : Single t rs → Located
  placed k = record { at = 0 + length (encode k.before); it = k.it; behind = k.behind }

  split_only : (k : Single t rs) → only t rs ≡ one (placed k)
  unfolding only
  split_only k =
      ap (λ (l : List Rec). only_of (tagged t 0 l)) k.whole
      ∙ ap only_of (split_tagged t 0 k.before k.it k.behind k.none_before k.tag_is k.none_behind)
      ∙ only_of_one (placed k) k.level_is

-- the children that are counted are the records whose parent is record 17, whatever stands before it
pub children_of_17 : (rs before : List Rec) → Lawful 0 rs → (m : Single 17 rs)
    → WithParent m.it before (m.it ∷ before) m.behind (children 1 m.behind)
children_of_17 rs before l m =
    let lawful = lawful_behind 0 m.before m.it m.behind (subst (Lawful 0) m.whole l) in
    (children_exactly m.it before m.behind (children 1 m.behind) lawful).0
    (ap (λ (n : ℕ). children n m.behind) (omega (arith, m.level_is)))

-- ---- the bodies

pub record BodiesHold (p m : Located) : Type 0 where
  pub properties-long : 30 ≤ length p.it.body
  pub mappings_hold : MappingsHold m.it.body (children 1 m.behind)

-- a test that is passed
passed : (b : Bool) (r : Refusal) (y : Option Refusal) → cond b (Some r) y ≡ None → (b ≡ false) × (y ≡ None)
passed true r y e = absurd (let z : ◌≡◌ {A = ℕ} 0 1 = cc in omega arith)
passed false r y e = (refl, e)

-- either form has fifteen counts, and the sixteenth or nothing behind them
module _ (body : List ℕ) where
  counted_16 : length body ≡ 32 → Counted 2 32768 body
  unfolding span
  counted_16 l = record { sign_is = refl; signed = lit< tt; fifteen = omega (arith, l); sixteenth = inl (omega (arith, l)) }

  counted_32 : 60 ≤ length body → length body % 4 ≡ 0 → Counted 4 2147483648 body
  unfolding span
  counted_32 l e =
      record {
        sign_is = refl;
        signed = lit< tt;
        fifteen = l;
        sixteenth =
            elim (dec_le 64 (length body)) [
              | yes g ↦ inl g
              | no g ↦ inr (omega (arith, l, e, lt_of_not-le g))
            ];
      }

module _ (m : Located) where
  abbrev kids : List Rec
  kids = children 1 m.behind

  counts_none : (w : ℕ) (o : Option ℕ) → count_refusal (body_place m) w o ≡ None → o ≡ None
  counts_none w None e = refl
  counts_none w (Some i) e = absurd (let z : ◌≡◌ {A = ℕ} 0 1 = cc in omega arith)

  mappings_hold : (f : Option Width) → Formed (length m.it.body) f → mappings_fault m f ≡ None → MappingsHold m.it.body kids
  unfolding kids_of count_bytes
  mappings_hold None k e = absurd (let z : ◌≡◌ {A = ℕ} 0 1 = cc in omega arith)
  mappings_hold (Some N.Bits16) k e = of_16_bits k (counts_hold kids (counted_16 m.it.body k) (counts_none _ _ e))
  mappings_hold (Some N.Bits32) k e = of_32_bits k.0 k.1 (counts_hold kids (counted_32 m.it.body k.0 k.1) (counts_none _ _ e))

  mappings_fine : MappingsHold m.it.body kids → mappings_fault m (form_of (length m.it.body)) ≡ None
  unfolding kids_of count_bytes
  mappings_fine (of_16_bits l h) = simp (form_16 (length m.it.body) l, counts_fine kids (counted_16 m.it.body l) h)
  mappings_fine (of_32_bits l e h) = simp (form_32 (length m.it.body) l e, counts_fine kids (counted_32 m.it.body l e) h)

module _ (p m : Located) where
  bodies_hold : bodies_fault p m ≡ None → BodiesHold p m
  unfolding bodies_fault
  bodies_hold e =
      let long = passed (ltb (length p.it.body) 30) _ _ e in
      let n = length m.it.body in
      record { properties-long = ltb-false _ _ long.0; mappings_hold = mappings_hold m (form_of n) (formed n) long.1 }

  bodies_fine : BodiesHold p m → bodies_fault p m ≡ None
  unfolding bodies_fault
  bodies_fine h = simp (le-ltb (length p.it.body) 30 h.properties-long) (mappings_fine m h.mappings_hold)

-- ---- DocInfo's records

module _ (rs : List Rec) where
  sound_by : (x y : Only) → only 16 rs ≡ x → only 17 rs ≡ y → judged x y ≡ None → SoundDocInfo rs
  unfolding judged
  sound_by (wrong a) y q r e = absurd (let z : ◌≡◌ {A = ℕ} 0 1 = cc in omega arith)
  sound_by (one p) (wrong b) q r e = absurd (let z : ◌≡◌ {A = ℕ} 0 1 = cc in omega arith)
  sound_by (one p) (one m) q r e =
      let i = only_split 16 rs p q in
      let j = only_split 17 rs m r in
      let h = bodies_hold p m e in
      record {
        properties = single_of 16 rs p i.0 i.1;
        mappings = single_of 17 rs m j.0 j.1;
        properties-long = h.properties-long;
        mappings_hold = h.mappings_hold;
      }

  -- no fault is found exactly where DocInfo is sound
  pub faultless_sound : docinfo_fault rs ≡ None → SoundDocInfo rs
  unfolding docinfo_fault
  faultless_sound e = sound_by (only 16 rs) (only 17 rs) refl refl e

  pub sound_faultless : SoundDocInfo rs → docinfo_fault rs ≡ None
  unfolding docinfo_fault judged
  sound_faultless k =
      simp (split_only 16 rs k.properties, split_only 17 rs k.mappings)
      (bodies_fine _ _ (record { properties-long = k.properties-long; mappings_hold = k.mappings_hold }))

-- ---- the stream

-- s is DocInfo, of the records rs, n of them, within the limit and the room
pub record IsDocInfo (s : List ℕ) (room n : ℕ) (rs : List Rec) : Type 0 where
  pub stream : IsStream s room n rs
  pub sound : SoundDocInfo rs

-- what is accepted is DocInfo, of the records that are entered
pub accepted_docinfo : (s : List ℕ) (room n : ℕ) → Bytes s → docinfo_answer s room ≡ Ok n → IsDocInfo s room n (read_all s).recs
unfolding docinfo_answer
accepted_docinfo s room n bs e =
    let k = judged_accepted (read_answer s room) (docinfo_fault (read_all s).recs) n e in
    record { stream = accepted_stream s room n bs k.0; sound = faultless_sound (read_all s).recs k.1 }

-- DocInfo is accepted
pub docinfo_accepted : (s : List ℕ) (room n : ℕ) (rs : List Rec) → IsDocInfo s room n rs → docinfo_answer s room ≡ Ok n
unfolding docinfo_answer
docinfo_accepted s room n rs k =
    let same : (read_all s).recs ≡ rs = ap (λ (x : Read). x.recs) (stream_records s rs k.stream.encodes) in
    simp (stream_accepted s room n rs k.stream, same, sound_faultless rs k.sound)
