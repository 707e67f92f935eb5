-- A paragraph judged from the stream is judged by its view. Assumes nothing.
use Rattle.std.specs.Prelude.{Err, None, Ok, Option, Result, Some}
use Prim.Native.Nat.{ℕ, suc, ◌+◌}
use native.Mathlib.Omega.{arith}
use mathlib.Core.Path.{◌≡◌, refl, sym, ap, ap₂, ◌∙◌}
use mathlib.Core.Bool.{not}
use mathlib.Core.List.{List, [], ◌∷◌}
use lib.ListN.{length, drop}
use lib.Dec.{ltb, eqb}
use Rattle.numbers.specs.Little.{Bytes}
use Rattle.records.specs.Records.{Rec}
use Rattle.records.specs.declared.fault.Fault.TheVariants as F
use Rattle.records.specs.declared.header.Record.{Record}
use Rattle.text.specs.Units.{units}
use Rattle.text.specs.Walk.{Token, tokens, walk, is_extended, extended_in, extended_count, fault, fault_at, text_fault}
use Rattle.text.specs.Answers.{position, verdict, judged, Judged}
use Rattle.text.specs.declared.Class.{Class}
use Rattle.text.specs.declared.Class.TheVariants.{Character, Inline, Extended}
use Rattle.text.specs.declared.Position.{Position}
use Rattle.text.specs.declared.Standing.{Standing}
use Rattle.text.specs.declared.Standing.TheVariants.{Ordinary, Control}
use Rattle.paragraph.specs.View.{kids, view, child, controls}
use Rattle.paragraph.specs.Stream.{records_in}
use Rattle.paragraph.specs.Rules.{guard, guard_at, or_else, of_header, unit_of, lengths_of, absent, length_fault, unit_broken, bytes_in, entry_fault, owner_of, code_before, codes_in, field_fault, control_fault, body_fault, counts_of, parts_fault, head_fault, paragraph_fault, first_fault, Finding, breach}
use Rattle.paragraph.specs.Places.{found_in, body_of, body_found, parts_in, lengths_found, text_judged, text_told, child_in, Found}
use Rattle.paragraph.specs.declared.children.Parts.{Parts}
use Rattle.paragraph.specs.declared.finding.Breach.{Breach}
use Rattle.paragraph.specs.declared.finding.Counts.{Counts}
use Rattle.paragraph.specs.declared.finding.Which.TheVariants as W
use Rattle.paragraph.proofs.StreamLaws.{Read}
use Rattle.paragraph.proofs.BodyLaws.{child_found, length_found_lem}
use Rattle.judgement.proofs.RuleLaws.{at_taken, at_left}

-- ---- 14 and 15

codes_step : (w : Standing) (cs : List ℕ) → length (code_before (owner_of w) cs) ≡ is_extended w + length cs
codes_step (Ordinary u) cs = omega arith
codes_step (Control c) cs = by c.class refl
  where
    by : (k : Class) → c.class ≡ k → length (code_before (owner_of (Control c)) cs) ≡ is_extended (Control c) + length cs
    by Character e = rw e (omega arith)
    by Inline e = rw e (omega arith)
    by Extended e = rw e (omega arith)

pub codes_length : (ts : List Token) → length (codes_in ts) ≡ extended_in ts
unfolding codes_in extended_in
codes_length [] = refl
codes_length (t ∷ ts) = codes_step t.what (codes_in ts) ∙ ap (λ (n : ℕ). is_extended t.what + n) (codes_length ts)

no_codes : (cs : List ℕ) (bs : List (List ℕ)) → length cs ≡ 0 → Ok tt ≡ field_fault 0 cs bs
unfolding field_fault
no_codes [] bs e = refl
no_codes (c ∷ cs) bs e = absurd (omega arith)

no_fields : (us : List ℕ) (bs : List (List ℕ)) → extended_count us ≡ 0 → Ok tt ≡ field_fault 0 (codes_in (tokens us)) bs
unfolding extended_count
no_fields us bs z = no_codes (codes_in (tokens us)) bs (codes_length (tokens us) ∙ z)

-- ---- 12

sound_fault : (us : List ℕ) → text_fault us ≡ None → fault_at us 0 ≡ None
unfolding text_fault
sound_fault [] e = absurd (let z : ◌≡◌ {A = ℕ} 0 1 = cc in omega arith)
sound_fault (u ∷ us) e = e

pub record SoundBody (text : Option (List ℕ)) (b : List ℕ) (extended : ℕ) : Type 0 where
  pub unbroken : unit_broken text ≡ None
  pub fault_none : fault_at (units b) 0 ≡ None
  pub extended_is : extended ≡ extended_count (units b)

sound_verdict : (us : List ℕ) (o : Option ℕ) (n m : ℕ) → verdict o n ≡ Ok m → (o ≡ None) × (m ≡ n)
sound_verdict us None n m e = (refl, cc)
sound_verdict us (Some p) n m e = absurd (let z : ◌≡◌ {A = ℕ} 0 1 = cc in omega arith)

broken_verdict : (o : Option ℕ) (n : ℕ) (p : Position) → verdict o n ≡ Err p → o ≡ Some p.0
broken_verdict None n p e = absurd (let z : ◌≡◌ {A = ℕ} 0 1 = cc in omega arith)
broken_verdict (Some q) n p e = let z : position q ≡ p = cc in ap (λ (x : Position). Some x.0) z

module _ (s : List ℕ) where
  sound_by : (f : Found) (b : List ℕ) (m : ℕ) → b ≡ bytes_in (body_found s f) → text_judged f b ≡ Ok m → SoundBody (body_found s f) b m
  unfolding judged units extended_count tokens walk extended_in fault
  sound_by (Some p) b m e q =
      let v = sound_verdict (units b) (text_fault (units b)) (extended_count (units b)) m q in
      record {
        unbroken = ap (λ (l : List ℕ). text_fault (units l)) (sym e) ∙ v.0;
        fault_none = sound_fault (units b) v.0;
        extended_is = v.1;
      }
  sound_by None b m e q =
      let z : m ≡ 0 = cc in
      record { unbroken = refl; fault_none = rw e; extended_is = z ∙ rw e }

  broken_by : (f : Found) (b : List ℕ) (p : Position) → b ≡ bytes_in (body_found s f) → text_judged f b ≡ Err p → unit_broken (body_found s f) ≡ Some p.0
  unfolding judged
  broken_by (Some p) b x e q =
      ap (λ (l : List ℕ). text_fault (units l)) (sym e) ∙ broken_verdict (text_fault (units b)) (extended_count (units b)) x q
  broken_by None b x e q = absurd (let z : ◌≡◌ {A = ℕ} 0 1 = cc in omega arith)

  told_ok : (j : Judged) (m : ℕ) → text_told j ≡ Ok m → j ≡ Ok m
  told_ok (Ok k) m q = let z : k ≡ m = cc in ap Ok z
  told_ok (Err p) m q = absurd (let z : ◌≡◌ {A = ℕ} 0 1 = cc in omega arith)

  told_by : (o : Option ℕ) (j : Judged) (w : Breach) (rest : Finding) → text_told j ≡ Err w → ((p : Position) → j ≡ Err p → o ≡ Some p.0)
      → Err w ≡ guard_at o F.TextRule unit_of rest
  told_by o (Ok k) w rest q h = absurd (let z : ◌≡◌ {A = ℕ} 0 1 = cc in omega arith)
  told_by o (Err p) w rest q h = let z : breach F.TextRule (W.Unit p) ≡ w = cc in ap Err (sym z) ∙ at_taken F.TextRule unit_of rest p.0 (h p refl)

  module _ (f : Found) {b : List ℕ} {x : Result ℕ Breach} (e : b ≡ bytes_in (body_found s f)) (j : x ≡ text_told (text_judged f b)) where
    pub text_sound : (m : ℕ) → x ≡ Ok m → SoundBody (body_found s f) b m
    text_sound m q = sound_by f b m e (told_ok (text_judged f b) m (sym j ∙ q))

    pub text_breaks : (w : Breach) (rest : Finding) → x ≡ Err w → Err w ≡ guard_at (unit_broken (body_found s f)) F.TextRule unit_of rest
    text_breaks w rest q = told_by (unit_broken (body_found s f)) (text_judged f b) w rest (sym j ∙ q) (λ p h. broken_by f b p e h)

    pub text_passes : {rest y : Finding} {m : ℕ} → x ≡ Ok m → y ≡ rest → y ≡ guard_at (unit_broken (body_found s f)) F.TextRule unit_of rest
    text_passes {m = m} q z = at_left F.TextRule unit_of (text_sound m q).unbroken z

    -- so many extended controls against k control headers
    pub unmatched_is : (k m : ℕ) → x ≡ Ok m → not (eqb m k) ≡ not (eqb (extended_count (units b)) k)
    unmatched_is k m q = ap (λ (n : ℕ). not (eqb n k)) (text_sound m q).extended_is

    pub fields_none : (bs : List (List ℕ)) (m : ℕ) → x ≡ Ok m → m ≡ 0 → Ok tt ≡ field_fault 0 (codes_in (tokens (units b))) bs
    fields_none bs m q z = no_fields (units b) bs (sym (text_sound m q).extended_is ∙ z)

-- ---- 10 to 15, by the records behind the header

module _ (s : List ℕ) (bytes : Bytes s) (from n : ℕ) (p : Parts) (is : p ≡ parts_in n from (records_in (drop from s))) where
  abbrev pub own : List Rec
  own = kids n (records_in (drop from s))

  lengths_are : lengths_found p ≡ lengths_of own
  unfolding parts_in lengths_of
  lengths_are =
      ap lengths_found is
      ∙ simp (length_found_lem s bytes n 67 from, length_found_lem s bytes n 68 from, length_found_lem s bytes n 69 from, length_found_lem s bytes n 70 from)

  text-is : body_found s p.text ≡ child 67 own
  unfolding parts_in
  text-is = ap (λ (q : Parts). body_found s q.text) is ∙ child_found s bytes n 67 from

  shapes_are : body_found s p.shapes ≡ child 68 own
  unfolding parts_in
  shapes_are = ap (λ (q : Parts). body_found s q.shapes) is ∙ child_found s bytes n 68 from

  marks_are : body_found s p.marks ≡ child 70 own
  unfolding parts_in
  marks_are = ap (λ (q : Parts). body_found s q.marks) is ∙ child_found s bytes n 70 from

  pub controls_are : p.controls ≡ length (controls own)
  unfolding parts_in
  controls_are = ap (λ (q : Parts). q.controls) is

  -- 8 to 15 in order, by what was found
  module _ (head : List ℕ) (c : Counts) (ec : c ≡ counts_of head) (b : List ℕ) (eb : b ≡ bytes_in (body_found s p.text)) where
    pub judged-is :
        guard (ltb (length head) 22) (of_header F.ParagraphHeaderShort)
        (guard (absent c (lengths_found p)) (of_header F.RecordAbsent)
        (or_else (length_fault c (lengths_found p))
        (guard_at (unit_broken (body_found s p.text)) F.TextRule unit_of
        (or_else (entry_fault c.count (bytes_in (body_found s p.shapes)) (bytes_in (body_found s p.marks)))
        (guard (not (eqb (extended_count (units b)) p.controls)) (of_header F.ControlsUnmatched) (field_fault 0 (codes_in (tokens (units b))) (controls own)))))))
        ≡ head_fault head own
    unfolding head_fault parts_fault body_fault control_fault
    judged-is = rw (ec, eb, lengths_are, text-is, shapes_are, marks_are, controls_are)

-- ---- the paragraph whose header stands at a place

module _ (s : List ℕ) (at : ℕ) {r : Record} (d : Read s at r) where
  next_level : r.level + 1 ≡ suc d.rec.level
  next_level = omega (arith, d.level_is)

  pub front-judged : (y : Finding) → y ≡ head_fault (body_of s r) (kids (r.level + 1) (records_in (drop r.next.0 s)))
      → y ≡ first_fault (records_in (drop at s))
  unfolding first_fault paragraph_fault view
  front-judged y e =
      e
      ∙ ap₂ (λ (b : List ℕ) (m : ℕ). head_fault b (kids m (records_in (drop r.next.0 s)))) d.body_is next_level
      ∙ ap first_fault (sym d.records)

  pub front-child : (tag nth : ℕ) (x : Found) → x ≡ found_in (r.level + 1) tag nth r.next.0 (records_in (drop r.next.0 s))
      → x ≡ child_in at (records_in (drop at s)) tag nth
  unfolding child_in
  front-child tag nth x e =
      e
      ∙ ap₂ (λ (m a : ℕ). found_in m tag nth a (records_in (drop r.next.0 s))) next_level d.next-is
      ∙ ap (λ (l : List Rec). child_in at l tag nth) (sym d.records)

pub child_none : (s : List ℕ) (at tag nth : ℕ) → records_in (drop at s) ≡ [] → None ≡ child_in at (records_in (drop at s)) tag nth
unfolding child_in
child_none s at tag nth e = rw e
