-- The reader's statement for one paragraph: no rule is broken exactly when document 01's sentences hold. Assumes nothing.
use Rattle.std.specs.Prelude.{None, Ok, Option, Some}
use Prim.Native.Nat.{ℕ, ◌*◌, ◌≤◌, ◌<◌}
use native.Mathlib.Omega.{arith}
use mathlib.Core.Path.{◌≡◌, refl, sym, ap}
use mathlib.Core.Logic.{◌↔◌}
use mathlib.Core.Bool.{false, not}
use mathlib.Core.List.{List}
use lib.Dec.{ltb, eqb}
use lib.ListN.{length}
use borrow.Author.Tests.{ltb-false, le-ltb, eqb-true, eq-eqb, not-false}
use Rattle.records.specs.Records.{Rec}
use Rattle.text.specs.Units.{units}
use Rattle.text.specs.Asked.{SoundText}
use Rattle.text.specs.Walk.{tokens, extended_count}
use Rattle.text.proofs.SoundLaws.{sound_exactly}
use Rattle.paragraph.specs.View.{View, child, controls}
use Rattle.entries.specs.Entries.{shapes_fault, marks_fault}
use Rattle.paragraph.specs.Rules.{counts_of, length_of, lengths_of, lacks, absent, unwanted, misfits, length_fault, unit_broken, bytes_in, entry_fault, codes_in, field_fault, control_fault, body_fault, parts_fault, head_fault, paragraph_fault}
use Rattle.paragraph.specs.declared.finding.Counts.{Counts}
use Rattle.acceptance.specs.Keeps.{Keeps}
use Rattle.acceptance.proofs.ChainLaws.{both_false, neither, some_none, guard_says, guard_passes, at_says, at_passes, else_says, else_passes, lacks_says, lacks_not, unwanted_says, unwanted_not, misfits_says, misfits_not, shapes_say, shapes_not, marks_say, marks_not, fields_say, fields_not}

-- ---- the text

text_says : (o : Option (List ℕ)) → unit_broken o ≡ None → (b : List ℕ) → o ≡ Some b → SoundText (units b)
text_says None e b q = absurd (some_none (sym q))
text_says (Some c) e b q = let same : c ≡ b = cc in rw (← same) ((sound_exactly (units c)).0 e)

text_not : (o : Option (List ℕ)) → ((b : List ℕ) → o ≡ Some b → SoundText (units b)) → unit_broken o ≡ None
text_not None h = refl
text_not (Some b) h = (sound_exactly (units b)).1 (h b refl)

-- ---- the parts of the chain

module _ (c : Counts) (own : List Rec) where
  abbrev text : Option (List ℕ)
  text = child 67 own

  abbrev shapes : Option (List ℕ)
  shapes = child 68 own

  abbrev layout : Option (List ℕ)
  layout = child 69 own

  abbrev marks : Option (List ℕ)
  marks = child 70 own

  -- 10
  pub record Present : Type 0 where
    pub text-lacks : lacks 2 c.count (length_of text) ≡ false
    pub shapes_lack : lacks 0 c.shapes (length_of shapes) ≡ false
    pub layout-lacks : lacks 1 c.lines (length_of layout) ≡ false
    pub marks_lack : lacks 1 c.marks (length_of marks) ≡ false

  present_says : absent c (lengths_of own) ≡ false → Present
  unfolding absent lengths_of
  present_says e =
      let a = both_false (lacks 2 c.count (length_of text)) _ e in
      let b = both_false (lacks 0 c.shapes (length_of shapes)) _ a.1 in
      let d = both_false (lacks 1 c.lines (length_of layout)) _ b.1 in
      record { text-lacks = a.0; shapes_lack = b.0; layout-lacks = d.0; marks_lack = d.1 }

  present_not : Present → absent c (lengths_of own) ≡ false
  unfolding absent lengths_of
  present_not k = neither k.text-lacks (neither k.shapes_lack (neither k.layout-lacks k.marks_lack))

  -- 11
  pub record Fitting : Type 0 where
    pub text-fits : misfits c.count (2 * c.count) (length_of text) ≡ false
    pub shapes_fit : misfits c.shapes (8 * c.shapes) (length_of shapes) ≡ false
    pub layout-fits : unwanted c.lines (length_of layout) ≡ false
    pub marks_fit : misfits c.marks (12 * c.marks) (length_of marks) ≡ false

  fitting_says : length_fault c (lengths_of own) ≡ Ok tt → Fitting
  unfolding length_fault lengths_of
  fitting_says e =
      let a = guard_says (misfits c.count (2 * c.count) (length_of text)) _ _ _ e in
      let b = guard_says (misfits c.shapes (8 * c.shapes) (length_of shapes)) _ _ _ a.1 in
      let d = guard_says (unwanted c.lines (length_of layout)) _ _ _ b.1 in
      let f = guard_says (misfits c.marks (12 * c.marks) (length_of marks)) _ _ _ d.1 in
      record { text-fits = a.0; shapes_fit = b.0; layout-fits = d.0; marks_fit = f.0 }

  fitting_not : Fitting → length_fault c (lengths_of own) ≡ Ok tt
  unfolding length_fault lengths_of
  fitting_not k = guard_passes _ k.text-fits (guard_passes _ k.shapes_fit (guard_passes _ k.layout-fits (guard_passes _ k.marks_fit refl)))

  -- 12 to 15
  pub record Sounding : Type 0 where
    pub text_whole : unit_broken text ≡ None
    pub shapes_none : shapes_fault c.count (bytes_in shapes) ≡ None
    pub marks_none : marks_fault c.count (bytes_in marks) ≡ None
    pub equal : extended_count (units (bytes_in text)) ≡ length (controls own)
    pub fields : field_fault 0 (codes_in (tokens (units (bytes_in text)))) (controls own) ≡ Ok tt

  sounding_says : body_fault c.count text (bytes_in shapes) (bytes_in marks) (controls own) ≡ Ok tt → Sounding
  unfolding body_fault entry_fault control_fault
  sounding_says e =
      let a = at_says (unit_broken text) _ _ _ e in
      let b = else_says (entry_fault c.count (bytes_in shapes) (bytes_in marks)) _ a.1 in
      let d = at_says (shapes_fault c.count (bytes_in shapes)) _ _ _ b.0 in
      let f = at_says (marks_fault c.count (bytes_in marks)) _ _ _ d.1 in
      let g = guard_says (not (eqb (extended_count (units (bytes_in text))) (length (controls own)))) _ _ _ b.1 in
      record {
        text_whole = a.0;
        shapes_none = d.0;
        marks_none = f.0;
        equal = eqb-true (extended_count (units (bytes_in text))) (length (controls own)) (not-false (eqb (extended_count (units (bytes_in text))) (length (controls own))) g.0);
        fields = g.1;
      }

  sounding_not : Sounding → body_fault c.count text (bytes_in shapes) (bytes_in marks) (controls own) ≡ Ok tt
  unfolding body_fault entry_fault control_fault
  sounding_not k =
      at_passes _ _ k.text_whole
      (else_passes (at_passes _ _ k.shapes_none (at_passes _ _ k.marks_none refl))
      (guard_passes _ (ap not (eq-eqb (extended_count (units (bytes_in text))) (length (controls own)) k.equal)) k.fields))

-- ---- the whole

pub record Chain (v : View) : Type 0 where
  pub long : 22 ≤ length v.head
  pub present : Present (counts_of v.head) v.own
  pub fitting : Fitting (counts_of v.head) v.own
  pub sounding : Sounding (counts_of v.head) v.own

chain_says : (v : View) → paragraph_fault v ≡ Ok tt → Chain v
unfolding paragraph_fault head_fault parts_fault
chain_says v e =
    let c = counts_of v.head in
    let a = guard_says (ltb (length v.head) 22) _ _ _ e in
    let b = guard_says (absent c (lengths_of v.own)) _ _ _ a.1 in
    let d = else_says (length_fault c (lengths_of v.own)) _ b.1 in
    record {
      long = ltb-false (length v.head) 22 a.0;
      present = present_says c v.own b.0;
      fitting = fitting_says c v.own d.0;
      sounding = sounding_says c v.own d.1;
    }

chain_not : (v : View) → Chain v → paragraph_fault v ≡ Ok tt
unfolding paragraph_fault head_fault parts_fault
chain_not v k =
    let c = counts_of v.head in
    guard_passes _ (le-ltb (length v.head) 22 k.long)
    (guard_passes _ (present_not c v.own k.present)
    (else_passes (fitting_not c v.own k.fitting) (sounding_not c v.own k.sounding)))

below_one : (n : ℕ) → n < 1 → n ≡ 0
below_one n h = omega arith

keeps_says : (v : View) → Chain v → Keeps v
keeps_says v k =
    let c = counts_of v.head in
    let s = shapes_say c.count (bytes_in (child 68 v.own)) k.sounding.shapes_none in
    record {
      header-long = k.long;
      text-absent = lacks_says 2 c.count (child 67 v.own) k.present.text-lacks;
      text_sized = misfits_says 2 c.count (child 67 v.own) k.fitting.text-fits;
      text_sound = text_says (child 67 v.own) k.sounding.text_whole;
      shapes_there = λ e. let z = lacks_says 0 c.shapes (child 68 v.own) k.present.shapes_lack e in omega arith;
      shapes_sized = misfits_says 8 c.shapes (child 68 v.own) k.fitting.shapes_fit;
      shapes_first = s.first;
      shapes_rise = s.rise;
      shapes-below = s.below;
      layout-absent = λ e. below_one c.lines (lacks_says 1 c.lines (child 69 v.own) k.present.layout-lacks e);
      layout_there = unwanted_says c.lines (child 69 v.own) k.fitting.layout-fits;
      marks-absent = λ e. below_one c.marks (lacks_says 1 c.marks (child 70 v.own) k.present.marks_lack e);
      marks_sized = misfits_says 12 c.marks (child 70 v.own) k.fitting.marks_fit;
      marks-within = marks_say c.count (bytes_in (child 70 v.own)) k.sounding.marks_none;
      controls_equal = k.sounding.equal;
      fields-long = fields_say 0 (codes_in (tokens (units (bytes_in (child 67 v.own))))) (controls v.own) k.sounding.fields;
    }

zero_below : (n : ℕ) → n ≡ 0 → n < 1
zero_below n e = omega arith

keeps_not : (v : View) → Keeps v → Chain v
keeps_not v k =
    let c = counts_of v.head in
    record {
      long = k.header-long;
      present = record {
        text-lacks = lacks_not 2 c.count (child 67 v.own) k.text-absent;
        shapes_lack = lacks_not 0 c.shapes (child 68 v.own) (λ e. absurd (k.shapes_there e));
        layout-lacks = lacks_not 1 c.lines (child 69 v.own) (λ e. zero_below c.lines (k.layout-absent e));
        marks_lack = lacks_not 1 c.marks (child 70 v.own) (λ e. zero_below c.marks (k.marks-absent e));
      };
      fitting = record {
        text-fits = misfits_not 2 c.count (child 67 v.own) k.text_sized;
        shapes_fit = misfits_not 8 c.shapes (child 68 v.own) k.shapes_sized;
        layout-fits = unwanted_not c.lines (child 69 v.own) k.layout_there;
        marks_fit = misfits_not 12 c.marks (child 70 v.own) k.marks_sized;
      };
      sounding = record {
        text_whole = text_not (child 67 v.own) k.text_sound;
        shapes_none = shapes_not c.count (bytes_in (child 68 v.own)) (record { first = k.shapes_first; rise = k.shapes_rise; below = k.shapes-below });
        marks_none = marks_not c.count (bytes_in (child 70 v.own)) k.marks-within;
        equal = k.controls_equal;
        fields = fields_not 0 (codes_in (tokens (units (bytes_in (child 67 v.own))))) (controls v.own) k.fields-long;
      };
    }

-- no rule of a paragraph is broken exactly when it keeps document 01's sentences
pub keeps_exactly : (v : View) → (paragraph_fault v ≡ Ok tt) ↔ Keeps v
keeps_exactly v = (λ e. keeps_says v (chain_says v e), λ k. chain_not v (keeps_not v k))
