-- A section is its own sheet only when it was filled so already: the field's text is the value, the count is the same, and bit 15 is set
-- (document 01, 'What acceptance of a promise means'). Assumes nothing.
use Rattle.std.specs.Prelude.{Some, slice_get}
use mathlib.Core.Path.{◌≡◌, refl, sym, ap, ◌∙◌}
use mathlib.Core.Logic.{inl, inr}
use Prim.Native.Nat.{ℕ, zero, suc, ◌+◌, ◌-◌, ◌/◌, ◌%◌, ◌<◌}
use native.Mathlib.Omega.{arith}
use mathlib.Core.Bool.{true}
use mathlib.Core.List.{List, [], ◌∷◌}
use lib.ListN.{length, get_or, take, drop}
use Rattle.numbers.specs.Little.{little, Bytes}
use Rattle.records.specs.Kinds as kind
use Rattle.records.specs.Records.{Rec}
use Rattle.text.specs.Units.{units}
use Rattle.text.specs.Walk.{walk, tokens, extended_count}
use Rattle.text.proofs.Cases.{eq_or}
use Rattle.text.proofs.UnitLaws.{length-units}
use Rattle.paragraph.specs.View.{View, views, child, controls}
use Rattle.paragraph.specs.Rules.{bytes_in, codes_in}
use Rattle.paragraph.proofs.BodyLaws.{controls_here, controls_other}
use Rattle.judgement.proofs.JudgeLaws.{codes_length}
use Rattle.acceptance.specs.Keeps.{Keeps}
use Rattle.filling.specs.Replacing.{replaced}
use Rattle.filling.specs.Fields.{Field, fields}
use Rattle.filling.specs.Editing.{edit_view}
use Rattle.filling.specs.Search.{Hit}
use Rattle.filling.specs.Filling.{unit_count, filling, filled}
use Rattle.filling.specs.Accepted.{AllBodies, Accepted}
use Rattle.filling.proofs.ReplacingLaws.{length-replaced}
use Rattle.filling.proofs.EditLaws.{views-edit_at}
use Rattle.filling.proofs.FieldLaws.{Among, a_to_b}
use Rattle.filling.proofs.FillLaws.{takes-filling}
use Rattle.filling.proofs.SearchLaws.{units-filled}
use Rattle.filling.proofs.OrderLaws.{Done, done_met}
use Rattle.filling.proofs.AcceptedLaws.{layout-leaves, keeps, all_view}
use Rattle.filling.proofs.ChangeLaws.{value_there, altered_bit, unchanged_view, unchanged_bit}
use Rattle.filling.proofs.LengthLaws.{owns, field_long}

-- ---- a field's control header is there, and its bytes are bytes

below_length : (i : ℕ) (l : List ℕ) (x : ℕ) → slice_get l i ≡ Some x → i < length l
below_length i [] x e = absurd (let z : ◌≡◌ {A = ℕ} 0 1 = cc in omega arith)
below_length zero (y ∷ l) x e = omega arith
below_length (suc i) (y ∷ l) x e = omega (arith, below_length i l x e)

there : (i : ℕ) (l : List (List ℕ)) → i < length l → slice_get l i ≡ Some (get_or l i [])
there i [] h = absurd (omega arith)
there zero (b ∷ l) h = refl
there (suc i) (b ∷ l) h = there i l (omega arith)

-- the nth extended control owns the nth control header, and there are as many
header_there : (v : View) (f : Field) → Keeps v → Among f (fields v) → f.ordinal < length (controls v.own)
unfolding fields tokens extended_count
header_there v f k m =
    let us = units (bytes_in (child kind.text v.own)) in
    let o = owns 0 0 0 us f m in
    omega (arith, o.ordinal, below_length o.nth (codes_in (walk 0 0 us)) 3 o.code, codes_length (walk 0 0 us), k.controls_equal)

controls-bytes : (k : List Rec) (i : ℕ) → AllBodies Bytes k → i < length (controls k) → Bytes (get_or (controls k) i [])
controls-bytes [] i a h = absurd (unfold controls in omega arith)
controls-bytes (r ∷ k) i a h = elim (eq_or r.tag kind.control_header) [
  | inl t ↦ rw (controls_here r k t) (at i (rw (controls_here r k t) at h) (λ j. controls-bytes k j a.1))
  | inr t ↦ rw (controls_other r k t) (controls-bytes k i a.1 (rw (controls_other r k t) at h))
]
  where
    at : (i : ℕ) → i < length (r.body ∷ controls k) → ((j : ℕ) → j < length (controls k) → Bytes (get_or (controls k) j []))
        → Bytes (get_or (r.body ∷ controls k) i [])
    at zero h rest = a.0
    at (suc i) h rest = rest i (omega arith)

-- ---- the theorem

-- what document 01 names of a sheet, of a field f in its paragraph before the fill
pub record FilledAlready (f : Field) (value : List ℕ) (v : View) : Type 0 where
  -- the text from a to b is the value
  pub text : take (f.b - f.a) (drop f.a (units (bytes_in (child kind.text v.own)))) ≡ units value
  -- the count changes by v - (b - a), which is nothing
  pub count : unit_count value ≡ f.b - f.a
  -- bit 15 of the field's properties is set
  pub bit : little 4 (drop 4 (get_or (controls v.own) f.ordinal [])) / 32768 % 2 ≡ 1

-- of a view that the fill leaves as it is
unchanged : (f : Field) (w : List ℕ) (v : View) → length w ≡ unit_count w + unit_count w → Keeps v → AllBodies Bytes v.own → Among f (fields v)
    → f.plain ≡ true → edit_view (filling f w) v ≡ v → FilledAlready f w v
unfolding fields
unchanged f w v e k bs m p u =
    let us = units (bytes_in (child kind.text v.own)) in
    let ab = a_to_b us f m p in
    let same : replaced f.a f.b (units w) us ≡ us
    = sym (units-filled f w (omega (arith, e)) v m p) ∙ ap (λ (x : View). units (bytes_in (child kind.text x.own))) u in
    let count : unit_count w ≡ f.b - f.a
    = omega (arith, length-units w, ap length same, length-replaced f.a f.b (units w) us ab.0 (omega (arith, ab.1)), ab.0, ab.1) in
    let h = header_there v f k m in
    let b = get_or (controls v.own) f.ordinal [] in
    record {
      text =
          ap (λ (n : ℕ). take n (drop f.a us)) (sym count)
          ∙ ap (λ (x : View). take (unit_count w) (drop f.a (units (bytes_in (child kind.text x.own))))) (sym u)
          ∙ value_there f w v (omega (arith, e)) m p;
      count = count;
      bit =
          ap (λ (x : List ℕ). little 4 (drop 4 x) / 32768 % 2) (unchanged_bit f w v u h)
          ∙ altered_bit b (controls-bytes v.own f.ordinal bs h)
          (omega (arith, field_long v f k m b (there f.ordinal (controls v.own) h)));
    }

-- a filler that hands back the template is wrong, but where the template was filled so already
pub template_sheet : (id : ℕ) (w : List ℕ) (rs : List Rec) (h : Hit) → Accepted rs → Done id w rs h → filled h w rs ≡ rs
    → (v : View) → slice_get (views rs) h.paragraph ≡ Some v → FilledAlready h.field w v
unfolding filled
template_sheet id w rs h a d e v q =
    let m = done_met id w rs h d in
    let s : m.v ≡ v = (let x = m.at in cc) in
    let g : Among h.field (fields v) = rw s at m.among in
    let u : edit_view (filling h.field w) v ≡ v
    = unchanged_view h.paragraph (edit_view (filling h.field w)) (views rs) v
    (sym (views-edit_at (filling h.field w) (takes-filling h.field w) h.paragraph rs (layout-leaves rs a)) ∙ ap views e) q in
    unchanged h.field w v (omega (arith, d.value.even)) (keeps rs a h.paragraph v q) (all_view Bytes h.paragraph rs v a.bytes q).1 g d.plain u
