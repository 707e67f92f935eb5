-- What a fill changes: the field's text is the value, and bit 15 is set. What it leaves: every other record. Assumes nothing.
use Rattle.std.specs.Prelude.{None, Option, Some, slice_get}
use mathlib.Core.Path.{◌≡◌, refl, sym, ap, ◌∙◌}
use mathlib.Core.Logic.{inl, inr}
use Prim.Native.Nat.{ℕ, zero, suc, ◌+◌, ◌*◌, ◌/◌, ◌%◌, ◌≤◌, ◌<◌}
use native.Mathlib.Omega.{arith}
use mathlib.Core.Bool.{true, false}
use mathlib.Core.List.{List, [], ◌∷◌}
use lib.Dec.{eqb}
use lib.ListN.{length, get_or, take, drop}
use lib.Seq.{take_at}
use borrow.Author.Tests.{eq-eqb, ne_eqb}
use Rattle.numbers.specs.Little.{little, bytes_of, span, Bytes}
use Rattle.numbers.proofs.LittleLaws.{little-bytes_of, little_small, bytes_drop}
use Rattle.records.specs.Records.{Rec}
use Rattle.text.specs.Units.{units}
use Rattle.text.proofs.Cases.{eq_or}
use Rattle.text.proofs.UnitLaws.{length-units}
use Rattle.paragraph.specs.View.{side, View, view, child, controls}
use Rattle.paragraph.specs.Rules.{bytes_in}
use Rattle.paragraph.specs.declared.view.Side.TheVariants as S
use Rattle.filling.specs.Replacing.{replaced}
use Rattle.filling.specs.Fields.{Field, fields}
use Rattle.filling.specs.Editing.{Change, Edit, with_body, put, count_control, edit_view, edit_behind, edit_here, edit_at, modified, as_child}
use Rattle.filling.specs.Filling.{unit_count, with_bit15, altered, filling}
use Rattle.filling.proofs.AnswerLaws.{bit_set, bit_clear}
use Rattle.filling.proofs.PackingLaws.{over_here}
use Rattle.filling.proofs.EditLaws.{is_beyond, is_owned, is_passed, which, behind_beyond, behind_owned, behind_passed, behind_nil, at_here, at_next, at_past, at_nil}
use Rattle.filling.proofs.FieldLaws.{Among, a_to_b}
use Rattle.filling.proofs.SearchLaws.{altered_at, controls-filled, units-filled}

-- ---- the text of the filled field

-- the elements from a on, as many as were put in, are those
pub replaced_part {ℓ} : {A : Type ℓ} (a b : ℕ) (w l : List A) → a ≤ length l → take (length w) (drop a (replaced a b w l)) ≡ w
replaced_part a b w l h = ap (take (length w)) (over_here a b w l h) ∙ take_at w (drop b l) (length w) refl

-- field text of the filled field is the value: from a on, v units
pub value_there : (f : Field) (w : List ℕ) (v : View) → length w ≡ 2 * unit_count w → Among f (fields v) → f.plain ≡ true
    → take (unit_count w) (drop f.a (units (bytes_in (child 67 (edit_view (filling f w) v).own)))) ≡ units w
unfolding fields
value_there f w v e m p =
    let us = units (bytes_in (child 67 v.own)) in
    let h = a_to_b us f m p in
    ap (λ (x : List ℕ). take (unit_count w) (drop f.a x)) (units-filled f w e v m p)
    ∙ ap (λ (n : ℕ). take n (drop f.a (replaced f.a f.b (units w) us))) (sym (length-units w))
    ∙ replaced_part f.a f.b (units w) us (omega (arith, h.0, h.1))

-- ---- bit 15

bit_there : (p : ℕ) → with_bit15 p / 32768 % 2 ≡ 1
bit_there p = elim (eq_or (p / 32768 % 2) 1) [
  | inl h ↦ rw (bit_set p h) h
  | inr h ↦ rw (bit_clear p h) (omega arith)
]

bit_fits : (p : ℕ) → p < 4294967296 → with_bit15 p < 4294967296
bit_fits p l = elim (eq_or (p / 32768 % 2) 1) [
  | inl h ↦ rw (bit_set p h) l
  | inr h ↦ rw (bit_clear p h) (omega arith)
]

-- the properties of a filled field's control header have bit 15
pub altered_bit : (b : List ℕ) → Bytes b → 8 ≤ length b → little 4 (drop 4 (altered b)) / 32768 % 2 ≡ 1
unfolding altered span
altered_bit b h n =
    let x = with_bit15 (little 4 (drop 4 b)) in
    let s = little_small 4 (drop 4 b) (bytes_drop 4 b h) in
    rw (over_here 4 8 (bytes_of 4 x) b (omega arith), little-bytes_of 4 x (drop 8 b) (bit_fits (little 4 (drop 4 b)) s))
    (bit_there (little 4 (drop 4 b)))

-- ---- every other record is copied

-- the records behind a header but its owned children at level n
unfoldable pub besides : ℕ → List Rec → List Rec
besides n [] = []
besides n (r ∷ rs) = elim (side n r.tag r.level) [ S.Beyond ↦ r ∷ rs | S.Owned ↦ besides n rs | S.Passed ↦ r ∷ besides n rs ]

-- the records of a section but the header of paragraph i and its owned children
unfoldable pub outside : ℕ → List Rec → List Rec
outside i [] = []
outside zero (r ∷ rs) = elim (eqb r.tag 66) [ true ↦ besides (suc r.level) rs | false ↦ r ∷ outside zero rs ]
outside (suc i) (r ∷ rs) = elim (eqb r.tag 66) [ true ↦ r ∷ outside i rs | false ↦ r ∷ outside (suc i) rs ]

module _ (n : ℕ) (r : Rec) (rs : List Rec) where
  besides_beyond : side n r.tag r.level ≡ S.Beyond → besides n (r ∷ rs) ≡ r ∷ rs
  unfolding besides
  besides_beyond e = rw (e, besides)

  besides_owned : side n r.tag r.level ≡ S.Owned → besides n (r ∷ rs) ≡ besides n rs
  unfolding besides
  besides_owned e = rw (e, besides)

  besides_passed : side n r.tag r.level ≡ S.Passed → besides n (r ∷ rs) ≡ r ∷ besides n rs
  unfolding besides
  besides_passed e = rw (e, besides)

besides_put : (n : ℕ) (o : Option (List ℕ)) (r : Rec) (x : List Rec) → side n r.tag r.level ≡ S.Owned → besides n (put o r x) ≡ besides n x
unfolding put with_body
besides_put n None r x e = refl
besides_put n (Some b) r x e = besides_owned n (with_body b r) x e

besides_behind : (n j : ℕ) (f : Change) (rs : List Rec) → besides n (edit_behind n j f rs) ≡ besides n rs
besides_behind n j f [] = ap (besides n) (behind_nil n j f)
besides_behind n j f (r ∷ rs) = elim (which n r.tag r.level) [
  | is_beyond l e ↦ ap (besides n) (behind_beyond n j f r rs e)
  | is_owned l t e ↦
      ap (besides n) (behind_owned n j f r rs e) ∙ besides_put n (f (as_child j r)) r (edit_behind n (count_control r.tag j) f rs) e
      ∙ besides_behind n (count_control r.tag j) f rs ∙ sym (besides_owned n r rs e)
  | is_passed l e ↦
      ap (besides n) (behind_passed n j f r rs e) ∙ besides_passed n r (edit_behind n j f rs) e
      ∙ ap (λ (x : List Rec). r ∷ x) (besides_behind n j f rs) ∙ sym (besides_passed n r rs e)
]

module _ (r : Rec) (rs : List Rec) where
  outside_here : r.tag ≡ 66 → outside zero (r ∷ rs) ≡ besides (suc r.level) rs
  unfolding outside
  outside_here h = rw (eq-eqb r.tag 66 h, outside)

  outside_next : (i : ℕ) → r.tag ≡ 66 → outside (suc i) (r ∷ rs) ≡ r ∷ outside i rs
  unfolding outside
  outside_next i h = rw (eq-eqb r.tag 66 h, outside)

  outside_past : (i : ℕ) → (r.tag ≡ 66 → ⊥) → outside i (r ∷ rs) ≡ r ∷ outside i rs
  unfolding outside
  outside_past zero h = rw (ne_eqb r.tag 66 h, outside)
  outside_past (suc i) h = rw (ne_eqb r.tag 66 h, outside)

pub outside_kept : (i : ℕ) (e : Edit) (rs : List Rec) → outside i (edit_at i e rs) ≡ outside i rs
unfolding with_body edit_here
outside_kept i e [] = ap (outside i) (at_nil i e)
outside_kept zero e (r ∷ rs) = elim (eq_or r.tag 66) [
  | inl t ↦ ap (outside zero) (at_here e r rs t) ∙ here t
  | inr t ↦ ap (outside zero) (at_past e r rs zero t) ∙ outside_past r (edit_at zero e rs) zero t ∙ ap (λ (x : List Rec). r ∷ x) (outside_kept zero e rs) ∙ sym (outside_past r rs zero t)
]
  where
    here : r.tag ≡ 66 → outside zero (edit_here e r rs) ≡ outside zero (r ∷ rs)
    here t = outside_here (with_body (e.head (view r rs)) r) (edit_behind (suc r.level) 0 e.child rs) t
        ∙ besides_behind (suc r.level) 0 e.child rs ∙ sym (outside_here r rs t)
outside_kept (suc i) e (r ∷ rs) = elim (eq_or r.tag 66) [
  | inl t ↦ ap (outside (suc i)) (at_next e r rs i t) ∙ outside_next r (edit_at i e rs) i t ∙ ap (λ (x : List Rec). r ∷ x) (outside_kept i e rs) ∙ sym (outside_next r rs i t)
  | inr t ↦ ap (outside (suc i)) (at_past e r rs (suc i) t) ∙ outside_past r (edit_at (suc i) e rs) (suc i) t ∙ ap (λ (x : List Rec). r ∷ x) (outside_kept (suc i) e rs) ∙ sym (outside_past r rs (suc i) t)
]

-- ---- a view that a fill leaves as it is

pub unchanged_view : (n : ℕ) (g : View → View) (vs : List View) (v : View) → modified n g vs ≡ vs → slice_get vs n ≡ Some v → g v ≡ v
unfolding modified
unchanged_view n g [] v e q = absurd (let z : ◌≡◌ {A = ℕ} 0 1 = cc in omega arith)
unchanged_view zero g (u ∷ vs) v e q = let s : u ≡ v = cc in rw (← s) (cc)
unchanged_view (suc n) g (u ∷ vs) v e q = unchanged_view n g vs v (cc) q

altered_here : (n j i : ℕ) (bs : List (List ℕ)) → j + i ≡ n → i < length bs → get_or (altered_at n j bs) i [] ≡ altered (get_or bs i [])
unfolding altered_at
altered_here n j i [] e h = absurd (omega arith)
altered_here n j zero (b ∷ bs) e h = rw (eq-eqb j n (omega arith))
altered_here n j (suc i) (b ∷ bs) e h = altered_here n (suc j) i bs (omega arith) (omega arith)

pub unchanged_bit : (f : Field) (w : List ℕ) (v : View) → edit_view (filling f w) v ≡ v → f.ordinal < length (controls v.own)
    → get_or (controls v.own) f.ordinal [] ≡ altered (get_or (controls v.own) f.ordinal [])
unfolding edit_view filling
unchanged_bit f w v e h =
    ap (λ (x : View). get_or (controls x.own) f.ordinal []) (sym e)
    ∙ ap (λ (bs : List (List ℕ)). get_or bs f.ordinal []) (controls-filled f w 0 v.own)
    ∙ altered_here f.ordinal 0 f.ordinal (controls v.own) (omega arith) h
