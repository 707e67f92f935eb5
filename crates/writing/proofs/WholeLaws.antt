-- What is written is the sheet: over a stream that is its records, the bytes are those of the records edited. Assumes nothing.
use Rattle.std.specs.Prelude.{None, Option, Some}
use Prim.Native.Nat.{ℕ, suc, ◌+◌, ◌-◌, ◌≤◌, ◌<◌}
use native.Mathlib.Omega.{arith}
use mathlib.Core.Path.{◌≡◌, refl, sym, ap, ap₂, ◌∙◌}
use mathlib.Core.Bool.{Bool, true, false}
use mathlib.Core.List.{List, [], ◌∷◌, ◌++◌, map, append_assoc}
use lib.Dec.{eqb}
use borrow.Author.Tests.{eqb-true, eqb-false, lt-ltb, le-ltb}
use lib.ListN.{length, take, drop}
use lib.Seq.{take_at, drop_at, take-add, drop-drop}
use Rattle.numbers.specs.Little.{Bytes}
use Rattle.records.specs.Kinds as kind
use Rattle.records.specs.Records.{Rec, encode, encode_one, size}
use Rattle.records.proofs.ReadingLaws.{length-encode_one}
use Rattle.paragraph.specs.View.{view, side}
use Rattle.paragraph.specs.Stream.{records_in}
use Rattle.paragraph.specs.declared.view.Side.TheVariants as S
use Rattle.paragraph.proofs.StreamLaws.{stood_of}
use Rattle.filling.specs.Fields.{Field, fields, with_id}
use Rattle.filling.specs.Editing.{Edit, with_body, put, count_control, edit_behind, edit_here, edit_at, as_child}
use Rattle.filling.specs.Filling.{new_body, filling, filled, sheet}
use Rattle.filling.specs.Search.{Hit, hit_of, hits}
use Rattle.filling.proofs.EditLaws.{which, is_beyond, is_owned, is_passed, behind_beyond, behind_owned, behind_passed, behind_nil, at_here, at_next, at_past}
use Rattle.filling.proofs.SearchLaws.{hits_here, hits_past}
use Rattle.changing.specs.Child.{changed_bytes, child_bytes}
use Rattle.writing.specs.Sheet.{field_of, below_bytes, controls_passed, behind_bytes, paragraph_bytes, sheet_bytes}
use Rattle.writing.proofs.SheetLaws.{paragraph_long}

-- ---- behind a paragraph header

encode-put : (o : Option (List ℕ)) (r : Rec) (rs : List Rec) → encode (put o r rs) ≡ changed_bytes o r ++ encode rs
unfolding encode put changed_bytes
encode-put None r rs = refl
encode-put (Some b) r rs = refl

encode-next : (r : Rec) (rs : List Rec) → encode (r ∷ rs) ≡ encode_one r ++ encode rs
unfolding encode
encode-next r rs = refl

-- behind a record the stream is that of the records behind it
behind-is : (r : Rec) (rs : List Rec) (s : List ℕ) (at : ℕ) → encode (r ∷ rs) ≡ drop at s → encode rs ≡ drop (at + size r) s
behind-is r rs s at e =
    sym (drop_at (encode_one r) (encode rs) (size r) (length-encode_one r)) ∙ ap (drop (size r)) (sym (encode-next r rs) ∙ e) ∙ drop-drop (size r) at s

before_is : (r : Rec) (rs : List Rec) (s : List ℕ) (at : ℕ) → encode (r ∷ rs) ≡ drop at s → take (at + size r) s ≡ take at s ++ encode_one r
before_is r rs s at e =
    take-add at (size r) s
    ∙ ap (λ (l : List ℕ). take at s ++ l) (ap (take (size r)) (sym e ∙ encode-next r rs) ∙ take_at (encode_one r) (encode rs) (size r) (length-encode_one r))

module _ (f : Field) (value : List ℕ) (n : ℕ) (s : List ℕ) where
  over : (j at : ℕ) (r : Rec) (rs : List Rec) → r.level < n → behind_bytes f value n j s at (r ∷ rs) ≡ drop at s
  unfolding behind_bytes
  over j at r rs h = rw (lt-ltb r.level n h)

  owns : (j at : ℕ) (r : Rec) (rs : List Rec) → n ≤ r.level → side n r.tag r.level ≡ S.Owned
      → behind_bytes f value n j s at (r ∷ rs) ≡ child_bytes f value j r ++ behind_bytes f value n (count_control r.tag j) s (at + size r) rs
  unfolding behind_bytes below_bytes controls_passed
  owns j at r rs h e = rw (le-ltb r.level n h, e, below_bytes, controls_passed)

  passes : (j at : ℕ) (r : Rec) (rs : List Rec) → n ≤ r.level → side n r.tag r.level ≡ S.Passed
      → behind_bytes f value n j s at (r ∷ rs) ≡ encode_one r ++ behind_bytes f value n j s (at + size r) rs
  unfolding behind_bytes below_bytes controls_passed
  passes j at r rs h e = rw (le-ltb r.level n h, e, below_bytes, controls_passed)

  put-bytes : (j : ℕ) (r : Rec) (rs : List Rec) → child_bytes f value j r ++ encode rs ≡ encode (put (new_body f value (as_child j r)) r rs)
  unfolding child_bytes
  put-bytes j r rs = sym (encode-put (new_body f value (as_child j r)) r rs)

  pub behind_whole : (j at : ℕ) (rs : List Rec) → encode rs ≡ drop at s → behind_bytes f value n j s at rs ≡ encode (edit_behind n j (new_body f value) rs)
  unfolding behind_bytes
  behind_whole j at [] e = sym e ∙ ap encode (sym (behind_nil n j (new_body f value)))
  behind_whole j at (r ∷ rs) e = elim (which n r.tag r.level) [
    | is_beyond h q ↦ over j at r rs h ∙ sym e ∙ ap encode (sym (behind_beyond n j (new_body f value) r rs q))
    | is_owned h k q ↦
        owns j at r rs (omega arith) q
        ∙ ap (λ (l : List ℕ). child_bytes f value j r ++ l) (behind_whole (count_control r.tag j) (at + size r) rs (behind-is r rs s at e))
        ∙ put-bytes j r (edit_behind n (count_control r.tag j) (new_body f value) rs)
        ∙ ap encode (sym (behind_owned n j (new_body f value) r rs q))
    | is_passed h q ↦
        passes j at r rs h q
        ∙ ap (λ (l : List ℕ). encode_one r ++ l) (behind_whole j (at + size r) rs (behind-is r rs s at e))
        ∙ sym (encode-next r (edit_behind n j (new_body f value) rs))
        ∙ ap encode (sym (behind_passed n j (new_body f value) r rs q))
  ]

-- ---- from the paragraph header on

paragraph_whole : (f : Field) (value s : List ℕ) (header : ℕ) (r : Rec) (rs : List Rec) → encode (r ∷ rs) ≡ drop header s → 22 ≤ length r.body
    → paragraph_bytes f value s header (r ∷ rs) ≡ encode (edit_here (filling f value) r rs)
unfolding edit_here encode filling
paragraph_whole f value s header r rs e h =
    paragraph_long f value s header r rs h
    ∙ ap (λ (l : List ℕ). encode_one (with_body ((filling f value).head (view r rs)) r) ++ l)
    (behind_whole f value (suc r.level) s 0 (header + size r) rs (behind-is r rs s header e))

-- ---- where the first field with an id stands

pub record Where (s : List ℕ) (rs : List Rec) (i at paragraph header : ℕ) : Type 0 where
  pub rec : Rec
  pub behind : List Rec
  pub later : i ≤ paragraph
  pub records : records_in (drop header s) ≡ rec ∷ behind
  pub bytes : encode (rec ∷ behind) ≡ drop header s
  pub edit : (e : Edit) → take header s ++ encode (edit_here e rec behind) ≡ take at s ++ encode (edit_at (paragraph - i) e rs)

module _ (s : List ℕ) (bs : Bytes s) where
  where_here : (at i : ℕ) (r : Rec) (rs : List Rec) → records_in (drop at s) ≡ r ∷ rs → encode (r ∷ rs) ≡ drop at s → r.tag ≡ kind.paragraph_header → Where s (r ∷ rs) i at i at
  where_here at i r rs e w t =
      let z : i - i ≡ 0 = omega arith in
      record {
        rec = r;
        behind = rs;
        later = omega arith;
        records = e;
        bytes = w;
        edit = λ d. ap (λ (l : List Rec). take at s ++ encode l) (sym (ap (λ (k : ℕ). edit_at k d (r ∷ rs)) z ∙ at_here d r rs t));
      }

  -- what is found behind a record that stays
  where_behind : (at i j p q : ℕ) (r : Rec) (rs : List Rec) → encode (r ∷ rs) ≡ drop at s → i ≤ j
      → ((e : Edit) → edit_at (p - i) e (r ∷ rs) ≡ r ∷ edit_at (p - j) e rs) → Where s rs j (at + size r) p q → Where s (r ∷ rs) i at p q
  where_behind at i j p q r rs w h g k =
      record {
        rec = k.rec;
        behind = k.behind;
        later = omega (arith, k.later);
        records = k.records;
        bytes = k.bytes;
        edit = λ d.
            k.edit d
            ∙ ap (λ (l : List ℕ). l ++ encode (edit_at (p - j) d rs)) (before_is r rs s at w)
            ∙ append_assoc (take at s) (encode_one r) (encode (edit_at (p - j) d rs))
            ∙ ap (λ (l : List ℕ). take at s ++ l) (sym (encode-next r (edit_at (p - j) d rs)) ∙ ap encode (sym (g d)));
      }

  pub first_hit : (id i at : ℕ) (rs : List Rec) (h : Hit) (hs : List Hit) → records_in (drop at s) ≡ rs → encode rs ≡ drop at s
      → hits id i at rs ≡ h ∷ hs → Where s rs i at h.paragraph h.header
  unfolding hits hit_of
  first_hit id i at [] h hs e w q = absurd (let z : ◌≡◌ {A = ℕ} 0 1 = cc in omega arith)
  first_hit id i at (r ∷ rs) h hs e w q =
      by (λ m g. first_hit id m (at + size r) rs h hs (stood_of s at bs r rs e).1 (behind-is r rs s at w) g) (eqb r.tag kind.paragraph_header) refl
    where
      Rest : Type 0
      Rest = (m : ℕ) → hits id m (at + size r) rs ≡ h ∷ hs → Where s rs m (at + size r) h.paragraph h.header

      here : Rest → (t : r.tag ≡ kind.paragraph_header) (fs : List Field) → map (hit_of i at r rs) fs ++ hits id (suc i) (at + size r) rs ≡ h ∷ hs
          → Where s (r ∷ rs) i at h.paragraph h.header
      here rest t [] g =
          let k = rest (suc i) g in
          where_behind at i (suc i) h.paragraph h.header r rs w (omega arith)
          (λ d.
          let one : h.paragraph - i ≡ suc (h.paragraph - suc i) = omega (arith, k.later) in
          ap (λ (m : ℕ). edit_at m d (r ∷ rs)) one ∙ at_next d r rs (h.paragraph - suc i) t)
          k
      here rest t (f ∷ fs) g =
          let o : hit_of i at r rs f ≡ h = cc in
          let a : i ≡ h.paragraph = ap (λ (x : Hit). x.paragraph) o in
          let b : at ≡ h.header = ap (λ (x : Hit). x.header) o in
          rw (← a, ← b) (where_here at i r rs e w t)

      by : Rest → (b : Bool) → eqb r.tag kind.paragraph_header ≡ b → Where s (r ∷ rs) i at h.paragraph h.header
      by rest true t =
          let u = eqb-true r.tag kind.paragraph_header t in
          here rest u (with_id id (view r rs) (fields (view r rs))) (sym (hits_here id i at r rs u) ∙ q)
      by rest false t =
          let u = eqb-false r.tag kind.paragraph_header t in
          where_behind at i i h.paragraph h.header r rs w (omega arith) (λ d. at_past d r rs (h.paragraph - i) u)
          (rest i (sym (hits_past id i at r rs u) ∙ q))

-- ---- the sheet

same-filling : (f : Field) (value : List ℕ) → filling (field_of f.ordinal f.a f.b) value ≡ filling f value
unfolding filling new_body
same-filling f value = refl

-- what `write` puts for a hit is the sheet of that hit
pub sheet-is : (s : List ℕ) → Bytes s → encode (records_in s) ≡ s → (id : ℕ) (h : Hit) (hs : List Hit) → hits id 0 0 (records_in s) ≡ h ∷ hs → (value : List ℕ)
    → ((r : Rec) (rs : List Rec) → records_in (drop h.header s) ≡ r ∷ rs → 22 ≤ length r.body)
    → sheet_bytes (field_of h.field.ordinal h.field.a h.field.b) value s h.header ≡ sheet h value (records_in s)
unfolding sheet_bytes sheet filled
sheet-is s bs w id h hs q value long =
    let k = first_hit s bs id 0 0 (records_in s) h hs refl w q in
    let f = field_of h.field.ordinal h.field.a h.field.b in
    let z : h.paragraph - 0 ≡ h.paragraph = omega arith in
    ap (λ (l : List ℕ). take h.header s ++ l)
    (ap (paragraph_bytes f value s h.header) k.records
    ∙ paragraph_whole f value s h.header k.rec k.behind k.bytes (long k.rec k.behind k.records))
    ∙ k.edit (filling f value)
    ∙ ap₂ (λ (m : ℕ) (e : Edit). encode (edit_at m e (records_in s))) z (same-filling h.field value)
