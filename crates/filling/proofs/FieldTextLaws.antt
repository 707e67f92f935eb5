-- Field text over bytes: the place that a search reports is where the text's body stands in the stream, and field text of a filled field
-- reports the value. Assumes nothing.
use Rattle.std.specs.Prelude.{Ok, Some, slice_get}
use mathlib.Core.Path.{◌≡◌, refl, sym, ap, ◌∙◌}
use mathlib.Core.Logic.{inl, inr}
use Prim.Native.Nat.{ℕ, zero, suc, ◌+◌, ◌*◌, ◌-◌, ◌≤◌}
use native.Mathlib.Omega.{arith}
use mathlib.Core.List.{List, [], ◌∷◌, ◌++◌, map, append_assoc}
use lib.ListN.{length, take, drop, length-append, length-take}
use lib.Seq.{drop_at, take_at, drop-append-add}
use mathlib.Core.Bool.{Bool, true, cond}
use borrow.Author.Tests.{eq-eqb, ne_eqb, le-leb, le-ltb}
use Rattle.records.specs.Records.{Rec, lead_of, header_of, encode_one, encode, size}
use Rattle.records.proofs.ReadingLaws.{length-header_of, length-encode_one}
use Rattle.text.proofs.Cases.{eq_or}
use Rattle.paragraph.specs.View.{kids, View, view, views, child}
use Rattle.paragraph.specs.Places.{found_in}
use Rattle.paragraph.proofs.FindLaws.{sought_passed, sought_owned, sought_other, found_passed, found_here}
use Rattle.paragraph.proofs.BodyLaws.{kids_beyond, kids_owned, kids_passed, child_here, child_other}
use Rattle.filling.specs.Fields.{Field, fields, with_id}
use Rattle.filling.specs.Search.{first_byte, Hit, hit_of, hits, outcome, search}
use Rattle.filling.specs.Replacing.{replaced}
use Rattle.filling.specs.Editing.{edit_view, edit_at, modified}
use Rattle.filling.specs.Filling.{unit_count, filling, filled, text_answer}
use Rattle.filling.specs.Accepted.{Accepted}
use Rattle.filling.proofs.SearchLaws.{hits_here, hits_past}
use Rattle.filling.proofs.EditLaws.{is_beyond, is_owned, is_passed, which, views-edit_at}
use Rattle.filling.proofs.FieldLaws.{moved_field}
use Rattle.filling.proofs.FillLaws.{takes-filling, fine_text, count_of, mapped, text-filled}
use Rattle.filling.proofs.OrderLaws.{Done, done_met, again, again_done, other_field, field_ends}
use Rattle.filling.proofs.KeepLaws.{text_there}
use Rattle.filling.proofs.AcceptedLaws.{ready, layout-leaves}

-- a body and where it stands in the stream of the records, whose first byte stands at `at`
pub record Stands (at : ℕ) (rs : List Rec) (b : List ℕ) (p : ℕ) : Type 0 where
  pub before : List ℕ
  pub behind : List ℕ
  pub stream : encode rs ≡ before ++ (b ++ behind)
  pub place : at + length before ≡ p

stands_on : (at : ℕ) (r : Rec) (rs : List Rec) (b : List ℕ) (p : ℕ) → Stands (at + size r) rs b p → Stands at (r ∷ rs) b p
unfolding encode
stands_on at r rs b p s =
    record {
      before = encode_one r ++ s.before;
      behind = s.behind;
      stream = ap (λ (x : List ℕ). encode_one r ++ x) s.stream ∙ sym (append_assoc (encode_one r) s.before (b ++ s.behind));
      place = omega (arith, length-append (encode_one r) s.before, length-encode_one r, s.place);
    }

stands_here : (at : ℕ) (r : Rec) (rs : List Rec) → Stands at (r ∷ rs) r.body (at + lead_of (length r.body))
unfolding encode encode_one
stands_here at r rs =
    record {
      before = header_of r.tag r.level (length r.body);
      behind = encode rs;
      stream = append_assoc (header_of r.tag r.level (length r.body)) r.body (encode rs);
      place = ap (λ (n : ℕ). at + n) (length-header_of r.tag r.level (length r.body));
    }

-- the child that a search finds stands at the place that it gives
pub child_stands : (n t at : ℕ) (rs : List Rec) (b : List ℕ) → child t (kids n rs) ≡ Some b → Stands at rs b (first_byte (found_in n t 0 at rs))
child_stands n t at [] b e = unfold kids child in absurd (let z : ◌≡◌ {A = ℕ} 0 1 = cc in omega arith)
child_stands n t at (r ∷ rs) b e = elim (which n r.tag r.level) [
  | is_beyond l q ↦ absurd (none_there b (sym (ap (child t) (kids_beyond n r rs q)) ∙ e))
  | is_owned l u q ↦ elim (eq_or r.tag t) [
    | inl h ↦
        (let k : r.body ≡ b = (let x = ap (child t) (kids_owned n r rs q) ∙ child_here t r (kids n rs) h in cc) in
        rw (found_here n t at r rs (sought_owned n t r.tag r.level q h), ← k) (stands_here at r rs))
    | inr h ↦ rw (found_passed n t at r rs 0 (sought_other n t r.tag r.level q h))
        (stands_on at r rs b _ (child_stands n t (at + size r) rs b (sym (ap (child t) (kids_owned n r rs q) ∙ child_other t r (kids n rs) h) ∙ e)))
  ]
  | is_passed l q ↦ rw (found_passed n t at r rs 0 (sought_passed n t r.tag r.level q))
      (stands_on at r rs b _ (child_stands n t (at + size r) rs b (sym (ap (child t) (kids_passed n r rs q)) ∙ e)))
]
  where
    none_there : (b : List ℕ) → child t [] ≡ Some b → ⊥
    none_there b q = unfold child in (let z : ◌≡◌ {A = ℕ} 0 1 = cc in omega arith)

-- ---- the text of each hit

-- each hit's text is where the text of its paragraph stands; the paragraphs vs are counted from i
abbrev AllStand : ℕ → ℕ → List View → List Rec → List Hit → Type 0
AllStand at i vs rs [] = Unit {0}
AllStand at i vs rs (h ∷ hs) =
    (i ≤ h.paragraph)
    × ((v : View) (b : List ℕ) → slice_get vs (h.paragraph - i) ≡ Some v → child 67 v.own ≡ Some b → Stands at rs b h.text)
    × AllStand at i vs rs hs

stand_append : (at i : ℕ) (vs : List View) (rs : List Rec) (x y : List Hit) → AllStand at i vs rs x → AllStand at i vs rs y
    → AllStand at i vs rs (x ++ y)
stand_append at i vs rs [] y p q = q
stand_append at i vs rs (h ∷ x) y p q = (p.0, p.1, stand_append at i vs rs x y p.2 q)

own_child : (r : Rec) (rs : List Rec) (v : View) (b : List ℕ) → view r rs ≡ v → child 67 v.own ≡ Some b
    → child 67 (kids (suc r.level) rs) ≡ Some b
unfolding view
own_child r rs v b s c = ap (λ (x : View). child 67 x.own) s ∙ c

stand_here : (at i : ℕ) (r : Rec) (rs : List Rec) (vs : List View) (fs : List Field)
    → AllStand at i (view r rs ∷ vs) (r ∷ rs) (map (hit_of i at r rs) fs)
unfolding hit_of
stand_here at i r rs vs [] = tt
stand_here at i r rs vs (f ∷ fs) = (omega arith, here, stand_here at i r rs vs fs)
  where
    here : (v : View) (b : List ℕ) → slice_get (view r rs ∷ vs) (i - i) ≡ Some v → child 67 v.own ≡ Some b
        → Stands at (r ∷ rs) b (first_byte (found_in (suc r.level) 67 0 (at + size r) rs))
    here v b e c =
        let z : i - i ≡ 0 = omega arith in
        let q : Some (view r rs) ≡ Some v = rw z at e in
        let s : view r rs ≡ v = cc in
        stands_on at r rs b _ (child_stands (suc r.level) 67 (at + size r) rs b (own_child r rs v b s c))

stand_past : (at i : ℕ) (r : Rec) (rs : List Rec) (vs : List View) (hs : List Hit) → AllStand (at + size r) i vs rs hs → AllStand at i vs (r ∷ rs) hs
stand_past at i r rs vs [] a = tt
stand_past at i r rs vs (h ∷ hs) a = (a.0, (λ v b e c. stands_on at r rs b h.text (a.1 v b e c)), stand_past at i r rs vs hs a.2)

stand_next : (at i : ℕ) (u : View) (rs : List Rec) (vs : List View) (hs : List Hit) → AllStand at (suc i) vs rs hs → AllStand at i (u ∷ vs) rs hs
stand_next at i u rs vs [] a = tt
stand_next at i u rs vs (h ∷ hs) a =
    let q : h.paragraph - i ≡ suc (h.paragraph - suc i) = omega (arith, a.0) in
    (omega (arith, a.0), (λ v b e c. a.1 v b (rw q at e) c), stand_next at i u rs vs hs a.2)

all_stand : (id i at : ℕ) (rs : List Rec) → AllStand at i (views rs) rs (hits id i at rs)
unfolding views
all_stand id i at [] = unfold hits in tt
all_stand id i at (r ∷ rs) = elim (eq_or r.tag 66) [
  | inl h ↦ rw (eq-eqb r.tag 66 h, hits_here id i at r rs h)
      (stand_append at i (view r rs ∷ views rs) (r ∷ rs) (map (hit_of i at r rs) (with_id id (view r rs) (fields (view r rs)))) (hits id (suc i) (at + size r) rs)
      (stand_here at i r rs (views rs) (with_id id (view r rs) (fields (view r rs))))
      (stand_next at i (view r rs) (r ∷ rs) (views rs) (hits id (suc i) (at + size r) rs)
      (stand_past at (suc i) r rs (views rs) (hits id (suc i) (at + size r) rs) (all_stand id (suc i) (at + size r) rs))))
  | inr h ↦ rw (ne_eqb r.tag 66 h, hits_past id i at r rs h)
      (stand_past at i r rs (views rs) (hits id i (at + size r) rs) (all_stand id i (at + size r) rs))
]

-- the text of the only hit
pub hit_stands : (id : ℕ) (rs : List Rec) (h : Hit) (v : View) (b : List ℕ) → hits id 0 0 rs ≡ h ∷ [] → slice_get (views rs) h.paragraph ≡ Some v
    → child 67 v.own ≡ Some b → Stands 0 rs b h.text
hit_stands id rs h v b e q c =
    let a = rw e at (all_stand id 0 0 rs) in
    let z : h.paragraph - 0 ≡ h.paragraph = omega arith in
    a.1 v b (rw z q) c

-- ---- field text of a filled field

-- the bytes of the value in a stream that holds the filled text
value_bytes : (s before behind w t : List ℕ) (a b : ℕ) → s ≡ before ++ (replaced a b w t ++ behind) → a ≤ length t
    → take (length w) (drop (length before + a) s) ≡ w
unfolding replaced
value_bytes s before behind w t a b e h =
    let l : length (take a t) ≡ a = simp length-take (omega arith) in
    rw e
    (ap (take (length w)) (drop-append-add before ((take a t ++ (w ++ drop b t)) ++ behind) a
    ∙ ap (drop a) (append_assoc (take a t) (w ++ drop b t) behind) ∙ drop_at (take a t) ((w ++ drop b t) ++ behind) a l
    ∙ append_assoc w (drop b t) behind)
    ∙ take_at w (drop b t ++ behind) (length w) refl)

modified_there : (n : ℕ) (g : View → View) (vs : List View) (v : View) → slice_get vs n ≡ Some v → slice_get (modified n g vs) n ≡ Some (g v)
unfolding modified
modified_there n g [] v e = absurd (let z : ◌≡◌ {A = ℕ} 0 1 = cc in omega arith)
modified_there zero g (u ∷ vs) v e = let s : u ≡ v = cc in rw s
modified_there (suc n) g (u ∷ vs) v e = modified_there n g vs v e

moved_itself : (f : Field) (v : ℕ) → f.a ≤ f.b → ((moved_field f.a f.b v f).a ≡ f.a) × ((moved_field f.a f.b v f).b ≡ f.a + v)
unfolding moved_field
moved_itself f v h = (rw (le-leb f.a f.a (omega arith)), rw (le-ltb f.b f.b (omega arith)) (omega arith))

answer_at : (id : ℕ) (rs : List Rec) (k : Hit) → hits id 0 0 rs ≡ k ∷ [] → k.field.plain ≡ true
    → text_answer id rs ≡ Ok (record { place = record { 0 = k.text + 2 * k.field.a }; len = 2 * (k.field.b - k.field.a) })
unfolding text_answer search outcome
answer_at id rs k e p = rw (e, outcome, p, text_answer)

-- field text of the filled field, over the sheet: it is accepted, its length is the value's, and the bytes at its place are the value
pub record Reads (id : ℕ) (w : List ℕ) (out : List Rec) : Type 0 where
  pub place : ℕ
  pub answer : text_answer id out ≡ Ok (record { place = record { 0 = place }; len = length w })
  pub bytes : take (length w) (drop place (encode out)) ≡ w

pub field_text : (id : ℕ) (w : List ℕ) (rs : List Rec) (h : Hit) → Accepted rs → Done id w rs h → Reads id w (filled h w rs)
unfolding other_field filled
field_text id w rs h a d =
    let f = h.field in
    let m = done_met id w rs h d in
    let r = ready rs a h.paragraph m.v f m.at m.among in
    let ends = field_ends m.v r f m.among d.plain in
    let lv = layout-leaves rs a in
    let k = again id id w w rs h h lv (ready rs a) d d in
    let c = again_done id id w w rs h h lv (ready rs a) d d in
    let t = text_there m.v f m.among in
    let long = fine_text (count_of m.v) m.v.own t.0 r.fine t.1 in
    let g : k.hit.field ≡ moved_field f.a f.b (unit_count w) f
    = k.field ∙ ap (λ (b : Bool). cond b (moved_field f.a f.b (unit_count w) f) f) (eq-eqb h.paragraph h.paragraph refl) in
    let ab = moved_itself f (unit_count w) ends.0 in
    let ka : k.hit.field.a ≡ f.a = ap (λ (x : Field). x.a) g ∙ ab.0 in
    let kb : k.hit.field.b ≡ f.a + unit_count w = ap (λ (x : Field). x.b) g ∙ ab.1 in
    let vs : slice_get (views (edit_at h.paragraph (filling f w) rs)) k.hit.paragraph ≡ Some (edit_view (filling f w) m.v)
    = ap (λ (n : ℕ). slice_get (views (edit_at h.paragraph (filling f w) rs)) n) k.paragraph
    ∙ ap (λ (x : List View). slice_get x h.paragraph) (views-edit_at (filling f w) (takes-filling f w) h.paragraph rs lv)
    ∙ modified_there h.paragraph (edit_view (filling f w)) (views rs) m.v m.at in
    let st = hit_stands id (edit_at h.paragraph (filling f w) rs) k.hit (edit_view (filling f w) m.v) (replaced (2 * f.a) (2 * f.b) w t.0) k.is vs (text_of f w m.v t.0 t.1) in
    let long-is : 2 * (k.hit.field.b - k.hit.field.a) ≡ length w = omega (arith, ka, kb, d.value.even) in
    let place_is : k.hit.text + 2 * k.hit.field.a ≡ length st.before + 2 * f.a = omega (arith, ka, st.place) in
    record {
      place = k.hit.text + 2 * k.hit.field.a;
      answer = answer_at id (edit_at h.paragraph (filling f w) rs) k.hit k.is c.plain
          ∙ ap (λ (n : ℕ). Ok (record { place = record { 0 = k.hit.text + 2 * k.hit.field.a }; len = n })) long-is;
      bytes =
          ap (λ (n : ℕ). take (length w) (drop n (encode (edit_at h.paragraph (filling f w) rs)))) place_is
          ∙ value_bytes (encode (edit_at h.paragraph (filling f w) rs)) st.before st.behind w t.0 (2 * f.a) (2 * f.b) st.stream (omega (arith, long, ends.0, ends.1));
    }
  where
    text_of : (f : Field) (w : List ℕ) (v : View) (t : List ℕ) → child 67 v.own ≡ Some t
        → child 67 (edit_view (filling f w) v).own ≡ Some (replaced (2 * f.a) (2 * f.b) w t)
    text_of f w v t e = unfold edit_view filling in (text-filled f w 0 v.own ∙ ap (mapped (replaced (2 * f.a) (2 * f.b) w)) e)
