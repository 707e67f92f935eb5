-- An accepted section: what it gives of its paragraphs; a fill of it is accepted. Assumes nothing.
use Rattle.std.specs.Prelude.{None, Option, Some, slice_get}
use mathlib.Core.Path.{◌≡◌, refl, sym, ap, ◌∙◌}
use mathlib.Core.Logic.{◌⊎◌, inl, inr}
use Prim.Native.Nat.{ℕ, zero, suc, ◌+◌, ◌*◌, ◌/◌, ◌%◌, ◌≤◌, ◌<◌}
use native.Mathlib.Omega.{arith}
use mathlib.Core.Bool.{Bool, true, false, cond}
use mathlib.Core.List.{List, [], ◌∷◌, ◌++◌}
use lib.Dec.{eqb}
use lib.ListN.{length, take, drop, length-append}
use borrow.Author.Tests.{eq-eqb, ne_eqb}
use Rattle.numbers.specs.Little.{little, bytes_of, Bytes}
use Rattle.numbers.proofs.LittleLaws.{bytes_drop}
use Rattle.records.specs.Records.{Rec, limit, encode_one, encode, size}
use Rattle.records.specs.Parents.{Lacks}
use Rattle.records.proofs.ReadingLaws.{length-encode_one}
use Rattle.text.proofs.Cases.{eq_or}
use Rattle.paragraph.specs.View.{kids, View, view, views, child}
use Rattle.paragraph.specs.Rules.{counts_of}
use Rattle.paragraph.proofs.BodyLaws.{kids_beyond, kids_owned, kids_passed, child_here, child_other}
use Rattle.acceptance.specs.Keeps.{Keeps}
use Rattle.acceptance.specs.Section.{AllKeep}
use Rattle.filling.specs.Replacing.{replaced}
use Rattle.filling.specs.Shapes.{Entry, packed, shapes_in}
use Rattle.filling.specs.Fields.{Field, fields}
use Rattle.filling.specs.Editing.{Change, Edit, with_body, put, count_control, edit_view, edit_behind, edit_at, modified, as_child, OwnedChild}
use Rattle.filling.specs.Placing.{Leaves, Bodies, Once, Each, Followed}
use Rattle.filling.specs.Search.{Hit}
use Rattle.filling.specs.Filling.{recounted, new_head, with_bit15, altered, new_body, filling, filled}
use Rattle.filling.specs.Accepted.{AllBodies, Accepted}
use Rattle.filling.proofs.ShapeLaws.{StartsFrom}
use Rattle.filling.proofs.EditLaws.{is_beyond, is_owned, is_passed, which, behind_beyond, behind_owned, behind_passed, behind_nil, at_view, at_next, at_past, at_nil, views-edit_at}
use Rattle.filling.proofs.PlacingLaws.{leaves, followed_edit_at, lawful_edit_at}
use Rattle.filling.proofs.FollowLaws.{followed, placed}
use Rattle.filling.proofs.FieldLaws.{Among}
use Rattle.filling.proofs.FillLaws.{AllFine, count_of, kind, text, shapes, layout, control, other, body_text, body_shapes, body_layout, body_control, body_other, takes-filling}
use Rattle.filling.proofs.SearchLaws.{marks_in}
use Rattle.filling.proofs.OrderLaws.{AllReady, Done, done_met}
use Rattle.filling.proofs.KeepLaws.{Fillable, fill_keeps, written, text_there, shapes_there}

-- ---- what holds of each header and what follows it holds of each view

module _ (Q : List Rec → Type 0) (P : View → Type 0) (next : (r : Rec) (rs : List Rec) → Q (r ∷ rs) → Q rs)
    (at : (r : Rec) (rs : List Rec) → Q (r ∷ rs) → r.tag ≡ 66 → P (view r rs)) where
  each_view : (i : ℕ) (rs : List Rec) (v : View) → Q rs → slice_get (views rs) i ≡ Some v → P v
  unfolding views
  each_view i [] v a e = absurd (let z : ◌≡◌ {A = ℕ} 0 1 = cc in omega arith)
  each_view i (r ∷ rs) v a e = elim (eq_or r.tag 66) [
    | inl h ↦ here i h (rw (eq-eqb r.tag 66 h) at e) (λ j. each_view j rs v (next r rs a))
    | inr h ↦ each_view i rs v (next r rs a) (rw (ne_eqb r.tag 66 h) at e)
  ]
    where
      here : (i : ℕ) → r.tag ≡ 66 → slice_get (view r rs ∷ views rs) i ≡ Some v → ((j : ℕ) → slice_get (views rs) j ≡ Some v → P v) → P v
      here zero h q on = let s : view r rs ≡ v = cc in rw (← s) (at r rs a h)
      here (suc i) h q on = on i q

-- ---- what holds of each body holds of a view's

module _ (P : List ℕ → Type 0) where
  all_kids : (n : ℕ) (rs : List Rec) → AllBodies P rs → AllBodies P (kids n rs)
  all_kids n [] a = unfold kids in tt
  all_kids n (r ∷ rs) a = elim (which n r.tag r.level) [
    | is_beyond l e ↦ rw (kids_beyond n r rs e) tt
    | is_owned l t e ↦ rw (kids_owned n r rs e) (a.0, all_kids n rs a.1)
    | is_passed l e ↦ rw (kids_passed n r rs e) (all_kids n rs a.1)
  ]

  pub all_view : (i : ℕ) (rs : List Rec) (v : View) → AllBodies P rs → slice_get (views rs) i ≡ Some v → P v.head × AllBodies P v.own
  unfolding view
  all_view i rs v a e =
      each_view (AllBodies P) (λ u. P u.head × AllBodies P u.own) (λ r l x. x.1) (λ r l x h. (x.0, all_kids (suc r.level) l x.1)) i rs v a e

  pub all_child : (t : ℕ) (k : List Rec) (b : List ℕ) → AllBodies P k → child t k ≡ Some b → P b
  all_child t [] b a e = unfold child in absurd (let z : ◌≡◌ {A = ℕ} 0 1 = cc in omega arith)
  all_child t (r ∷ k) b a e = elim (eq_or r.tag t) [
    | inl h ↦ (let q : r.body ≡ b = (let x = child_here t r k h in cc) in rw (← q) a.0)
    | inr h ↦ all_child t k b a.1 (sym (child_other t r k h) ∙ e)
  ]

-- ---- a body is no longer than the stream

length_body : (r : Rec) → length r.body ≤ length (encode_one r)
unfolding size
length_body r = omega (arith, length-encode_one r)

pub all_short : (m : ℕ) (rs : List Rec) → length (encode rs) ≤ m → AllBodies (λ b. length b ≤ m) rs
unfolding encode
all_short m [] h = tt
all_short m (r ∷ rs) h =
    (omega (arith, length-append (encode_one r) (encode rs), length_body r), all_short m rs (omega (arith, length-append (encode_one r) (encode rs))))

bodies : (rs : List Rec) → AllBodies (λ b. length b ≤ limit) rs → Bodies rs
bodies [] a = tt
bodies (r ∷ rs) a = (omega (arith, a.0), bodies rs a.1)

pub bodies_fit : (rs : List Rec) → length (encode rs) ≤ limit → Bodies rs
bodies_fit rs h = bodies rs (all_short limit rs h)

-- ---- one record of each tag

pub view-once : (i : ℕ) (rs : List Rec) (v : View) → Each rs → slice_get (views rs) i ≡ Some v → Once v.own
unfolding view
view-once i rs v a e = each_view Each (λ u. Once u.own) (λ r l x. x.1) (λ r l x h. x.0.paragraph h) i rs v a e

lacks-child : (t : ℕ) (k : List Rec) → Lacks t k → child t k ≡ None
lacks-child t [] l = unfold child in refl
lacks-child t (r ∷ k) l = child_other t r k l.0 ∙ lacks-child t k l.1

-- what holds of the child that is found holds of each with its tag
fine_all : (n : ℕ) (k : List Rec) → Once k → ((b : List ℕ) → child 67 k ≡ Some b → length b ≡ 2 * n)
    → ((b : List ℕ) → child 68 k ≡ Some b → StartsFrom 0 1 n (shapes_in b)) → ((b : List ℕ) → child 68 k ≡ Some b → Bytes b) → AllFine n k
fine_all n [] o x y z = tt
fine_all n (r ∷ k) o x y z = (
  record {
    text = λ e. x r.body (child_here 67 r k e);
    starts = λ e. y r.body (child_here 68 r k e);
    bytes = λ e. z r.body (child_here 68 r k e);
  },
  fine_all n k o.1 (λ b e. x b (rest 67 b (omega arith) e)) (λ b e. y b (rest 68 b (omega arith) e)) (λ b e. z b (rest 68 b (omega arith) e)),
)
  where
    rest : (t : ℕ) (b : List ℕ) → t ≤ 70 → child t k ≡ Some b → child t (r ∷ k) ≡ Some b
    rest t b h e = elim (eq_or r.tag t) [
      | inl q ↦ (let l : Lacks t k = rw q at (o.0 (omega arith)) in absurd (let d = lacks-child t k l in let z : ◌≡◌ {A = ℕ} 0 1 = cc in omega arith))
      | inr q ↦ child_other t r k q ∙ e
    ]

-- ---- each paragraph keeps its rules where each view does

views-keep : (rs : List Rec) → ((i : ℕ) (v : View) → slice_get (views rs) i ≡ Some v → Keeps v) → AllKeep rs
unfolding views
views-keep [] a = tt
views-keep (r ∷ rs) a = elim (eq_or r.tag 66) [
  | inl h ↦
      (let b : (i : ℕ) (v : View) → slice_get (view r rs ∷ views rs) i ≡ Some v → Keeps v = rw (eq-eqb r.tag 66 h) at a in
      ((λ q. b 0 (view r rs) refl), views-keep rs (λ i v q. b (suc i) v q)))
  | inr h ↦
      (let b : (i : ℕ) (v : View) → slice_get (views rs) i ≡ Some v → Keeps v = rw (ne_eqb r.tag 66 h) at a in
      ((λ q. absurd (h q)), views-keep rs b))
]

-- ---- each paragraph of an accepted section that has a field

module _ (rs : List Rec) (a : Accepted rs) where
  pub follows : Followed rs
  follows = followed rs a.section.obeys.placed

  pub layout-leaves : Leaves rs
  layout-leaves = leaves rs follows.each

  pub keeps : (i : ℕ) (v : View) → slice_get (views rs) i ≡ Some v → Keeps v
  keeps i v e = each_view AllKeep Keeps (λ r l x. x.1) (λ r l x h. x.0 h) i rs v a.section.obeys.paragraphs e

  pub ready : AllReady rs
  unfolding counts_of
  ready i v f e m =
      let k = keeps i v e in
      let t = text_there v f m in
      let s = shapes_there v k in
      let w = written v t.0 s.0 k t.1 s.1 in
      let b = all_view Bytes i rs v a.bytes e in
      let n = all_view (λ b. length b ≤ limit) i rs v (all_short limit rs a.section.within) e in
      let c : length t.0 ≤ limit = all_child (λ b. length b ≤ limit) 67 v.own t.0 n.1 t.1 in
      record {
        long = k.header-long;
        bytes = b.0;
        small = omega (arith, w.text_sized.bytes);
        fine = fine_all (count_of v) v.own (view-once i rs v follows.each e)
            (λ x q. let z : t.0 ≡ x = (let y = t.1 in cc) in ap length (sym z) ∙ w.text_sized.bytes)
            (λ x q. let z : s.0 ≡ x = (let y = s.1 in cc) in rw (← z) w.starts)
            (λ x q. all_child Bytes 68 v.own x b.1 q);
      }

-- ---- bytes stay bytes

bytes_none : Bytes []
bytes_none i = omega arith

bytes_cons : (x : ℕ) (s : List ℕ) → x < 256 → Bytes s → Bytes (x ∷ s)
bytes_cons x s h b zero = h
bytes_cons x s h b (suc i) = b i

bytes-append : (s t : List ℕ) → Bytes s → Bytes t → Bytes (s ++ t)
bytes-append [] t a b = b
bytes-append (x ∷ s) t a b = bytes_cons x (s ++ t) (a 0) (bytes-append s t (λ i. a (suc i)) b)

bytes_take : (n : ℕ) (s : List ℕ) → Bytes s → Bytes (take n s)
bytes_take zero s b = bytes_none
bytes_take (suc n) [] b = bytes_none
bytes_take (suc n) (x ∷ s) b = bytes_cons x (take n s) (b 0) (bytes_take n s (λ i. b (suc i)))

bytes-number : (n w : ℕ) → Bytes (bytes_of n w)
unfolding bytes_of
bytes-number zero w = bytes_none
bytes-number (suc n) w = bytes_cons (w % 256) (bytes_of n (w / 256)) (omega arith) (bytes-number n (w / 256))

bytes-replaced : (a b : ℕ) (w l : List ℕ) → Bytes w → Bytes l → Bytes (replaced a b w l)
unfolding replaced
bytes-replaced a b w l x y = bytes-append (take a l) (w ++ drop b l) (bytes_take a l y) (bytes-append w (drop b l) x (bytes_drop b l y))

bytes_packed : (l : List Entry) → Bytes (packed l)
unfolding packed
bytes_packed [] = bytes_none
bytes_packed (e ∷ l) =
    bytes-append (bytes_of 4 e.start) (bytes_of 4 e.shape ++ packed l) (bytes-number 4 e.start)
    (bytes-append (bytes_of 4 e.shape) (packed l) (bytes-number 4 e.shape) (bytes_packed l))

bytes-altered : (b : List ℕ) → Bytes b → Bytes (altered b)
unfolding altered
bytes-altered b h = bytes-replaced 4 8 (bytes_of 4 (with_bit15 (little 4 (drop 4 b)))) b (bytes-number 4 _) h

bytes_head : (a b v k : ℕ) (h : List ℕ) → Bytes h → Bytes (new_head a b v k h)
unfolding new_head
bytes_head a b v k h x =
    bytes-replaced 0 4 (bytes_of 4 (recounted a b v (little 4 h))) _ (bytes-number 4 _)
    (bytes-replaced 12 14 (bytes_of 2 k) _ (bytes-number 2 k) (bytes-replaced 16 18 (bytes_of 2 0) h (bytes-number 2 0) x))

-- a change that makes bytes of bytes
abbrev ByteWise : Change → Type 0
ByteWise f = (k : OwnedChild) (c : List ℕ) → Bytes k.body → f k ≡ Some c → Bytes c

bytes_body : (f : Field) (w : List ℕ) → Bytes w → ByteWise (new_body f w)
bytes_body f w y k c x e = elim (kind k.tag) [
  | text h ↦ same _ (sym (body_text f w k.before k.tag k.body h) ∙ e) (bytes-replaced (2 * f.a) (2 * f.b) w k.body y x)
  | shapes h ↦ same _ (sym (body_shapes f w k.before k.tag k.body h) ∙ e) (bytes_packed _)
  | layout h ↦ absurd (let q = body_layout f w k.before k.tag k.body h in let z : ◌≡◌ {A = ℕ} 0 1 = cc in omega arith)
  | control h ↦ same _ (sym (body_control f w k.before k.tag k.body h) ∙ e) (either (eqb k.before f.ordinal))
  | other h₁ h₂ h₃ h₄ ↦ same _ (sym (body_other f w k.before k.tag k.body h₁ h₂ h₃ h₄) ∙ e) x
]
  where
    same : (d : List ℕ) → ◌≡◌ {A = Option (List ℕ)} (Some d) (Some c) → Bytes d → Bytes c
    same d q h = let s : d ≡ c = cc in rw (← s) h

    either : (s : Bool) → Bytes (cond s (altered k.body) k.body)
    either true = bytes-altered k.body x
    either false = x

bytes-put : (o : Option (List ℕ)) (r : Rec) (x : List Rec) → ((c : List ℕ) → o ≡ Some c → Bytes c) → AllBodies Bytes x → AllBodies Bytes (put o r x)
unfolding put with_body
bytes-put None r x h a = a
bytes-put (Some b) r x h a = (h b refl, a)

bytes-behind : (n j : ℕ) (f : Change) (rs : List Rec) → ByteWise f → AllBodies Bytes rs → AllBodies Bytes (edit_behind n j f rs)
bytes-behind n j f [] q a = rw (behind_nil n j f) tt
bytes-behind n j f (r ∷ rs) q a = elim (which n r.tag r.level) [
  | is_beyond l e ↦ rw (behind_beyond n j f r rs e) a
  | is_owned l t e ↦ rw (behind_owned n j f r rs e)
      (bytes-put (f (as_child j r)) r _ (λ c z. q (as_child j r) c a.0 z) (bytes-behind n (count_control r.tag j) f rs q a.1))
  | is_passed l e ↦ rw (behind_passed n j f r rs e) (a.0, bytes-behind n j f rs q a.1)
]

module _ (e : Edit) (q : ByteWise e.child) (hd : (v : View) → Bytes v.head → Bytes (e.head v)) where
  bytes-edit_at : (i : ℕ) (rs : List Rec) → AllBodies Bytes rs → AllBodies Bytes (edit_at i e rs)
  unfolding with_body
  bytes-edit_at i [] a = rw (at_nil i e) tt
  bytes-edit_at zero (r ∷ rs) a = elim (eq_or r.tag 66) [
    | inl t ↦ rw (at_view e r rs (view r rs) t refl)
        (hd (view r rs) (unfold view in a.0), bytes-behind (suc r.level) 0 e.child rs q a.1)
    | inr t ↦ rw (at_past e r rs zero t) (a.0, bytes-edit_at zero rs a.1)
  ]
  bytes-edit_at (suc i) (r ∷ rs) a = elim (eq_or r.tag 66) [
    | inl t ↦ rw (at_next e r rs i t) (a.0, bytes-edit_at i rs a.1)
    | inr t ↦ rw (at_past e r rs (suc i) t) (a.0, bytes-edit_at (suc i) rs a.1)
  ]

-- ---- a fill of an accepted section is accepted, where it is not too long

modified-view : (n i : ℕ) (g : View → View) (vs : List View) (v : View) → slice_get (modified n g vs) i ≡ Some v
    → (slice_get vs i ≡ Some v) ⊎ ((u : View) × (slice_get vs n ≡ Some u) × (v ≡ g u))
unfolding modified
modified-view n i g [] v e = absurd (let z : ◌≡◌ {A = ℕ} 0 1 = cc in omega arith)
modified-view zero zero g (u ∷ vs) v e = inr (u, refl, cc)
modified-view zero (suc i) g (u ∷ vs) v e = inl e
modified-view (suc n) zero g (u ∷ vs) v e = inl e
modified-view (suc n) (suc i) g (u ∷ vs) v e = modified-view n i g vs v e

count_room : (v : View) → count_of v + 2048 < 2147483648 → (counts_of v.head).count + 1024 < 2147483648
unfolding counts_of
count_room v h = omega arith

marks_are : (v : View) → (counts_of v.head).marks ≡ marks_in v
unfolding marks_in
marks_are v = refl

module _ (id : ℕ) (w : List ℕ) (rs : List Rec) (h : Hit) (a : Accepted rs) (d : Done id w rs h) where
  -- the field that was found, in its paragraph
  pub fillable_here : (v : View) → slice_get (views rs) h.paragraph ≡ Some v → Fillable v h.field w
  fillable_here v e =
      let m = done_met id w rs h d in
      let q : m.v ≡ v = (let x = m.at in cc) in
      let g : Among h.field (fields v) = rw q at m.among in
      let r = ready rs a h.paragraph v h.field e g in
      let b = all_view Bytes h.paragraph rs v a.bytes e in
      record {
        keeps = keeps rs a h.paragraph v e;
        bytes = b.0;
        small = count_room v r.small;
        shapes-bytes = λ s z. all_child Bytes 68 v.own s b.1 z;
        among = g;
        plain = d.plain;
        value = d.value;
        free = marks_are v ∙ ap marks_in (sym q) ∙ sym m.same-marks ∙ d.free;
      }

  pub accepted_filled : Bytes w → length (encode (filled h w rs)) ≤ limit → Accepted (filled h w rs)
  unfolding filled
  accepted_filled y z =
      let e = filling h.field w in
      let takes = takes-filling h.field w in
      let levels = lawful_edit_at e takes 0 h.paragraph rs (follows rs a).each a.section.encodes.lawful (bodies_fit (edit_at h.paragraph e rs) z) in
      record {
        bytes = bytes-edit_at e (unfold filling in (bytes_body h.field w y)) (λ v x. unfold filling in (bytes_head _ _ _ _ v.head x)) h.paragraph rs a.bytes;
        section = record {
          within = z;
          encodes = record { lawful = levels; stream = refl };
          count = refl;
          obeys = record {
            placed = placed (edit_at h.paragraph e rs) (followed_edit_at e takes h.paragraph rs (follows rs a)) levels;
            paragraphs = views-keep (edit_at h.paragraph e rs) (λ i v q. keeps_again i v (modified-view h.paragraph i (edit_view e) (views rs) v
                (sym (ap (λ (vs : List View). slice_get vs i) (views-edit_at e takes h.paragraph rs (layout-leaves rs a))) ∙ q)));
          };
        };
      }
    where
      keeps_again : (i : ℕ) (v : View)
          → (slice_get (views rs) i ≡ Some v) ⊎ ((u : View) × (slice_get (views rs) h.paragraph ≡ Some u) × (v ≡ edit_view (filling h.field w) u))
          → Keeps v
      keeps_again i v (inl e) = keeps rs a i v e
      keeps_again i v (inr p) = rw p.2 (fill_keeps p.0 h.field w (fillable_here p.0 p.1))
