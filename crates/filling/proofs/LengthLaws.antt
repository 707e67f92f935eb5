-- How long a sheet is: a fill makes a section longer by at most its value and four bytes. The text grows by at most the value and its
-- header by four bytes, where it passes 4,095; no other record grows. Assumes nothing.
use Rattle.std.specs.Prelude.{None, Option, Some, slice_get}
use mathlib.Core.Path.{◌≡◌, refl, sym, ap, ◌∙◌}
use mathlib.Core.Logic.{inl, inr}
use Prim.Native.Nat.{ℕ, zero, suc, ◌+◌, ◌*◌, ◌-◌, ◌≤◌}
use native.Mathlib.Omega.{arith}
use native.Mathlib.Nat.{zero-add}
use mathlib.Core.Bool.{Bool, true, false, cond}
use mathlib.Core.List.{List, [], ◌∷◌}
use lib.Dec.{eqb}
use lib.ListN.{length, length-append, length-take, length-drop}
use borrow.Author.Tests.{eq-eqb, ne_eqb, eqb-true}
use Rattle.records.specs.Records.{Rec, encode, size}
use Rattle.records.specs.Parents.{Lacks}
use Rattle.records.proofs.HeaderLaws.{lead_short, lead_long, lead_bounds}
use Rattle.records.proofs.ScanLaws.{length-encode}
use Rattle.text.specs.Units.{units}
use Rattle.text.specs.Asked.{what, width}
use Rattle.text.specs.Walk.{Token, walk, tokens, is_extended}
use Rattle.text.specs.declared.Class.{Class}
use Rattle.text.specs.declared.Class.TheVariants.{Character, Inline, Extended}
use Rattle.text.specs.declared.Control.{Control}
use Rattle.text.specs.declared.Standing.{Standing}
use Rattle.text.specs.declared.Standing.TheVariants as St
use Rattle.text.proofs.Cases.{lt_or, eq_or}
use Rattle.paragraph.specs.View.{kids, View, view, views, child, controls}
use Rattle.paragraph.specs.Rules.{bytes_in, owner_of, code_before, codes_in}
use Rattle.paragraph.proofs.BodyLaws.{kids_owned, kids_passed, controls_here, controls_other}
use Rattle.filling.specs.Replacing.{replaced}
use Rattle.filling.specs.Shapes.{shapes_in, packed, shapes_after}
use Rattle.filling.specs.Fields.{Field, next, field_at, fields_in, fields}
use Rattle.filling.specs.Editing.{Change, Edit, with_body, put, count_control, edit_behind, edit_at, as_child}
use Rattle.filling.specs.Placing.{Once}
use Rattle.filling.specs.Search.{Hit}
use Rattle.filling.specs.Filling.{unit_count, altered, new_body, filling, filled}
use Rattle.acceptance.specs.Keeps.{Fields, Keeps}
use Rattle.filling.specs.Accepted.{Accepted}
use Rattle.filling.proofs.PackingLaws.{length-packed}
use Rattle.filling.proofs.FieldLaws.{Among, ordinary, field, other, seen, fields_ordinary, fields_field, fields_other, field_extended, field_ordinal}
use Rattle.filling.proofs.EditLaws.{is_beyond, is_owned, is_passed, which, behind_beyond, behind_owned, behind_passed, behind_nil, at_view, at_next, at_past}
use Rattle.filling.proofs.FillLaws.{kind, text, shapes, layout, control, other, body_text, body_shapes, body_layout, body_control, body_other}
use Rattle.filling.proofs.SearchLaws.{count_next, count_same}
use Rattle.filling.proofs.OrderLaws.{Done, done_met, field_ends}
use Rattle.filling.proofs.KeepLaws.{length-altered, length_head, after_fewer, length-shapes}
use Rattle.filling.proofs.AcceptedLaws.{view-once, ready, follows, keeps}

-- ---- the control header of a field is long enough for its properties

-- the field's code 3 is the one of its ordinal among the codes, before which n extended controls stand
pub record Owns (n : ℕ) (f : Field) (cs : List ℕ) : Type 0 where
  pub nth : ℕ
  pub ordinal : f.ordinal ≡ n + nth
  pub code : slice_get cs nth ≡ Some 3

codes_behind : (s : Standing) (cs : List ℕ) (i : ℕ) → slice_get (code_before (owner_of s) cs) (is_extended s + i) ≡ slice_get cs i
codes_behind (St.Ordinary u) cs i = ap (slice_get cs) (zero-add i)
codes_behind (St.Control c) cs i = by c.class refl
  where
    by : (k : Class) → c.class ≡ k → slice_get (code_before (owner_of (St.Control c)) cs) (is_extended (St.Control c) + i) ≡ slice_get cs i
    by Character e = rw e (ap (slice_get cs) (zero-add i))
    by Inline e = rw e (ap (slice_get cs) (zero-add i))
    by Extended e = rw e (let q : 1 + i ≡ suc i = omega arith in ap (slice_get (c.code ∷ cs)) q)

owns_behind : (n : ℕ) (f : Field) (s : Standing) (cs : List ℕ) → Owns (is_extended s + n) f cs → Owns n f (code_before (owner_of s) cs)
owns_behind n f s cs o =
    record { nth = is_extended s + o.nth; ordinal = omega (arith, o.ordinal); code = codes_behind s cs o.nth ∙ o.code }

owner_first : (c : Control) (cs : List ℕ) → c.class ≡ Extended → c.code ≡ 3 → slice_get (code_before (owner_of (St.Control c)) cs) 0 ≡ Some 3
owner_first c cs e h = rw (e, h)

none_there : (n : ℕ) (f : Field) → Among f (fields_in n []) → ⊥
unfolding fields_in
none_there n f m = m

owns_step : (n : ℕ) (t : Token) (ts : List Token) (f : Field) → ((c : Control) → t.what ≡ St.Control c → c.code ≡ 3 → c.class ≡ Extended)
    → ((m : ℕ) → Among f (fields_in m ts) → Owns m f (codes_in ts)) → Among f (fields_in n (t ∷ ts)) → Owns n f (codes_in (t ∷ ts))
unfolding codes_in
owns_step n t ts f ext on m = elim (seen t.what) [
  | ordinary u e ↦ rw e (on n (rw (fields_ordinary t ts n e) at m))
  | field c e z ↦ rw e (here c (ext c e z) z (rw (fields_field t ts n e z) at m))
  | other c e z ↦ rw e (owns_behind n f (St.Control c) (codes_in ts) (on (is_extended (St.Control c) + n) (rw (fields_other t ts n e z) at m)))
]
  where
    here : (c : Control) → c.class ≡ Extended → c.code ≡ 3 → Among f (field_at n t.at (next ts) ∷ fields_in (is_extended (St.Control c) + n) ts)
        → Owns n f (code_before (owner_of (St.Control c)) (codes_in ts))
    here c x z (inl q) =
        record {
          nth = 0;
          ordinal = omega (arith, ap (λ (g : Field). g.ordinal) q ∙ field_ordinal n t.at (next ts));
          code = owner_first c (codes_in ts) x z;
        }
    here c x z (inr q) = owns_behind n f (St.Control c) (codes_in ts) (on (is_extended (St.Control c) + n) q)

pub owns : (n p k : ℕ) (us : List ℕ) (f : Field) → Among f (fields_in n (walk p k us)) → Owns n f (codes_in (walk p k us))
unfolding walk
owns n p k [] f m = absurd (none_there n f m)
owns n p (suc k) (u ∷ us) f m = owns n (p + 1) k us f m
owns n p zero (u ∷ us) f m =
    owns_step n (record { at = p; what = what u }) (walk (p + 1) (width (what u) - 1) us) f (field_extended u)
    (λ j q. owns j (p + 1) (width (what u) - 1) us f q) m

-- the header that a code 3 owns
codes_long : (i : ℕ) (cs : List ℕ) (bs : List (List ℕ)) (b : List ℕ) → Fields cs bs → slice_get cs i ≡ Some 3 → slice_get bs i ≡ Some b → 15 ≤ length b
codes_long i [] bs b k c d = absurd (let z : ◌≡◌ {A = ℕ} 0 1 = cc in omega arith)
codes_long i (x ∷ cs) [] b k c d = absurd (let z : ◌≡◌ {A = ℕ} 0 1 = cc in omega arith)
codes_long zero (x ∷ cs) (y ∷ bs) b k c d =
    let three : x ≡ 3 = cc in
    let same : y ≡ b = cc in
    rw (← same) (k.0 three).fixed
codes_long (suc i) (x ∷ cs) (y ∷ bs) b k c d = codes_long i cs bs b k.1 c d

pub field_long : (v : View) (f : Field) → Keeps v → Among f (fields v) → (b : List ℕ) → slice_get (controls v.own) f.ordinal ≡ Some b → 15 ≤ length b
unfolding fields tokens
field_long v f k m b e =
    let o = owns 0 0 0 (units (bytes_in (child 67 v.own))) f m in
    let q : f.ordinal ≡ o.nth = omega (arith, o.ordinal) in
    codes_long o.nth (codes_in (walk 0 0 (units (bytes_in (child 67 v.own))))) (controls v.own) b k.fields-long o.code
    (ap (slice_get (controls v.own)) (sym q) ∙ e)

-- ---- a record with another body

module _ (r : Rec) (b : List ℕ) where
  size_less : length b ≤ length r.body → size (with_body b r) ≤ size r
  unfolding size with_body
  size_less h = elim (lt_or (length r.body) 4095) [
    | inl k ↦ omega (arith, lead_short (length r.body) k, lead_short (length b) (omega arith))
    | inr k ↦ omega (arith, lead_long (length r.body) k, (lead_bounds (length b)).1)
  ]

  size-more : (n : ℕ) → length b ≤ length r.body + n → size (with_body b r) ≤ size r + (n + 4)
  unfolding size with_body
  size-more n h = omega (arith, (lead_bounds (length b)).1, (lead_bounds (length r.body)).0)

-- ---- an edit whose children grow: a text by at most c bytes, no other

unfoldable growth : ℕ → ℕ → ℕ
growth c t = cond (eqb t 67) c 0

unfoldable growths : ℕ → List Rec → ℕ
growths c [] = 0
growths c (r ∷ k) = growth c r.tag + growths c k

-- as a change does it to a list of children, before which j control headers stand
abbrev Grow : Change → ℕ → ℕ → List Rec → Type 0
Grow f c j [] = Unit {0}
Grow f c j (r ∷ k) =
    ((b : List ℕ) → f (as_child j r) ≡ Some b → size (with_body b r) ≤ size r + growth c r.tag) × Grow f c (count_control r.tag j) k

growth_text : (c t : ℕ) → t ≡ 67 → growth c t ≡ c
unfolding growth
growth_text c t e = rw e

growth_other : (c t : ℕ) → (t ≡ 67 → ⊥) → growth c t ≡ 0
unfolding growth
growth_other c t e = rw (ne_eqb t 67 e)

growths_none : (c : ℕ) (k : List Rec) → Lacks 67 k → growths c k ≡ 0
unfolding growths
growths_none c [] l = refl
growths_none c (r ∷ k) l = omega (arith, growth_other c r.tag l.0, growths_none c k l.1)

growths_once : (c : ℕ) (k : List Rec) → Once k → growths c k ≤ c
unfolding growths
growths_once c [] o = omega arith
growths_once c (r ∷ k) o = elim (eq_or r.tag 67) [
  | inl e ↦ (let l : Lacks 67 k = rw e at (o.0 (omega arith)) in omega (arith, growth_text c r.tag e, growths_none c k l))
  | inr e ↦ omega (arith, growth_other c r.tag e, growths_once c k o.1)
]

length-put : (o : Option (List ℕ)) (r : Rec) (x rs : List Rec) (m n : ℕ) → ((b : List ℕ) → o ≡ Some b → size (with_body b r) ≤ size r + m)
    → length (encode x) ≤ length (encode rs) + n → length (encode (put o r x)) ≤ length (encode (r ∷ rs)) + (m + n)
unfolding put
length-put None r x rs m n g h = omega (arith, length-encode r rs)
length-put (Some b) r x rs m n g h = omega (arith, length-encode r rs, length-encode (with_body b r) x, g b refl)

length-next : (r : Rec) (x rs : List Rec) (n : ℕ) → length (encode x) ≤ length (encode rs) + n
    → length (encode (r ∷ x)) ≤ length (encode (r ∷ rs)) + n
length-next r x rs n h = omega (arith, length-encode r x, length-encode r rs)

length-behind : (n j : ℕ) (f : Change) (c : ℕ) (rs : List Rec) → Grow f c j (kids n rs)
    → length (encode (edit_behind n j f rs)) ≤ length (encode rs) + growths c (kids n rs)
unfolding growths
length-behind n j f c [] g = rw (behind_nil n j f) (omega arith)
length-behind n j f c (r ∷ rs) g = elim (which n r.tag r.level) [
  | is_beyond l e ↦ rw (behind_beyond n j f r rs e) (omega arith)
  | is_owned l t e ↦
      (let d : Grow f c j (r ∷ kids n rs) = rw (kids_owned n r rs e) at g in
      rw (behind_owned n j f r rs e, kids_owned n r rs e)
      (length-put (f (as_child j r)) r _ rs (growth c r.tag) (growths c (kids n rs)) d.0
      (length-behind n (count_control r.tag j) f c rs d.1)))
  | is_passed l e ↦
      (let d : Grow f c j (kids n rs) = rw (kids_passed n r rs e) at g in
      rw (behind_passed n j f r rs e, kids_passed n r rs e) (length-next r _ rs _ (length-behind n j f c rs d)))
]

module _ (e : Edit) (c : ℕ) where
  length-edit_at : (i : ℕ) (rs : List Rec) (v : View) → slice_get (views rs) i ≡ Some v → length (e.head v) ≤ length v.head
      → Grow e.child c 0 v.own → length (encode (edit_at i e rs)) ≤ length (encode rs) + growths c v.own
  unfolding views view
  length-edit_at i [] v q h g = absurd (let z : ◌≡◌ {A = ℕ} 0 1 = cc in omega arith)
  length-edit_at zero (r ∷ rs) v q h g = elim (eq_or r.tag 66) [
    | inl t ↦ here t (rw (eq-eqb r.tag 66 t) at q)
    | inr t ↦ rw (at_past e r rs zero t) (length-next r _ rs _ (length-edit_at zero rs v (rw (ne_eqb r.tag 66 t) at q) h g))
  ]
    where
      here : r.tag ≡ 66 → slice_get (view r rs ∷ views rs) 0 ≡ Some v → length (encode (edit_at 0 e (r ∷ rs))) ≤ length (encode (r ∷ rs)) + growths c v.own
      here t s =
          let w : view r rs ≡ v = cc in
          let own : kids (suc r.level) rs ≡ v.own = ap (λ (x : View). x.own) w in
          let head : r.body ≡ v.head = ap (λ (x : View). x.head) w in
          let d : Grow e.child c 0 (kids (suc r.level) rs) = rw own g in
          let l = length-behind (suc r.level) 0 e.child c rs d in
          let z : size (with_body (e.head v) r) ≤ size r = size_less r (e.head v) (rw head h) in
          rw (at_view e r rs v t w)
          (omega (arith, length-encode r rs, length-encode (with_body (e.head v) r) (edit_behind (suc r.level) 0 e.child rs), l, z, ap (growths c) own))
  length-edit_at (suc i) (r ∷ rs) v q h g = elim (eq_or r.tag 66) [
    | inl t ↦ rw (at_next e r rs i t) (length-next r _ rs _ (length-edit_at i rs v (rw (eq-eqb r.tag 66 t) at q) h g))
    | inr t ↦ rw (at_past e r rs (suc i) t) (length-next r _ rs _ (length-edit_at (suc i) rs v (rw (ne_eqb r.tag 66 t) at q) h g))
  ]

-- ---- a fill

most_replaced : (a b : ℕ) (w l : List ℕ) → a ≤ b → length (replaced a b w l) ≤ length l + length w
unfolding replaced
most_replaced a b w l h = simp (length-append, length-take, length-drop) (omega arith)

most_shapes : (a b v : ℕ) (s : List ℕ) → length (packed (shapes_after a b v (shapes_in s))) ≤ length s
most_shapes a b v s = omega (arith, length-packed (shapes_after a b v (shapes_in s)), after_fewer a b v (shapes_in s), length-shapes s)

module _ (f : Field) (w : List ℕ) (ab : f.a ≤ f.b) where
  -- one child: the header of the field's control is long enough for its properties
  grow_body : (j : ℕ) (r : Rec) → (r.tag ≡ 71 → j ≡ f.ordinal → 8 ≤ length r.body) → (b : List ℕ) → new_body f w (as_child j r) ≡ Some b
      → size (with_body b r) ≤ size r + growth (length w + 4) r.tag
  grow_body j r long b e = elim (kind r.tag) [
    | text h ↦
        (let q : replaced (2 * f.a) (2 * f.b) w r.body ≡ b = (let x = body_text f w j r.tag r.body h in cc) in
        let l : length b ≤ length r.body + length w = rw (← q) (most_replaced (2 * f.a) (2 * f.b) w r.body (omega arith)) in
        omega (arith, size-more r b (length w) l, growth_text (length w + 4) r.tag h))
    | shapes h ↦
        (let q : packed (shapes_after f.a f.b (unit_count w) (shapes_in r.body)) ≡ b = (let x = body_shapes f w j r.tag r.body h in cc) in
        less (rw (← q) (most_shapes f.a f.b (unit_count w) r.body)))
    | layout h ↦ absurd (let x = body_layout f w j r.tag r.body h in let z : ◌≡◌ {A = ℕ} 0 1 = cc in omega arith)
    | control h ↦ bit (eqb j f.ordinal) refl (long h) (sym (body_control f w j r.tag r.body h) ∙ e)
    | other h₁ h₂ h₃ h₄ ↦
        (let q : r.body ≡ b = (let x = body_other f w j r.tag r.body h₁ h₂ h₃ h₄ in cc) in
        less (omega (arith, ap length q)))
  ]
    where
      less : length b ≤ length r.body → size (with_body b r) ≤ size r + growth (length w + 4) r.tag
      less h = omega (arith, size_less r b h)

      bit : (t : Bool) → eqb j f.ordinal ≡ t → (j ≡ f.ordinal → 8 ≤ length r.body)
          → ◌≡◌ {A = Option (List ℕ)} (Some (cond t (altered r.body) r.body)) (Some b) → size (with_body b r) ≤ size r + growth (length w + 4) r.tag
      bit true q long d =
          let s : altered r.body ≡ b = cc in
          less (omega (arith, ap length s, length-altered r.body (long (eqb-true j f.ordinal q))))
      bit false q long d = let s : r.body ≡ b = cc in less (omega (arith, ap length s))

  -- the children, before which j control headers stand
  grow_children : (j : ℕ) (k : List Rec) → ((i : ℕ) (b : List ℕ) → f.ordinal ≡ j + i → slice_get (controls k) i ≡ Some b → 8 ≤ length b)
      → Grow (new_body f w) (length w + 4) j k
  grow_children j [] long = tt
  grow_children j (r ∷ k) long = elim (eq_or r.tag 71) [
    | inl h ↦ (
      grow_body j r (λ t o. long 0 r.body (omega arith) (rw (controls_here r k h))),
      rw (count_next r.tag j h) (grow_children (suc j) k (λ i b o q. long (suc i) b (omega arith) (rw (controls_here r k h) q))),
    )
    | inr h ↦ (
      grow_body j r (λ t o. absurd (h t)),
      rw (count_same r.tag j h) (grow_children j k (λ i b o q. long i b o (controls_other_at i b h q))),
    )
  ]
    where
      controls_other_at : (i : ℕ) (b : List ℕ) → (r.tag ≡ 71 → ⊥) → slice_get (controls k) i ≡ Some b → slice_get (controls (r ∷ k)) i ≡ Some b
      controls_other_at i b h q = rw (controls_other r k h) q

length-filling : (f : Field) (w : List ℕ) (v : View) → 22 ≤ length v.head → length ((filling f w).head v) ≡ length v.head
unfolding filling
length-filling f w v h = length_head f.a f.b (unit_count w) _ v.head (omega arith)

-- the theorem: a sheet is longer than its section by at most the value and four bytes
module _ (id : ℕ) (w : List ℕ) (rs : List Rec) (h : Hit) (a : Accepted rs) (d : Done id w rs h) where
  pub sheet-long : length (encode (filled h w rs)) ≤ length (encode rs) + length w + 4
  unfolding filled
  sheet-long =
      let m = done_met id w rs h d in
      let v = m.v in
      let f = h.field in
      let k = keeps rs a h.paragraph v m.at in
      let ends = field_ends v (ready rs a h.paragraph v f m.at m.among) f m.among d.plain in
      let g : Grow (filling f w).child (length w + 4) 0 v.own = unfold filling in (grow_children f w ends.0 0 v.own
      (λ i b o q. (let e : f.ordinal ≡ i = omega arith in let n = field_long v f k m.among b (ap (slice_get (controls v.own)) e ∙ q) in omega arith))) in
      omega (
        arith,
        length-edit_at (filling f w) (length w + 4) h.paragraph rs v m.at (omega (arith, length-filling f w v k.header-long)) g,
        growths_once (length w + 4) v.own (view-once h.paragraph rs v (follows rs a).each m.at),
      )
