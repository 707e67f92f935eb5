-- The search after a fill: every other field with its id is found where it was, moved with the text. Assumes nothing.
use Rattle.std.specs.Prelude.{None, Option, Some, slice_get}
use mathlib.Core.Path.{◌≡◌, refl, ap, ◌∙◌}
use mathlib.Core.Logic.{inl, inr}
use Prim.Native.Nat.{ℕ, zero, suc, ◌+◌, ◌*◌, ◌-◌, ◌≤◌, ◌<◌}
use native.Mathlib.Omega.{arith}
use mathlib.Core.Bool.{Bool, true, false, cond}
use mathlib.Core.List.{List, [], ◌∷◌, ◌++◌, map}
use lib.Dec.{eqb}
use lib.ListN.{length, get_or, drop}
use borrow.Author.Tests.{eq-eqb, ne_eqb, eqb-true}
use Rattle.numbers.specs.Little.{little, bytes_of}
use Rattle.numbers.proofs.LittleLaws.{length-bytes_of}
use Rattle.records.specs.Records.{Rec, size}
use Rattle.text.specs.Units.{units}
use Rattle.text.specs.Walk.{walk, tokens, AllOrdinary}
use Rattle.text.proofs.UnitLaws.{length-units}
use Rattle.text.proofs.Cases.{eq_or}
use Rattle.paragraph.specs.View.{View, view, views, child, controls}
use Rattle.paragraph.proofs.BodyLaws.{controls_here, controls_other}
use Rattle.paragraph.specs.Rules.{counts_of, bytes_in}
use Rattle.filling.specs.Replacing.{replaced}
use Rattle.filling.specs.Fields.{Field, fields_in, fields, id_in, id_of, with_id}
use Rattle.filling.specs.Editing.{with_body, put, count_control, changed, edit_view, modified, as_child}
use Rattle.filling.specs.Search.{Hit, hit_of, hits}
use Rattle.filling.specs.Filling.{unit_count, with_bit15, altered, new_body, filling}
use Rattle.filling.proofs.PackingLaws.{over_drop}
use Rattle.filling.proofs.TextLaws.{units-replaced}
use Rattle.filling.proofs.FieldLaws.{moved_field, cut, fields_fill, Among, a_positive, a_to_b}
use Rattle.filling.proofs.FillLaws.{body_control, mapped, text-filled}

-- ---- a field's id is not touched by bit 15

pub drop-altered : (k : ℕ) (b : List ℕ) → drop (8 + k) (altered b) ≡ drop (8 + k) b
unfolding altered
drop-altered k b = over_drop 4 8 k (bytes_of 4 (with_bit15 (little 4 (drop 4 b)))) b (length-bytes_of 4 _) (omega arith)

pub id_altered : (b : List ℕ) → id_in (altered b) ≡ id_in b
unfolding id_in
id_altered b =
    let e : 11 + 2 * little 2 (drop 9 b) ≡ 8 + (3 + 2 * little 2 (drop 9 b)) = omega arith in
    rw (drop-altered 1 b, e, drop-altered (3 + 2 * little 2 (drop 9 b)) b)

id_cond : (t : Bool) (b : List ℕ) → id_in (cond t (altered b) b) ≡ id_in b
id_cond true b = id_altered b
id_cond false b = refl

controls-put : (o : Option (List ℕ)) (r : Rec) (x : List Rec) → (r.tag ≡ 71 → ⊥) → controls (put o r x) ≡ controls x
unfolding controls put with_body
controls-put None r x h = refl
controls-put (Some b) r x h = rw (ne_eqb r.tag 71 h)

controls_new : (r : Rec) (b : List ℕ) (x : List Rec) → r.tag ≡ 71 → controls (with_body b r ∷ x) ≡ b ∷ controls x
unfolding controls with_body
controls_new r b x h = rw (eq-eqb r.tag 71 h)

pub count_next : (t j : ℕ) → t ≡ 71 → count_control t j ≡ suc j
unfolding count_control
count_next t j h = rw (eq-eqb t 71 h)

pub count_same : (t j : ℕ) → (t ≡ 71 → ⊥) → count_control t j ≡ j
unfolding count_control
count_same t j h = rw (ne_eqb t 71 h)

-- the control headers after a fill: bit 15 in the field's own
unfoldable pub altered_at : ℕ → ℕ → List (List ℕ) → List (List ℕ)
altered_at n j [] = []
altered_at n j (b ∷ bs) = cond (eqb j n) (altered b) b ∷ altered_at n (suc j) bs

module _ (f : Field) (w : List ℕ) where
  pub controls-filled : (j : ℕ) (k : List Rec) → controls (changed j (new_body f w) k) ≡ altered_at f.ordinal j (controls k)
  unfolding changed put
  controls-filled j [] = unfold controls altered_at in refl
  controls-filled j (r ∷ k) = elim (eq_or r.tag 71) [
    | inl h ↦ rw (body_control f w j r.tag r.body h, controls_here r k h)
        (controls_new r (cond (eqb j f.ordinal) (altered r.body) r.body) (changed (count_control r.tag j) (new_body f w) k) h
        ∙ rw (count_next r.tag j h, controls-filled (suc j) k) (unfold altered_at in refl))
    | inr h ↦ controls-put (new_body f w (as_child j r)) r (changed (count_control r.tag j) (new_body f w) k) h
        ∙ rw (count_same r.tag j h, controls_other r k h) (controls-filled j k)
  ]

  ids_altered : (n j i : ℕ) (bs : List (List ℕ)) → id_in (get_or (altered_at n j bs) i []) ≡ id_in (get_or bs i [])
  unfolding altered_at
  ids_altered n j i [] = refl
  ids_altered n j zero (b ∷ bs) = id_cond (eqb j n) b
  ids_altered n j (suc i) (b ∷ bs) = ids_altered n (suc j) i bs

  pub id_filled : (v : View) (g : Field) (x y c : ℕ) → id_of (edit_view (filling f w) v) (moved_field x y c g) ≡ id_of v g
  unfolding id_of edit_view filling moved_field
  id_filled v g x y c = rw (controls-filled 0 v.own) (ids_altered f.ordinal 0 g.ordinal (controls v.own))

  pub with_id-filled : (id x y c : ℕ) (v : View) (fs : List Field)
      → with_id id (edit_view (filling f w) v) (map (moved_field x y c) fs) ≡ map (moved_field x y c) (with_id id v fs)
  unfolding with_id
  with_id-filled id x y c v [] = refl
  with_id-filled id x y c v (g ∷ fs) = rw (id_filled v g x y c, with_id-filled id x y c v fs) (go (eqb (id_of v g) id))
    where
      go : (t : Bool) → cond t (moved_field x y c g ∷ map (moved_field x y c) (with_id id v fs)) (map (moved_field x y c) (with_id id v fs))
          ≡ map (moved_field x y c) (cond t (g ∷ with_id id v fs) (with_id id v fs))
      go true = refl
      go false = refl

-- ---- the fields of a view after a fill

-- what is asked of a value: two bytes for each unit, all ordinary
pub no_field : (f : Field) → Among f (fields_in 0 (tokens (units []))) → ⊥
unfolding fields_in tokens walk units
no_field f m = m

module _ (f : Field) (w : List ℕ) (even : length w ≡ 2 * unit_count w) where
  text-units : (x : Option (List ℕ)) → Among f (fields_in 0 (tokens (units (bytes_in x)))) → f.plain ≡ true
      → units (bytes_in (mapped (replaced (2 * f.a) (2 * f.b) w) x)) ≡ replaced f.a f.b (units w) (units (bytes_in x))
  text-units None m p = absurd (no_field f m)
  text-units (Some b) m p =
      let h = a_to_b (units b) f m p in
      units-replaced f.a f.b (unit_count w) w b (omega (arith, h.0, h.1, length-units b)) even

  -- the text's units after the fill
  pub units-filled : (v : View) → Among f (fields v) → f.plain ≡ true
      → units (bytes_in (child 67 (edit_view (filling f w) v).own)) ≡ replaced f.a f.b (units w) (units (bytes_in (child 67 v.own)))
  unfolding fields edit_view filling
  units-filled v m p = ap (λ (o : Option (List ℕ)). units (bytes_in o)) (text-filled f w 0 v.own) ∙ text-units (child 67 v.own) m p

  pub fields-filled : (v : View) → Among f (fields v) → f.plain ≡ true → AllOrdinary (units w)
      → fields (edit_view (filling f w) v) ≡ map (moved_field f.a f.b (unit_count w)) (fields v)
  fields-filled v m p o =
      let us = units (bytes_in (child 67 v.own)) in
      unfold fields in (
      ap (λ (x : List ℕ). fields_in 0 (tokens x)) (units-filled v m p)
      ∙ fields_fill f (units w) us (cut us f m p) (a_positive us f m) o
      ∙ ap (λ (c : ℕ). map (moved_field f.a f.b c) (fields_in 0 (tokens us))) (length-units w))

  -- so the fields with an id
  pub found_filled : (id : ℕ) (v : View) → Among f (fields v) → f.plain ≡ true → AllOrdinary (units w)
      → with_id id (edit_view (filling f w) v) (fields (edit_view (filling f w) v)) ≡ map (moved_field f.a f.b (unit_count w)) (with_id id v (fields v))
  found_filled id v m p o =
      rw (fields-filled v m p o) (with_id-filled f w id f.a f.b (unit_count w) v (fields v))

-- ---- the search over views: each field with the id, with the number of its paragraph and its paragraph's number of marks

pub record Place : Type 0 where
  pub paragraph : ℕ
  pub marks : ℕ
  pub field : Field

unfoldable pub marks_in : View → ℕ
marks_in v = (counts_of v.head).marks

unfoldable pub place_in : ℕ → ℕ → Field → Place
place_in i m f = record { paragraph = i; marks = m; field = f }

unfoldable pub places : ℕ → ℕ → List View → List Place
places id i [] = []
places id i (v ∷ vs) = map (place_in i (marks_in v)) (with_id id v (fields v)) ++ places id (suc i) vs

-- a hit without its byte places
abbrev pub bare : Hit → Place
bare h = record { paragraph = h.paragraph; marks = h.marks; field = h.field }

map-append {ℓ ℓ'} : {A : Type ℓ} {B : Type ℓ'} (g : A → B) (a b : List A) → map g (a ++ b) ≡ map g a ++ map g b
map-append g [] b = refl
map-append g (x ∷ a) b = ap (λ t. g x ∷ t) (map-append g a b)

bare-hits : (i at : ℕ) (r : Rec) (rs : List Rec) (fs : List Field) → map bare (map (hit_of i at r rs) fs) ≡ map (place_in i (marks_in (view r rs))) fs
unfolding hit_of place_in marks_in view
bare-hits i at r rs [] = refl
bare-hits i at r rs (f ∷ fs) = ap (λ t. place_in i (marks_in (view r rs)) f ∷ t) (bare-hits i at r rs fs)

module _ (id i at : ℕ) (r : Rec) (rs : List Rec) where
  pub hits_here : r.tag ≡ 66
      → hits id i at (r ∷ rs) ≡ map (hit_of i at r rs) (with_id id (view r rs) (fields (view r rs))) ++ hits id (suc i) (at + size r) rs
  unfolding hits
  hits_here h = rw (eq-eqb r.tag 66 h, hits)

  pub hits_past : (r.tag ≡ 66 → ⊥) → hits id i at (r ∷ rs) ≡ hits id i (at + size r) rs
  unfolding hits
  hits_past h = rw (ne_eqb r.tag 66 h, hits)

pub hits_places : (id i at : ℕ) (rs : List Rec) → map bare (hits id i at rs) ≡ places id i (views rs)
unfolding views places
hits_places id i at [] = unfold hits in refl
hits_places id i at (r ∷ rs) = elim (eq_or r.tag 66) [
  | inl h ↦ rw (eq-eqb r.tag 66 h, hits_here id i at r rs h)
      (map-append bare (map (hit_of i at r rs) (with_id id (view r rs) (fields (view r rs)))) (hits id (suc i) (at + size r) rs)
      ∙ rw (bare-hits i at r rs (with_id id (view r rs) (fields (view r rs))), hits_places id (suc i) (at + size r) rs))
  | inr h ↦ rw (ne_eqb r.tag 66 h, hits_past id i at r rs h) (hits_places id i (at + size r) rs)
]

-- ---- the places after a change of paragraph n

unfoldable pub moved_place : ℕ → (Field → Field) → Place → Place
moved_place n g p = record { paragraph = p.paragraph; marks = p.marks; field = cond (eqb p.paragraph n) (g p.field) p.field }

moved_here : (n m : ℕ) (g : Field → Field) (fs : List Field) → map (place_in n m) (map g fs) ≡ map (moved_place n g) (map (place_in n m) fs)
unfolding place_in moved_place
moved_here n m g [] = refl
moved_here n m g (f ∷ fs) = rw (eq-eqb n n refl, moved_here n m g fs)

moved_there : (i n m : ℕ) (g : Field → Field) (fs : List Field) → (i ≡ n → ⊥) → map (moved_place n g) (map (place_in i m) fs) ≡ map (place_in i m) fs
unfolding place_in moved_place
moved_there i n m g [] h = refl
moved_there i n m g (f ∷ fs) h = rw (ne_eqb i n h, moved_there i n m g fs h)

places_past : (id n i : ℕ) (g : Field → Field) (vs : List View) → n < i → map (moved_place n g) (places id i vs) ≡ places id i vs
unfolding places
places_past id n i g [] h = refl
places_past id n i g (v ∷ vs) h =
    map-append (moved_place n g) (map (place_in i (marks_in v)) (with_id id v (fields v))) (places id (suc i) vs)
    ∙ rw (moved_there i n (marks_in v) g (with_id id v (fields v)) (λ e. omega arith), places_past id n (suc i) g vs (omega arith))

-- how a change of a view moves the fields with an id
pub record Moves (id : ℕ) (d : View → View) (g : Field → Field) (v : View) : Type 0 where
  pub fields : with_id id (d v) (fields (d v)) ≡ map g (with_id id v (fields v))
  pub marks : marks_in (d v) ≡ marks_in v

pub places_modified : (id i j : ℕ) (d : View → View) (g : Field → Field) (vs : List View) → ((v : View) → slice_get vs j ≡ Some v → Moves id d g v)
    → places id i (modified j d vs) ≡ map (moved_place (i + j) g) (places id i vs)
unfolding places modified
places_modified id i j d g [] m = refl
places_modified id i zero d g (v ∷ vs) m =
    let q : i + 0 ≡ i = omega arith in
    let e = m v refl in
    rw (
      q,
      e.fields,
      e.marks,
      moved_here i (marks_in v) g (with_id id v (fields v)),
      map-append (moved_place i g) (map (place_in i (marks_in v)) (with_id id v (fields v))) (places id (suc i) vs),
      places_past id i (suc i) g vs (omega arith),
    )
places_modified id i (suc j) d g (v ∷ vs) m =
    let q : suc i + j ≡ i + suc j = omega arith in
    rw (
      places_modified id (suc i) j d g vs m,
      q,
      map-append (moved_place (i + suc j) g) (map (place_in i (marks_in v)) (with_id id v (fields v))) (places id (suc i) vs),
      moved_there i (i + suc j) (marks_in v) g (with_id id v (fields v)) (λ e. omega arith),
    )

-- ---- a place that was found: its paragraph, and that it is a field of it

pub record Met (id : ℕ) (o : Option View) (p : Place) : Type 0 where
  pub v : View
  pub at : o ≡ Some v
  pub among : Among p.field (fields v)
  pub ident : id_of v p.field ≡ id
  pub same-marks : p.marks ≡ marks_in v

abbrev AllMet : ℕ → ℕ → List View → List Place → Type 0
AllMet id i vs [] = Unit {0}
AllMet id i vs (p ∷ ps) = (i ≤ p.paragraph) × Met id (slice_get vs (p.paragraph - i)) p × AllMet id i vs ps

met_append : (id i : ℕ) (vs : List View) (a b : List Place) → AllMet id i vs a → AllMet id i vs b → AllMet id i vs (a ++ b)
met_append id i vs [] b p q = q
met_append id i vs (x ∷ a) b p q = (p.0, p.1, met_append id i vs a b p.2 q)

met_here : (id i : ℕ) (v : View) (vs : List View) (fs : List Field) → ((f : Field) → Among f fs → Among f (fields v))
    → AllMet id i (v ∷ vs) (map (place_in i (marks_in v)) (with_id id v fs))
unfolding place_in with_id
met_here id i v vs [] s = tt
met_here id i v vs (f ∷ fs) s = go (eqb (id_of v f) id) refl (met_here id i v vs fs (λ x m. s x (inr m)))
  where
    go : (t : Bool) → eqb (id_of v f) id ≡ t → AllMet id i (v ∷ vs) (map (place_in i (marks_in v)) (with_id id v fs))
        → AllMet id i (v ∷ vs) (map (place_in i (marks_in v)) (cond t (f ∷ with_id id v fs) (with_id id v fs)))
    go true e r = (omega arith, (let q : i - i ≡ 0 = omega arith in rw q (record { v = v; at = refl; among = s f (inl refl); ident = eqb-true _ _ e; same-marks = refl })), r)
    go false e r = r

met_on : (id i : ℕ) (v : View) (vs : List View) (ps : List Place) → AllMet id (suc i) vs ps → AllMet id i (v ∷ vs) ps
met_on id i v vs [] a = tt
met_on id i v vs (p ∷ ps) a =
    (omega (arith, a.0), (let q : p.paragraph - i ≡ suc (p.paragraph - suc i) = omega (arith, a.0) in rw q a.1), met_on id i v vs ps a.2)

met : (id i : ℕ) (vs : List View) → AllMet id i vs (places id i vs)
unfolding places
met id i [] = tt
met id i (v ∷ vs) =
    met_append id i (v ∷ vs) (map (place_in i (marks_in v)) (with_id id v (fields v))) (places id (suc i) vs)
    (met_here id i v vs (fields v) (λ f m. m)) (met_on id i v vs (places id (suc i) vs) (met id (suc i) vs))

-- the only place with an id
pub met_one : (id : ℕ) (vs : List View) (p : Place) → places id 0 vs ≡ p ∷ [] → Met id (slice_get vs p.paragraph) p
met_one id vs p e =
    let a = rw e at (met id 0 vs) in
    let q : p.paragraph - 0 ≡ p.paragraph = omega arith in
    rw q at a.1
