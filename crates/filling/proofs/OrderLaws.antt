-- Two fills of two fields, in either order: the other field is still there, plain and alone, and both orders give the same records.
-- Assumes nothing.
use Rattle.std.specs.Prelude.{None, Option, Some, slice_get}
use mathlib.Core.Path.{◌≡◌, refl, sym, ap, ◌∙◌}
use mathlib.Core.Logic.{inl, inr}
use Prim.Native.Nat.{ℕ, ◌+◌, ◌/◌, ◌%◌, ◌≤◌, ◌<◌}
use native.Mathlib.Omega.{arith}
use mathlib.Core.Bool.{Bool, true, false, cond, ◌||◌}
use mathlib.Core.List.{List, [], ◌∷◌, map}
use lib.Dec.{ltb, eqb}
use lib.ListN.{length}
use borrow.Author.Tests.{lt-ltb, le-ltb, le-leb, lt-leb, eq-eqb, ne_eqb, eqb-true, eqb-false, ltb-false}
use Rattle.records.specs.Records.{Rec}
use Rattle.records.specs.declared.fault.Fault.TheVariants as F
use Rattle.text.specs.Units.{units}
use Rattle.text.specs.Walk.{tokens, AllOrdinary}
use Rattle.text.proofs.Cases.{lt_or, eq_or}
use Rattle.text.proofs.UnitLaws.{length-units}
use Rattle.paragraph.specs.View.{View, views, child}
use Rattle.paragraph.specs.Rules.{counts_of, bytes_in}
use Rattle.filling.specs.Fields.{Field, fields_in, fields, id_of}
use Rattle.filling.specs.Editing.{edit_view, edit_at}
use Rattle.filling.specs.Placing.{Leaves}
use Rattle.filling.specs.Search.{Hit, hits, one, refused, outcome, search}
use Rattle.filling.specs.Filling.{unit_count, Value, any_below, value_wrong, filling, unmarked, fillable, filled}
use Rattle.filling.proofs.EditLaws.{views-edit_at, at_at}
use Rattle.filling.proofs.FieldLaws.{moved_field, Among, Apart, same, before, behind, apart, a_positive, a_to_b}
use Rattle.filling.proofs.FillLaws.{takes-filling, fine_text, pushed, Ready, count_of, good, one_paragraph, marks-kept}
use Rattle.filling.proofs.SearchLaws.{no_field, found_filled, Place, marks_in, places, bare, hits_places, moved_place, Moves, places_modified, Met, met_one}

-- ---- a value that is not wrong

or_false : (a b : Bool) → a || b ≡ false → (a ≡ false) × (b ≡ false)
or_false true b e = absurd (let z : ◌≡◌ {A = ℕ} 0 1 = cc in omega arith)
or_false false b e = (refl, e)

all_ordinary : (us : List ℕ) → any_below 32 us ≡ false → AllOrdinary us
unfolding any_below
all_ordinary [] e = tt
all_ordinary (u ∷ us) e = let p = or_false _ _ e in (ltb-false u 32 p.0, all_ordinary us p.1)

pub value_right : (w : List ℕ) → value_wrong w ≡ false → Value w
unfolding value_wrong
value_right w e =
    let p = or_false (eqb (length w % 2) 1) (ltb 1024 (length w / 2) || any_below 32 (units w)) e in
    let q = or_false (ltb 1024 (length w / 2)) (any_below 32 (units w)) p.1 in
    let odd : length w % 2 ≡ 1 → ⊥ = eqb-false (length w % 2) 1 p.0 in
    record { even = omega arith; short = ltb-false 1024 (length w / 2) q.0; ordinary = all_ordinary (units w) q.1 }

none_below : (us : List ℕ) → AllOrdinary us → any_below 32 us ≡ false
unfolding any_below
none_below [] o = refl
none_below (u ∷ us) o = rw (le-ltb u 32 o.0) (none_below us o.1)

pub right_value : (w : List ℕ) → Value w → value_wrong w ≡ false
unfolding value_wrong
right_value w v =
    rw (ne_eqb (length w % 2) 1 (λ e. omega (arith, v.even)), le-ltb 1024 (length w / 2) v.short, none_below (units w) v.ordinary)

-- ---- what a fill that may be done has found

pub record Done (id : ℕ) (w : List ℕ) (rs : List Rec) (h : Hit) : Type 0 where
  pub value : Value w
  pub is : hits id 0 0 rs ≡ h ∷ []
  pub plain : h.field.plain ≡ true
  pub free : h.marks ≡ 0

pub fillable_wrong : (id : ℕ) (w : List ℕ) (rs : List Rec) → value_wrong w ≡ true → fillable id w rs ≡ refused F.ValueWrong 0
unfolding fillable
fillable_wrong id w rs e = rw (e, fillable)

pub fillable-right : (id : ℕ) (w : List ℕ) (rs : List Rec) → value_wrong w ≡ false → fillable id w rs ≡ unmarked (outcome (hits id 0 0 rs))
unfolding fillable search
fillable-right id w rs e = rw (e, fillable)

pub done : (id : ℕ) (w : List ℕ) (rs : List Rec) (h : Hit) → fillable id w rs ≡ one h → Done id w rs h
unfolding unmarked outcome
done id w rs h e = by_value (value_wrong w) refl
  where
    free : (k : Hit) (t : Bool) → eqb k.marks 0 ≡ t → cond t (one k) (refused F.MarksInParagraph k.header) ≡ one h → (k ≡ h) × (k.marks ≡ 0)
    free k true q d = (cc, eqb-true k.marks 0 q)
    free k false q d = absurd (let z : ◌≡◌ {A = ℕ} 0 1 = cc in omega arith)

    single : (k : Hit) (t : Bool) → k.field.plain ≡ t → unmarked (cond t (one k) (refused F.FieldNotPlain k.control)) ≡ one h
        → (k ≡ h) × (k.marks ≡ 0) × (k.field.plain ≡ true)
    single k true q d = let f = free k (eqb k.marks 0) refl d in (f.0, f.1, q)
    single k false q d = absurd (let z : ◌≡◌ {A = ℕ} 0 1 = cc in omega arith)

    by_hits : Value w → (hs : List Hit) → hits id 0 0 rs ≡ hs → unmarked (outcome hs) ≡ one h → Done id w rs h
    by_hits v [] q d = absurd (let z : ◌≡◌ {A = ℕ} 0 1 = cc in omega arith)
    by_hits v (k ∷ []) q d =
        let s = single k k.field.plain refl d in
        rw (← s.0) (record { value = v; is = q; plain = s.2; free = s.1 })
    by_hits v (k ∷ l ∷ hs) q d = absurd (let z : ◌≡◌ {A = ℕ} 0 1 = cc in omega arith)

    by_value : (t : Bool) → value_wrong w ≡ t → Done id w rs h
    by_value true q = absurd (let x = fillable_wrong id w rs q in let z : ◌≡◌ {A = ℕ} 0 1 = cc in omega arith)
    by_value false q = by_hits (value_right w q) (hits id 0 0 rs) refl (sym (fillable-right id w rs q) ∙ e)

pub fillable_done : (id : ℕ) (w : List ℕ) (rs : List Rec) (h : Hit) → Done id w rs h → fillable id w rs ≡ one h
unfolding unmarked outcome
fillable_done id w rs h d =
    fillable-right id w rs (right_value w d.value)
    ∙ rw d.is (ap unmarked (ap (λ (t : Bool). cond t (one h) (refused F.FieldNotPlain h.control)) d.plain) ∙ rw (eq-eqb h.marks 0 d.free))

-- its place over the views
pub done_place : (id : ℕ) (w : List ℕ) (rs : List Rec) (h : Hit) → Done id w rs h → places id 0 (views rs) ≡ bare h ∷ []
done_place id w rs h d = sym (hits_places id 0 0 rs) ∙ ap (map bare) d.is

pub done_met : (id : ℕ) (w : List ℕ) (rs : List Rec) (h : Hit) → Done id w rs h → Met id (slice_get (views rs) h.paragraph) (bare h)
done_met id w rs h d = met_one id (views rs) (bare h) (done_place id w rs h d)

-- ---- a field of an accepted view

module _ (v : View) (a : Ready v) (f : Field) (m : Among f (fields v)) (p : f.plain ≡ true) where
  pub field_positive : 0 < f.a
  unfolding fields
  field_positive = a_positive (units (bytes_in (child 67 v.own))) f m

  pub field_ends : (f.a ≤ f.b) × (f.b < count_of v)
  unfolding fields
  field_ends = go (child 67 v.own) refl m
    where
      go : (o : Option (List ℕ)) → child 67 v.own ≡ o → Among f (fields_in 0 (tokens (units (bytes_in o)))) → (f.a ≤ f.b) × (f.b < count_of v)
      go None e m' = absurd (no_field f m')
      go (Some b) e m' =
          let h = a_to_b (units b) f m' p in
          (h.0, omega (arith, h.1, length-units b, fine_text (count_of v) v.own b a.fine e))

-- ---- the other field after a fill

-- every paragraph that has a field is accepted
abbrev pub AllReady : List Rec → Type 0
AllReady rs = (i : ℕ) (v : View) (f : Field) → slice_get (views rs) i ≡ Some v → Among f (fields v) → Ready v

marks-filled : (f : Field) (w : List ℕ) (v : View) → Ready v → marks_in (edit_view (filling f w) v) ≡ marks_in v
unfolding marks_in counts_of edit_view filling
marks-filled f w v a = marks-kept f.a f.b (unit_count w) _ v.head (omega (arith, a.long))

module _ (id id' : ℕ) (w : List ℕ) (rs : List Rec) (h : Hit) (lv : Leaves rs) (ok : AllReady rs) (d : Done id w rs h) where
  moves : (v : View) → slice_get (views rs) h.paragraph ≡ Some v
      → Moves id' (edit_view (filling h.field w)) (moved_field h.field.a h.field.b (unit_count w)) v
  moves v e =
      let m = done_met id w rs h d in
      let q : m.v ≡ v = (let x = m.at in cc) in
      record {
        fields = found_filled h.field w d.value.even id' v (rw q at m.among) d.plain d.value.ordinary;
        marks = marks-filled h.field w v (ok h.paragraph v h.field e (rw q at m.among));
      }

  -- the fields with any id after the fill
  pub places_filled : places id' 0 (views (filled h w rs))
      ≡ map (moved_place h.paragraph (moved_field h.field.a h.field.b (unit_count w))) (places id' 0 (views rs))
  unfolding filled
  places_filled =
      let z : 0 + h.paragraph ≡ h.paragraph = omega arith in
      ap (places id' 0) (views-edit_at (filling h.field w) (takes-filling h.field w) h.paragraph rs lv)
      ∙ places_modified id' 0 h.paragraph (edit_view (filling h.field w)) (moved_field h.field.a h.field.b (unit_count w)) (views rs) moves
      ∙ rw z

  moved_plain : (t : Bool) (x y c : ℕ) (f : Field) → (cond t (moved_field x y c f) f).plain ≡ f.plain
  unfolding moved_field
  moved_plain true x y c f = refl
  moved_plain false x y c f = refl

  -- a field that may be filled after the fill could be before it
  pub done_before : (u : List ℕ) (k : Hit) → Done id' u (filled h w rs) k → (h' : Hit) × Done id' u rs h'
  unfolding moved_place
  done_before u k c = go (hits id' 0 0 rs) refl
    where
      found : (hs : List Hit) → hits id' 0 0 rs ≡ hs
          → bare k ∷ [] ≡ map (moved_place h.paragraph (moved_field h.field.a h.field.b (unit_count w))) (map bare hs)
      found hs e =
          sym (done_place id' u (filled h w rs) k c) ∙ places_filled
          ∙ ap (map (moved_place h.paragraph (moved_field h.field.a h.field.b (unit_count w)))) (sym (hits_places id' 0 0 rs) ∙ ap (map bare) e)

      go : (hs : List Hit) → hits id' 0 0 rs ≡ hs → (h' : Hit) × Done id' u rs h'
      go [] e = absurd (let q = found [] e in let z : ◌≡◌ {A = ℕ} 0 1 = cc in omega arith)
      go (h' ∷ []) e =
          let q = found (h' ∷ []) e in
          let b : bare k ≡ moved_place h.paragraph (moved_field h.field.a h.field.b (unit_count w)) (bare h') = cc in (
            h',
            record {
              value = c.value;
              is = e;
              plain = sym (ap (λ (x : Place). x.field.plain) b ∙ moved_plain (eqb h'.paragraph h.paragraph) h.field.a h.field.b (unit_count w) h'.field) ∙ c.plain;
              free = sym (ap (λ (x : Place). x.marks) b) ∙ c.free;
            },
          )
      go (h' ∷ l ∷ hs) e = absurd (let q = found (h' ∷ l ∷ hs) e in let z : ◌≡◌ {A = ℕ} 0 1 = cc in omega arith)

module _ (id id' : ℕ) (w u : List ℕ) (rs : List Rec) (h h' : Hit) (lv : Leaves rs) (ok : AllReady rs) (d : Done id w rs h) (d' : Done id' u rs h') where
  -- where the other field then stands
  unfoldable pub other_field : Field
  other_field = cond (eqb h'.paragraph h.paragraph) (moved_field h.field.a h.field.b (unit_count w) h'.field) h'.field

  place_after : places id' 0 (views (filled h w rs)) ≡ moved_place h.paragraph (moved_field h.field.a h.field.b (unit_count w)) (bare h') ∷ []
  place_after = places_filled id id' w rs h lv ok d ∙ rw (done_place id' u rs h' d')

  -- it is found again, alone
  pub record Again : Type 0 where
    pub hit : Hit
    pub is : hits id' 0 0 (filled h w rs) ≡ hit ∷ []
    pub paragraph : hit.paragraph ≡ h'.paragraph
    pub marks : hit.marks ≡ h'.marks
    pub field : hit.field ≡ other_field

  pub again : Again
  unfolding other_field moved_place
  again = go (hits id' 0 0 (filled h w rs)) refl
    where
      go : (hs : List Hit) → hits id' 0 0 (filled h w rs) ≡ hs → Again
      go [] e =
          let q = sym (ap (map bare) e) ∙ hits_places id' 0 0 (filled h w rs) ∙ place_after in
          absurd (let z : ◌≡◌ {A = ℕ} 0 1 = cc in omega arith)
      go (k ∷ []) e =
          let q = sym (ap (map bare) e) ∙ hits_places id' 0 0 (filled h w rs) ∙ place_after in
          let b : bare k ≡ moved_place h.paragraph (moved_field h.field.a h.field.b (unit_count w)) (bare h') = cc in
          record {
            hit = k;
            is = e;
            paragraph = ap (λ (x : Place). x.paragraph) b;
            marks = ap (λ (x : Place). x.marks) b;
            field = ap (λ (x : Place). x.field) b;
          }
      go (k ∷ l ∷ hs) e =
          let q = sym (ap (map bare) e) ∙ hits_places id' 0 0 (filled h w rs) ∙ place_after in
          absurd (let z : ◌≡◌ {A = ℕ} 0 1 = cc in omega arith)

  still_plain : (t : Bool) (x y c : ℕ) (f : Field) → f.plain ≡ true → (cond t (moved_field x y c f) f).plain ≡ true
  unfolding moved_field
  still_plain true x y c f p = p
  still_plain false x y c f p = p

  -- and may be filled
  pub again_done : Done id' u (filled h w rs) again.hit
  unfolding other_field
  again_done =
      record {
        value = d'.value;
        is = again.is;
        plain = ap (λ (f : Field). f.plain) again.field ∙ still_plain (eqb h'.paragraph h.paragraph) h.field.a h.field.b (unit_count w) h'.field d'.plain;
        free = again.marks ∙ d'.free;
      }

  pub again_filled : filled again.hit u (filled h w rs) ≡ edit_at h'.paragraph (filling other_field u) (filled h w rs)
  unfolding filled
  again_filled = rw (again.paragraph, again.field)

-- ---- the two ends meet

moved_pushed : (f g : Field) (v : ℕ) → f.a ≤ f.b → g.a ≤ g.b → f.b < g.a → moved_field f.a f.b v g ≡ pushed f v g
unfolding moved_field pushed
moved_pushed f g v p q l = rw (lt-leb g.a f.a (omega arith), le-ltb g.b f.b (omega arith))

moved_not : (f g : Field) (v : ℕ) → f.a ≤ f.b → g.a ≤ g.b → g.b < f.a → moved_field f.a f.b v g ≡ g
unfolding moved_field
moved_not f g v p q l = rw (le-leb g.a f.a (omega arith), lt-ltb g.b f.b (omega arith))

-- one paragraph, f before g
in_order : (f g : Field) (w u : List ℕ) (i : ℕ) (rs : List Rec) (v : View) → Value w → Value u → slice_get (views rs) i ≡ Some v → Ready v
    → Among f (fields v) → Among g (fields v) → f.plain ≡ true → g.plain ≡ true → f.b < g.a
    → edit_at i (filling (moved_field f.a f.b (unit_count w) g) u) (edit_at i (filling f w) rs)
    ≡ edit_at i (filling (moved_field g.a g.b (unit_count u) f) w) (edit_at i (filling g u) rs)
in_order f g w u i rs v x y e a mf mg pf pg l =
    let ef = field_ends v a f mf pf in
    let eg = field_ends v a g mg pg in
    rw (moved_pushed f g (unit_count w) ef.0 eg.0 l, moved_not g f (unit_count u) eg.0 ef.0 l)
    (one_paragraph f g w u (count_of v)
    (record {
      positive = field_positive v a f mf pf;
      first = ef.0;
      apart = l;
      second = eg.0;
      within = eg.1;
      even = x.even;
      small = omega (arith, a.small, x.short, y.short);
    })
    i rs (λ z q. let s : z ≡ v = cc in rw s (good v a)))

carry : (id : ℕ) (p : Place) (o o' : Option View) → o ≡ o' → Met id o p → Met id o' p
carry id p o o' e m = rw e at m

apart_fields : (v : View) (f g : Field) → f.plain ≡ true → g.plain ≡ true → Among f (fields v) → Among g (fields v) → Apart f g
unfolding fields
apart_fields v f g p q m n = apart (units (bytes_in (child 67 v.own))) f g p q m n

module _ (id id' : ℕ) (ne : id ≡ id' → ⊥) (w u : List ℕ) (rs : List Rec) (h h' : Hit) (lv : Leaves rs) (ok : AllReady rs)
    (d : Done id w rs h) (d' : Done id' u rs h') where
  -- both in one paragraph
  meet_one : (i : ℕ) → Met id (slice_get (views rs) i) (bare h) → Met id' (slice_get (views rs) i) (bare h')
      → edit_at i (filling (moved_field h.field.a h.field.b (unit_count w) h'.field) u) (edit_at i (filling h.field w) rs)
      ≡ edit_at i (filling (moved_field h'.field.a h'.field.b (unit_count u) h.field) w) (edit_at i (filling h'.field u) rs)
  meet_one i m m' =
      let q : m'.v ≡ m.v = (let x = m.at in let y = m'.at in cc) in
      go (rw q at m'.among) (rw q at m'.ident)
    where
      go : Among h'.field (fields m.v) → id_of m.v h'.field ≡ id'
          → edit_at i (filling (moved_field h.field.a h.field.b (unit_count w) h'.field) u) (edit_at i (filling h.field w) rs)
          ≡ edit_at i (filling (moved_field h'.field.a h'.field.b (unit_count u) h.field) w) (edit_at i (filling h'.field u) rs)
      go mg eg = elim (apart_fields m.v h.field h'.field d.plain d'.plain m.among mg) [
        | same s ↦ absurd (ne (let x = m.ident in cc))
        | before l ↦ in_order h.field h'.field w u i rs m.v d.value d'.value m.at (ok i m.v h.field m.at m.among) m.among mg d.plain d'.plain l
        | behind l ↦ sym (in_order h'.field h.field u w i rs m.v d'.value d.value m.at (ok i m.v h.field m.at m.among) mg m.among d'.plain d.plain l)
      ]

  meet : edit_at h'.paragraph
      (filling (cond (eqb h'.paragraph h.paragraph) (moved_field h.field.a h.field.b (unit_count w) h'.field) h'.field) u)
      (edit_at h.paragraph (filling h.field w) rs)
      ≡ edit_at h.paragraph (filling (cond (eqb h.paragraph h'.paragraph) (moved_field h'.field.a h'.field.b (unit_count u) h.field) h.field) w)
      (edit_at h'.paragraph (filling h'.field u) rs)
  meet = elim (eq_or h.paragraph h'.paragraph) [
    | inl e ↦
        (let m' : Met id' (slice_get (views rs) h.paragraph) (bare h')
        = carry id' (bare h') _ _ (ap (λ (k : ℕ). slice_get (views rs) k) (sym e)) (done_met id' u rs h' d') in
        rw (← e, eq-eqb h.paragraph h.paragraph refl) (meet_one h.paragraph (done_met id w rs h d) m'))
    | inr e ↦ rw (ne_eqb h.paragraph h'.paragraph e, ne_eqb h'.paragraph h.paragraph (λ z. e (sym z)))
        (elim (lt_or h.paragraph h'.paragraph) [
          | inl l ↦ sym (at_at (filling h.field w) (filling h'.field u) (takes-filling h.field w) h.paragraph h'.paragraph rs l lv)
          | inr l ↦ at_at (filling h'.field u) (filling h.field w) (takes-filling h'.field u) h'.paragraph h.paragraph rs (omega arith) lv
        ])
  ]

-- ---- two fills that may be done may be done in both orders, and give the same records

pub record Both (id id' : ℕ) (w u : List ℕ) (rs : List Rec) (h h' : Hit) : Type 0 where
  pub second : Hit
  pub second_is : fillable id' u (filled h w rs) ≡ one second
  pub second' : Hit
  pub second'_is : fillable id w (filled h' u rs) ≡ one second'
  pub same : filled second u (filled h w rs) ≡ filled second' w (filled h' u rs)

pub both_orders : (id id' : ℕ) → (id ≡ id' → ⊥) → (w u : List ℕ) (rs : List Rec) (h h' : Hit) → Leaves rs → AllReady rs
    → fillable id w rs ≡ one h → fillable id' u rs ≡ one h' → Both id id' w u rs h h'
unfolding other_field filled
both_orders id id' ne w u rs h h' lv ok e e' = go (done id w rs h e) (done id' u rs h' e')
  where
    go : Done id w rs h → Done id' u rs h' → Both id id' w u rs h h'
    go d d' =
        record {
          second = (again id id' w u rs h h' lv ok d d').hit;
          second_is = fillable_done id' u (filled h w rs) _ (again_done id id' w u rs h h' lv ok d d');
          second' = (again id' id u w rs h' h lv ok d' d).hit;
          second'_is = fillable_done id w (filled h' u rs) _ (again_done id' id u w rs h' h lv ok d' d);
          same = again_filled id id' w u rs h h' lv ok d d' ∙ meet id id' ne w u rs h h' lv ok d d' ∙ sym (again_filled id' id u w rs h' h lv ok d' d);
        }
