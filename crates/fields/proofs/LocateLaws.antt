-- Where a hit stands: its paragraph in the stream, and what an edit of that paragraph makes of the stream. Assumes nothing.
use Rattle.std.specs.Prelude.{Err, Ok}
use Prim.Native.Nat.{ℕ, suc, ◌+◌, ◌-◌, ◌*◌, ◌≤◌, ◌<◌, min}
use native.Mathlib.Omega.{arith}
use native.Mathlib.Nat.{add-zero, add_assoc}
use mathlib.Core.Path.{◌≡◌, refl, sym, ap, ap₂, ◌∙◌, subst}
use mathlib.Core.Logic.{◌⊎◌, inl, inr}
use mathlib.Core.Bool.{Bool, true, false, cond}
use mathlib.Core.List.{List, [], ◌∷◌, ◌++◌, map, append_assoc}
use lib.ListN.{length, take, drop, length-take}
use lib.Seq.{take_at, drop_at, take-add, drop-drop}
use borrow.Author.Tests.{eq-eqb, ne_eqb}
use Rattle.numbers.specs.Little.{Bytes}
use Rattle.records.specs.Records.{Rec, encode_one, encode, size}
use Rattle.records.proofs.ReadingLaws.{length-encode_one}
use Rattle.text.proofs.Cases.{eq_or}
use Rattle.paragraph.specs.View.{View, view, kids, child}
use Rattle.paragraph.specs.Stream.{records_in}
use Rattle.acceptance.specs.Keeps.{Keeps}
use Rattle.paragraph.proofs.StreamLaws.{stood_of}
use Rattle.filling.specs.Fields.{Field, fields, id_of, with_id}
use Rattle.filling.specs.Search.{Hit, hit_of, hits, Outcome, one, refused, outcome, search}
use Rattle.records.specs.declared.fault.Fault.TheVariants as F
use Rattle.search.specs.Searching.{told, met_with}
use Rattle.search.specs.Steps.{span_of}
use Rattle.fields.specs.Outcomes.{refusal, plain_field, Searched}
use Rattle.records.specs.declared.fault.Refusal.{Refusal}
use Rattle.filling.specs.Filling.{text_answer}
use Rattle.text.specs.Units.{units}
use Rattle.text.proofs.UnitLaws.{length-units}
use Rattle.paragraph.specs.Rules.{bytes_in}
use Rattle.paragraph.specs.Places.{found_in, unit_place}
use Rattle.search.specs.declared.seek.Hit as told-hit
use Rattle.search.specs.declared.seek.Met.{Met}
use Rattle.search.specs.declared.seek.Met.TheVariants as M
use Rattle.search.proofs.SearchLaws.{met_twice, TextAt, text_at}
use Rattle.filling.specs.Editing.{Edit, edit_here, edit_at}
use Rattle.filling.proofs.EditLaws.{at_here, at_next, at_past}
use Rattle.filling.proofs.FieldLaws.{Among, a_to_b}
use Rattle.filling.proofs.SearchLaws.{hits_here, hits_past}
use Rattle.search.specs.Accepted.{Keep, Searchable}

abbrev pub Met-in : Hit → List Hit → Type 0
Met-in h [] = ⊥
Met-in h (k ∷ hs) = (h ≡ k) ⊎ Met-in h hs

met_append : (h : Hit) (xs ys : List Hit) → Met-in h (xs ++ ys) → Met-in h xs ⊎ Met-in h ys
met_append h [] ys m = inr m
met_append h (x ∷ xs) ys (inl e) = inl (inl e)
met_append h (x ∷ xs) ys (inr m) = elim (met_append h xs ys m) [ inl a ↦ inl (inr a) | inr a ↦ inr a ]

met_map : (g : Field → Hit) (h : Hit) (fs : List Field) → Met-in h (map g fs) → (f : Field) × (h ≡ g f) × Among f fs
met_map g h [] m = absurd m
met_map g h (f ∷ fs) (inl e) = (f, e, inl refl)
met_map g h (f ∷ fs) (inr m) = let r = met_map g h fs m in (r.0, r.1, inr r.2)

with_among : (id : ℕ) (v : View) (fs : List Field) (f : Field) → Among f (with_id id v fs) → Among f fs
unfolding with_id
with_among id v [] f m = absurd m
with_among id v (g ∷ fs) f m = elim (eq_or (id_of v g) id) [
  | inl e ↦ here (λ n. with_among id v fs f n) (rw (eq-eqb (id_of v g) id e) at m)
  | inr e ↦ inr (with_among id v fs f (rw (ne_eqb (id_of v g) id e) at m))
]
  where
    here : (Among f (with_id id v fs) → Among f fs) → Among f (g ∷ with_id id v fs) → Among f (g ∷ fs)
    here ih (inl e) = inl e
    here ih (inr n) = inr (ih n)

-- a hit among records that begin at `at`, before which i paragraphs stand
pub record Located (s : List ℕ) (at i : ℕ) (all : List Rec) (h : Hit) : Type 0 where
  pub rec : Rec
  pub rs : List Rec
  pub back : ℕ
  pub ahead : ℕ
  pub number_is : h.paragraph ≡ i + back
  pub place_is : h.header ≡ at + ahead
  pub stands : records_in (drop (at + ahead) s) ≡ rec ∷ rs
  pub whole : encode (rec ∷ rs) ≡ drop (at + ahead) s
  pub tag_is : rec.tag ≡ 66
  pub keeps : Keeps (view rec rs)
  pub among : Among h.field (fields (view rec rs))
  pub hit_is : h ≡ hit_of (i + back) (at + ahead) rec rs h.field
  pub edited : (e : Edit) → encode (edit_at back e all) ≡ take ahead (drop at s) ++ encode (edit_here e rec rs)

module _ (s : List ℕ) (bs : Bytes s) (id : ℕ) where
  -- the bytes of the first record
  first_bytes : (at : ℕ) (r : Rec) (rs : List Rec) → encode (r ∷ rs) ≡ drop at s → encode_one r ≡ take (size r) (drop at s)
  unfolding encode
  first_bytes at r rs e = sym (ap (take (size r)) (sym e) ∙ take_at (encode_one r) (encode rs) (size r) (length-encode_one r))

  rest_bytes : (at : ℕ) (r : Rec) (rs : List Rec) → encode (r ∷ rs) ≡ drop at s → encode rs ≡ drop (at + size r) s
  unfolding encode
  rest_bytes at r rs e =
      sym (drop_at (encode_one r) (encode rs) (size r) (length-encode_one r)) ∙ ap (drop (size r)) e ∙ drop-drop (size r) at s

  -- behind one more record
  past : (at i : ℕ) (r : Rec) (rs : List Rec) (h : Hit) (j : ℕ) → encode (r ∷ rs) ≡ drop at s → (l : Located s (at + size r) j rs h)
      → (k : ℕ) → j + l.back ≡ i + k → ((e : Edit) → edit_at k e (r ∷ rs) ≡ r ∷ edit_at l.back e rs) → Located s at i (r ∷ rs) h
  unfolding encode
  past at i r rs h j w l k n f =
      let to : at + (size r + l.ahead) ≡ at + size r + l.ahead = sym (add_assoc at (size r) l.ahead) in
      record {
        rec = l.rec;
        rs = l.rs;
        back = k;
        ahead = size r + l.ahead;
        number_is = l.number_is ∙ n;
        place_is = l.place_is ∙ sym to;
        stands = rw to l.stands;
        whole = rw to l.whole;
        tag_is = l.tag_is;
        keeps = l.keeps;
        among = l.among;
        hit_is = rw (to, ← n) l.hit_is;
        edited = λ e.
            ap encode (f e)
            ∙ ap₂ (λ (x y : List ℕ). x ++ y) (first_bytes at r rs w) (l.edited e)
            ∙ sym (append_assoc (take (size r) (drop at s)) (take l.ahead (drop (at + size r) s)) (encode (edit_here e l.rec l.rs)))
            ∙ ap (λ (x : List ℕ). x ++ encode (edit_here e l.rec l.rs))
            (ap (λ (x : List ℕ). take (size r) (drop at s) ++ take l.ahead x) (sym (drop-drop (size r) at s)) ∙ sym (take-add (size r) l.ahead (drop at s)));
      }

  pub located : (at i : ℕ) (rs : List Rec) → records_in (drop at s) ≡ rs → encode rs ≡ drop at s → Keep rs → (h : Hit) → Met-in h (hits id i at rs) → Located s at i rs h
  unfolding hit_of
  located at i [] q w k h m = unfold hits in absurd m
  located at i (r ∷ rs) q w k h m = elim (eq_or r.tag 66) [
    | inr t ↦
        (let l = located (at + size r) i rs (stood_of s at bs r rs q).1 (rest_bytes at r rs w) k.1 h (rw (hits_past id i at r rs t) at m) in
        past at i r rs h i w l l.back refl (λ e. at_past e r rs l.back t))
    | inl t ↦ elim (met_append h (map (hit_of i at r rs) (with_id id (view r rs) (fields (view r rs)))) (hits id (suc i) (at + size r) rs) (rw (hits_here id i at r rs t) at m)) [
      | inr n ↦
          (let l = located (at + size r) (suc i) rs (stood_of s at bs r rs q).1 (rest_bytes at r rs w) k.1 h n in
          past at i r rs h (suc i) w l (suc l.back) (omega arith) (λ e. at_next e r rs l.back t))
      | inl n ↦ here t (met_map (hit_of i at r rs) h (with_id id (view r rs) (fields (view r rs))) n)
    ]
  ]
    where
      here : r.tag ≡ 66 → (f : Field) × (h ≡ hit_of i at r rs f) × Among f (with_id id (view r rs) (fields (view r rs))) → Located s at i (r ∷ rs) h
      here t x =
          let f-is : h.field ≡ x.0 = ap (λ (z : Hit). z.field) x.1 in
          let zero-at : at + 0 ≡ at = add-zero at in
          let zero-i : i + 0 ≡ i = add-zero i in
          record {
            rec = r;
            rs = rs;
            back = 0;
            ahead = 0;
            number_is = ap (λ (z : Hit). z.paragraph) x.1 ∙ sym zero-i;
            place_is = ap (λ (z : Hit). z.header) x.1 ∙ sym zero-at;
            stands = rw zero-at q;
            whole = rw zero-at w;
            tag_is = t;
            keeps = k.0 t;
            among = with_among id (view r rs) (fields (view r rs)) h.field (rw f-is x.2);
            hit_is = x.1 ∙ ap₂ (λ (p q : ℕ). hit_of p q r rs x.0) (sym zero-i) (sym zero-at) ∙ ap (hit_of (i + 0) (at + 0) r rs) (sym f-is);
            edited = λ e. ap encode (at_here e r rs t);
          }

-- ---- what one search comes to

-- of a whole section
module _ (s : List ℕ) (bs : Bytes s) (id : ℕ) (h : Hit) (a : Searchable s) (only : hits id 0 0 (records_in s) ≡ h ∷ []) where
  pub here_is : Located s 0 0 (records_in s) h
  here_is = located s bs id 0 0 (records_in s) refl a.whole a.keep h (subst (Met-in h) (sym only) (inl refl))

-- the search's outcome in the code's own types
abbrev pub searched_of : Outcome → Searched
searched_of (one h) = Ok (told h)
searched_of (refused f p) = refusal f (record { 0 = p })

pub searched_cond : (b : Bool) (x y : Outcome) → searched_of (cond b x y) ≡ cond b (searched_of x) (searched_of y)
searched_cond true x y = refl
searched_cond false x y = refl

-- is what was met
outcome_met : (hs : List Hit) → plain_field (met_with M.Nothing hs) ≡ searched_of (outcome hs)
unfolding outcome met_with plain_field
outcome_met [] = refl
outcome_met (h ∷ []) = sym (searched_cond h.field.plain _ _)
outcome_met (h ∷ k ∷ hs) = ap plain_field (met_twice (record { 0 = k.control }) hs)

pub field_met : (id : ℕ) (rs : List Rec) {m : Met} → m ≡ met_with M.Nothing (hits id 0 0 rs) → plain_field m ≡ searched_of (search id rs)
unfolding search
field_met id rs e = ap plain_field e ∙ outcome_met (hits id 0 0 rs)

-- ---- the one field

-- it was met alone, and is plain
pub only_one : (hs : List Hit) (h : Hit) → outcome hs ≡ one h → (hs ≡ h ∷ []) × (h.field.plain ≡ true)
unfolding outcome
only_one [] h e = absurd (let z : ◌≡◌ {A = ℕ} 0 1 = cc in omega arith)
only_one (k ∷ []) h e = go k.field.plain refl e
  where
    go : (b : Bool) → k.field.plain ≡ b → cond b (one k) (refused F.FieldNotPlain k.control) ≡ one h → (k ∷ [] ≡ h ∷ []) × (h.field.plain ≡ true)
    go true p q = let same : k ≡ h = cc in (ap (λ (z : Hit). z ∷ []) same, sym (ap (λ (z : Hit). z.field.plain) same) ∙ p)
    go false p q = absurd (let z : ◌≡◌ {A = ℕ} 0 1 = cc in omega arith)
only_one (k ∷ l ∷ hs) h e = absurd (let z : ◌≡◌ {A = ℕ} 0 1 = cc in omega arith)

-- what is known of it
pub record Only (s : List ℕ) (h : Hit) : Type 0 where
  pub here : Located s 0 0 (records_in s) h
  pub plain : h.field.plain ≡ true
  pub a_b : h.field.a ≤ h.field.b
  pub inside : h.text + 2 * h.field.b ≤ length s

module _ (s : List ℕ) (bs : Bytes s) (a : Searchable s) (id : ℕ) (h : Hit) (e : search id (records_in s) ≡ one h) where
  pub only : Only s h
  unfolding search fields view hit_of
  only =
      let o = only_one (hits id 0 0 (records_in s)) h e in
      let l = here_is s bs id h a o.0 in
      let at = 0 + l.ahead in
      let n = suc l.rec.level in
      let go = at + size l.rec in
      let rest : records_in (drop go s) ≡ l.rs = (stood_of s at bs l.rec l.rs l.stands).1 in
      let t : TextAt s n go l.rs _ = subst (λ (x : List Rec). TextAt s n go x (span_of (found_in n 67 0 go x))) rest (text_at s bs n go) in
      let us = units (bytes_in (child 67 (kids n l.rs))) in
      let ab = a_to_b us h.field l.among o.1 in
      let f = span_of (found_in n 67 0 go l.rs) in
      let text : h.text ≡ f.place.0 = ap (λ (z : Hit). z.text) l.hit_is ∙ sym t.place_is in
      record {
        here = l;
        plain = o.1;
        a_b = ab.0;
        inside =
            omega
            (arith, ab.1, text, ap length t.units_are, length-units (take f.len (drop f.place.0 s)), length-take f.len (drop f.place.0 s), t.inside);
      }

-- by what was searched
pub searched_hit : (o : Outcome) (x : told-hit.Hit) → searched_of o ≡ Ok x → (h : Hit) × (o ≡ one h) × (told h ≡ x)
searched_hit (one h) x e = (h, refl, cc)
searched_hit (refused f p) x e = absurd (let z : ◌≡◌ {A = ℕ} 0 1 = cc in omega arith)

pub searched_refused : (o : Outcome) (r : Refusal) → searched_of o ≡ Err r → o ≡ refused r.fault r.place.0
searched_refused (one h) r e = absurd (let z : ◌≡◌ {A = ℕ} 0 1 = cc in omega arith)
searched_refused (refused f p) r e =
    let same : ◌≡◌ {A = Refusal} (record { fault = f; place = record { 0 = p } }) r = cc in
    ap (λ (z : Refusal). refused z.fault z.place.0) same

pub text_refused : (id : ℕ) (rs : List Rec) (r : Refusal) → searched_of (search id rs) ≡ Err r → Err r ≡ text_answer id rs
unfolding text_answer
text_refused id rs r e = sym (rw (searched_refused (search id rs) r e, text_answer))

answer_one : (id : ℕ) (rs : List Rec) (h : Hit) → search id rs ≡ one h
    → text_answer id rs ≡ Ok (record { place = record { 0 = h.text + 2 * h.field.a }; len = 2 * (h.field.b - h.field.a) })
unfolding text_answer
answer_one id rs h e = rw (e, text_answer)

-- the numbers that the code computes
pub record Bounds (s : List ℕ) (x : told-hit.Hit) : Type 0 where
  pub a_b : x.field.a.0 ≤ x.field.b.0
  pub inside : x.text.0 + 2 * x.field.b.0 ≤ length s

pub bounds : (s : List ℕ) (bs : Bytes s) (a : Searchable s) (id : ℕ) (x : told-hit.Hit) → searched_of (search id (records_in s)) ≡ Ok x → Bounds s x
bounds s bs a id x e =
    let k = searched_hit (search id (records_in s)) x e in
    let o = only s bs a id k.0 k.1 in
    subst (Bounds s) k.2 (record { a_b = o.a_b; inside = o.inside })

-- the place of its text, as the code finds it
pub text_one : (s : List ℕ) (id : ℕ) (rs : List Rec) (x : told-hit.Hit) → Bounds s x → length s < 18446744073709551616 → searched_of (search id rs) ≡ Ok x
    → Ok (record { place = unit_place x.text x.field.a; len = 2 * (x.field.b.0 - x.field.a.0) }) ≡ text_answer id rs
text_one s id rs x d h e =
    let k = searched_hit (search id rs) x e in
    let z : min 18446744073709551615 (x.text.0 + 2 * x.field.a.0) ≡ x.text.0 + 2 * x.field.a.0 = omega (arith, d.a_b, d.inside) in
    ap (λ (i : ℕ). Ok (record { place = record { 0 = i }; len = 2 * (x.field.b.0 - x.field.a.0) })) z
    ∙ ap (λ (z : told-hit.Hit). Ok (record { place = record { 0 = z.text.0 + 2 * z.field.a.0 }; len = 2 * (z.field.b.0 - z.field.a.0) })) (sym k.2) ∙ sym (answer_one id rs k.0 k.1)
