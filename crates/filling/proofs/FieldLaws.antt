-- The fields of a text: each plain one cuts it in three, they stand one behind another, and a fill of one moves the others with the text.
-- Assumes nothing.
use Rattle.std.specs.Prelude.{None, Option, Some}
use mathlib.Core.Path.{◌≡◌, refl, sym, ap, ◌∙◌}
use mathlib.Core.Logic.{◌⊎◌, inl, inr}
use Prim.Native.Nat.{ℕ, zero, suc, ◌+◌, ◌-◌, ◌≤◌, ◌<◌}
use native.Mathlib.Omega.{arith}
use mathlib.Core.Bool.{true, cond}
use mathlib.Core.List.{List, [], ◌∷◌, ◌++◌, map, append_assoc}
use lib.Dec.{ltb, leb, eqb}
use lib.ListN.{length, length-append}
use lib.Seq.{append_snoc}
use borrow.Author.Tests.{lt-ltb, le-ltb, le-leb, lt-leb, eq-eqb, ne_eqb, eqb-true}
use Rattle.text.specs.Asked.{among, class_of, control, what, width}
use Rattle.text.specs.Walk.{Token, walk, tokens, is_extended, AllOrdinary}
use Rattle.text.specs.declared.Class.TheVariants.{Extended}
use Rattle.text.specs.declared.Control.{Control}
use Rattle.text.specs.declared.Standing.{Standing}
use Rattle.text.specs.declared.Standing.TheVariants as St
use Rattle.text.proofs.Cases.{lt_or, eq_or}
use Rattle.text.proofs.TableLaws.{what-control, what_ordinary}
use Rattle.text.proofs.PartLaws.{left_over, left_append, left_ge, left_all, shift, width_one, walk_parts}
use Rattle.filling.specs.Replacing.{replaced}
use Rattle.filling.specs.Fields.{Field, next, field_at, fields_in}
use Rattle.filling.proofs.TextLaws.{walk_fill}

-- ---- the tokens that the search tells apart

abbrev pub code_of : Standing → ℕ
code_of (St.Ordinary u) = u
code_of (St.Control c) = c.code

pub code_what : (u : ℕ) → code_of (what u) ≡ u
code_what u = elim (lt_or u 32) [ inl h ↦ rw (what-control u h) | inr h ↦ rw (what_ordinary u h) ]

pub data Seen (s : Standing) : Type 0 where
  ordinary : (u : ℕ) → s ≡ St.Ordinary u → Seen s
  field : (c : Control) → s ≡ St.Control c → c.code ≡ 3 → Seen s
  other : (c : Control) → s ≡ St.Control c → (c.code ≡ 3 → ⊥) → Seen s

pub seen : (s : Standing) → Seen s
seen (St.Ordinary u) = ordinary u refl
seen (St.Control c) = elim (eq_or c.code 3) [ inl e ↦ field c refl e | inr e ↦ other c refl e ]

module _ (t : Token) (ts : List Token) where
  pub next_ordinary : {u : ℕ} → t.what ≡ St.Ordinary u → next (t ∷ ts) ≡ next ts
  unfolding next
  next_ordinary e = rw (e, next)

  pub next-control : {c : Control} → t.what ≡ St.Control c → next (t ∷ ts) ≡ Some (t.at, c.code)
  unfolding next
  next-control e = rw (e, next)

  pub fields_ordinary : (n : ℕ) {u : ℕ} → t.what ≡ St.Ordinary u → fields_in n (t ∷ ts) ≡ fields_in n ts
  unfolding fields_in
  fields_ordinary n e = rw (e, fields_in)

  pub fields_field : (n : ℕ) {c : Control} → t.what ≡ St.Control c → c.code ≡ 3
      → fields_in n (t ∷ ts) ≡ field_at n t.at (next ts) ∷ fields_in (is_extended (St.Control c) + n) ts
  unfolding fields_in
  fields_field n {c} e h = rw (e, fields_in, eq-eqb c.code 3 h)

  pub fields_other : (n : ℕ) {c : Control} → t.what ≡ St.Control c → (c.code ≡ 3 → ⊥)
      → fields_in n (t ∷ ts) ≡ fields_in (is_extended (St.Control c) + n) ts
  unfolding fields_in
  fields_other n {c} e h = rw (e, fields_in, ne_eqb c.code 3 h)

-- a field's control owns a control header
pub field_extended : (u : ℕ) (c : Control) → what u ≡ St.Control c → c.code ≡ 3 → c.class ≡ Extended
unfolding class_of among
field_extended u c e h = elim (lt_or u 32) [
  | inl l ↦
      (let same : control u ≡ c = let q : St.Control (control u) ≡ St.Control c = sym (what-control u l) ∙ e in cc in
      let three : u ≡ 3 = ap (λ (x : Control). x.code) same ∙ h in
      sym (ap (λ (x : Control). x.class) same) ∙ ap class_of three)
  | inr l ↦ absurd (let q : St.Ordinary u ≡ St.Control c = sym (what_ordinary u l) ∙ e in let z : ◌≡◌ {A = ℕ} 0 1 = cc in omega arith)
]

pub field_ordinal : (n p : ℕ) (o : Option (ℕ × ℕ)) → (field_at n p o).ordinal ≡ n
unfolding field_at
field_ordinal n p None = refl
field_ordinal n p (Some x) = refl

-- ---- lists of tokens

-- below x, a field's control with all its eight positions
abbrev pub Low : ℕ → List Token → Type 0
Low x [] = Unit {0}
Low x (t ∷ ts) = (t.at < x) × (code_of t.what ≡ 3 → t.at + 8 ≤ x) × Low x ts

-- from y up
abbrev pub High : ℕ → List Token → Type 0
High y [] = Unit {0}
High y (t ∷ ts) = (y ≤ t.at) × High y ts

-- ordinary
abbrev pub Plain : List Token → Type 0
Plain [] = Unit {0}
Plain (t ∷ ts) = ((u : ℕ) × (t.what ≡ St.Ordinary u)) × Plain ts

low_more : (m n : ℕ) (ts : List Token) → m ≤ n → Low m ts → Low n ts
low_more m n [] h l = tt
low_more m n (t ∷ ts) h l = (omega (arith, l.0), (λ e. omega (arith, l.1 e)), low_more m n ts h l.2)

high_less : (m n : ℕ) (ts : List Token) → m ≤ n → High n ts → High m ts
high_less m n [] h l = tt
high_less m n (t ∷ ts) h l = (omega (arith, l.0), high_less m n ts h l.1)

width_field : (u : ℕ) → u ≡ 3 → width (what u) - 1 ≡ 7
unfolding what class_of among
width_field u e = rw e

walk_low : (p k : ℕ) (x : List ℕ) → Low (p + length x + left_over k x) (walk p k x)
unfolding walk left_over
walk_low p k [] = tt
walk_low p zero (u ∷ x) = (
  omega arith,
  (λ e. omega (arith, left_ge (width (what u) - 1) x, width_field u (sym (code_what u) ∙ e))),
  low_more (p + 1 + length x + left_over (width (what u) - 1) x) _ (walk (p + 1) (width (what u) - 1) x) (omega arith)
      (walk_low (p + 1) (width (what u) - 1) x),
)
walk_low p (suc k) (u ∷ x) =
    low_more (p + 1 + length x + left_over k x) (p + suc (length x) + left_over k x) (walk (p + 1) k x) (omega arith) (walk_low (p + 1) k x)

walk_high : (p k : ℕ) (x : List ℕ) → High p (walk p k x)
unfolding walk
walk_high p k [] = tt
walk_high p zero (u ∷ x) =
    (omega arith, high_less p (p + 1) (walk (p + 1) (width (what u) - 1) x) (omega arith) (walk_high (p + 1) (width (what u) - 1) x))
walk_high p (suc k) (u ∷ x) = high_less p (p + 1) (walk (p + 1) k x) (omega arith) (walk_high (p + 1) k x)

walk_plain : (p : ℕ) (x : List ℕ) → AllOrdinary x → Plain (walk p 0 x)
unfolding walk
walk_plain p [] o = tt
walk_plain p (u ∷ x) o = ((u, what_ordinary u o.0), rw (width_one u o.0) (walk_plain (p + 1) x o.1))

next_plain : (o ts : List Token) → Plain o → next (o ++ ts) ≡ next ts
next_plain [] ts p = refl
next_plain (t ∷ o) ts p = next_ordinary t (o ++ ts) p.0.1 ∙ next_plain o ts p.1

fields_plain : (n : ℕ) (o ts : List Token) → Plain o → fields_in n (o ++ ts) ≡ fields_in n ts
fields_plain n [] ts p = refl
fields_plain n (t ∷ o) ts p = fields_ordinary t (o ++ ts) n p.0.1 ∙ fields_plain n o ts p.1

-- ---- the fields after a fill of the positions from x to y by c units are the fields before, moved

-- where a field then stands
unfoldable pub moved_field : ℕ → ℕ → ℕ → Field → Field
moved_field x y c f =
    record {
      ordinal = f.ordinal;
      a = cond (leb f.a x) f.a (f.a + c - (y - x));
      b = cond (ltb f.b y) f.b (f.b + c - (y - x));
      plain = f.plain;
    }

module _ (x y c : ℕ) (h : x ≤ y) (h₀ : 0 < x) where
  moved_next : Option (ℕ × ℕ) → Option (ℕ × ℕ)
  moved_next None = None
  moved_next (Some q) = Some (cond (ltb q.0 y) q.0 (q.0 + c - (y - x)), q.1)

  -- a control at the front, from y on and below x
  passed : (t : Token) (ts rest : List Token) {k : Control} → y ≤ t.at → t.what ≡ St.Control k
      → next (shift c (y - x) t ∷ rest) ≡ moved_next (next (t ∷ ts))
  unfolding shift moved_next
  passed t ts rest l e =
      next-control (shift c (y - x) t) rest e ∙ sym (ap moved_next (next-control t ts e) ∙ rw (le-ltb t.at y l))

  stayed : (t : Token) (ts rest : List Token) {k : Control} → t.at < x → t.what ≡ St.Control k → next (t ∷ rest) ≡ moved_next (next (t ∷ ts))
  unfolding moved_next
  stayed t ts rest l e = next-control t rest e ∙ sym (ap moved_next (next-control t ts e) ∙ rw (lt-ltb t.at y (omega arith)))

  next_high : (ts : List Token) → High y ts → next (map (shift c (y - x)) ts) ≡ moved_next (next ts)
  unfolding shift moved_next
  next_high [] p = unfold next in refl
  next_high (t ∷ ts) p = elim (seen t.what) [
    | ordinary u e ↦
        next_ordinary (shift c (y - x) t) (map (shift c (y - x)) ts) e ∙ next_high ts p.1 ∙ ap moved_next (sym (next_ordinary t ts e))
    | field k e z ↦ passed t ts (map (shift c (y - x)) ts) p.0 e
    | other k e z ↦ passed t ts (map (shift c (y - x)) ts) p.0 e
  ]

  next_low : (l o o' ts : List Token) → Low x l → Plain o → Plain o' → High y ts
      → next (l ++ (o' ++ map (shift c (y - x)) ts)) ≡ moved_next (next (l ++ (o ++ ts)))
  unfolding moved_next
  next_low [] o o' ts w p p' g = rw (next_plain o' (map (shift c (y - x)) ts) p', next_plain o ts p) (next_high ts g)
  next_low (t ∷ l) o o' ts w p p' g = elim (seen t.what) [
    | ordinary u e ↦
        next_ordinary t (l ++ (o' ++ map (shift c (y - x)) ts)) e ∙ next_low l o o' ts w.2 p p' g
        ∙ ap moved_next (sym (next_ordinary t (l ++ (o ++ ts)) e))
    | field k e z ↦ stayed t (l ++ (o ++ ts)) (l ++ (o' ++ map (shift c (y - x)) ts)) w.0 e
    | other k e z ↦ stayed t (l ++ (o ++ ts)) (l ++ (o' ++ map (shift c (y - x)) ts)) w.0 e
  ]

  field_low : (n p : ℕ) (o : Option (ℕ × ℕ)) → p + 8 ≤ x → field_at n p (moved_next o) ≡ moved_field x y c (field_at n p o)
  unfolding field_at moved_next moved_field
  field_low n p None l = rw (le-leb (p + 8) x l, lt-ltb 0 y (omega arith))
  field_low n p (Some t) l = rw (le-leb (p + 8) x l)

  field_high : (n p : ℕ) (o : Option (ℕ × ℕ)) → y ≤ p → field_at n (p + c - (y - x)) (moved_next o) ≡ moved_field x y c (field_at n p o)
  unfolding field_at moved_next moved_field
  field_high n p None l =
      let q : p + c - (y - x) + 8 ≡ p + 8 + c - (y - x) = omega arith in
      rw (lt-leb (p + 8) x (omega arith), lt-ltb 0 y (omega arith), q)
  field_high n p (Some t) l =
      let q : p + c - (y - x) + 8 ≡ p + 8 + c - (y - x) = omega arith in
      rw (lt-leb (p + 8) x (omega arith), q)

  fields_high : (n : ℕ) (ts : List Token) → High y ts → fields_in n (map (shift c (y - x)) ts) ≡ map (moved_field x y c) (fields_in n ts)
  unfolding shift
  fields_high n [] g = unfold fields_in in refl
  fields_high n (t ∷ ts) g = elim (seen t.what) [
    | ordinary u e ↦ rw (fields_ordinary t ts n e) (fields_ordinary (shift c (y - x) t) (map (shift c (y - x)) ts) n e ∙ fields_high n ts g.1)
    | field k e z ↦ rw (fields_field t ts n e z)
        (fields_field (shift c (y - x) t) (map (shift c (y - x)) ts) n e z
        ∙ rw (next_high ts g.1, field_high n t.at (next ts) g.0, fields_high (is_extended (St.Control k) + n) ts g.1))
    | other k e z ↦ rw (fields_other t ts n e z)
        (fields_other (shift c (y - x) t) (map (shift c (y - x)) ts) n e z ∙ fields_high (is_extended (St.Control k) + n) ts g.1)
  ]

  code_of_lem : (t : Token) (k : Control) → t.what ≡ St.Control k → k.code ≡ 3 → code_of t.what ≡ 3
  code_of_lem t k e z = rw e z

  fields-moved : (n : ℕ) (l o o' ts : List Token) → Low x l → Plain o → Plain o' → High y ts
      → fields_in n (l ++ (o' ++ map (shift c (y - x)) ts)) ≡ map (moved_field x y c) (fields_in n (l ++ (o ++ ts)))
  fields-moved n [] o o' ts w p p' g =
      rw (fields_plain n o' (map (shift c (y - x)) ts) p', fields_plain n o ts p) (fields_high n ts g)
  fields-moved n (t ∷ l) o o' ts w p p' g = elim (seen t.what) [
    | ordinary u e ↦ rw (fields_ordinary t (l ++ (o' ++ map (shift c (y - x)) ts)) n e, fields_ordinary t (l ++ (o ++ ts)) n e)
        (fields-moved n l o o' ts w.2 p p' g)
    | field k e z ↦ rw (fields_field t (l ++ (o' ++ map (shift c (y - x)) ts)) n e z, fields_field t (l ++ (o ++ ts)) n e z)
        (rw (
          next_low l o o' ts w.2 p p' g,
          field_low n t.at (next (l ++ (o ++ ts))) (w.1 (code_of_lem t k e z)),
          fields-moved (is_extended (St.Control k) + n) l o o' ts w.2 p p' g,
        ))
    | other k e z ↦ rw (fields_other t (l ++ (o' ++ map (shift c (y - x)) ts)) n e z, fields_other t (l ++ (o ++ ts)) n e z)
        (fields-moved (is_extended (St.Control k) + n) l o o' ts w.2 p p' g)
  ]

-- ---- a field cuts its text in three

-- what stands before it with its control, in it, and from the next control on
pub record Cut (f : Field) (us : List ℕ) : Type 0 where
  pub before : List ℕ
  pub within : List ℕ
  pub behind : List ℕ
  pub is : us ≡ before ++ (within ++ behind)
  pub at_a : length before ≡ f.a
  pub at_b : length before + length within ≡ f.b
  pub ended : left_over 0 before ≡ 0
  pub ordinary : AllOrdinary within
  pub closes : 0 < length behind

fields_parts : (x y z w : List ℕ) → left_over 0 x ≡ 0 → AllOrdinary y → AllOrdinary w → 0 < length x
    → fields_in 0 (walk 0 0 (replaced (length x) (length x + length y) w (x ++ (y ++ z))))
    ≡ map (moved_field (length x) (length x + length y) (length w)) (fields_in 0 (walk 0 0 (x ++ (y ++ z))))
fields_parts x y z w e oy ow h =
    let q : length x + length y - length x ≡ length y = omega arith in
    rw (walk_fill x y z w e ow, walk_parts x y z e oy)
    (rw q at (fields-moved (length x) (length x + length y) (length w) (omega arith) h 0
    (walk 0 0 x) (walk (length x) 0 y) (walk (length x) 0 w) (walk (length x + length y) 0 z)
    (low_more (0 + length x + left_over 0 x) (length x) (walk 0 0 x) (omega arith) (walk_low 0 0 x))
    (walk_plain (length x) y oy) (walk_plain (length x) w ow) (walk_high (length x + length y) 0 z)))

pub fields_fill : (f : Field) (w us : List ℕ) → Cut f us → 0 < f.a → AllOrdinary w
    → fields_in 0 (tokens (replaced f.a f.b w us)) ≡ map (moved_field f.a f.b (length w)) (fields_in 0 (tokens us))
unfolding tokens
fields_fill f w us k h o =
    rw (k.is, ← k.at_a, ← k.at_b)
    (fields_parts k.before k.within k.behind w k.ended k.ordinary o (omega (arith, k.at_a)))

-- ---- every plain field cuts the text

record Ahead (p k : ℕ) (us : List ℕ) (q : ℕ × ℕ) : Type 0 where
  skipped : List ℕ
  within : List ℕ
  behind : List ℕ
  is : us ≡ skipped ++ (within ++ behind)
  long : length skipped ≡ k
  ordinary : AllOrdinary within
  at : q.0 ≡ p + k + length within
  closes : 0 < length behind

nil_of : (s : List ℕ) → length s ≡ 0 → s ≡ []
nil_of [] h = refl
nil_of (x ∷ s) h = absurd (omega arith)

ahead : (p k : ℕ) (us : List ℕ) (q : ℕ × ℕ) → next (walk p k us) ≡ Some q → Ahead p k us q
unfolding walk
ahead p k [] q e = unfold next in absurd (let z : ◌≡◌ {A = ℕ} 0 1 = cc in omega arith)
ahead p zero (u ∷ us) q e = elim (lt_or u 32) [
  | inl l ↦
      (let n = next-control (record { at = p; what = what u }) (walk (p + 1) (width (what u) - 1) us) (what-control u l) in
      let d : (p, u) ≡ q = cc in
      record {
        skipped = [];
        within = [];
        behind = u ∷ us;
        is = refl;
        long = refl;
        ordinary = tt;
        at = omega (arith, ap (λ (x : ℕ × ℕ). x.0) d);
        closes = omega arith;
      })
  | inr l ↦
      (let n = next_ordinary (record { at = p; what = what u }) (walk (p + 1) (width (what u) - 1) us) (what_ordinary u l) in
      let m : next (walk (p + 1) 0 us) ≡ Some q = rw (width_one u l) at (sym n ∙ e) in
      more l (ahead (p + 1) 0 us q m))
]
  where
    more : 32 ≤ u → Ahead (p + 1) 0 us q → Ahead p 0 (u ∷ us) q
    more l a =
        record {
          skipped = [];
          within = u ∷ a.within;
          behind = a.behind;
          is = ap (λ (x : List ℕ). u ∷ x) (a.is ∙ ap (λ (x : List ℕ). x ++ (a.within ++ a.behind)) (nil_of a.skipped a.long));
          long = refl;
          ordinary = (l, a.ordinary);
          at = omega (arith, a.at);
          closes = a.closes;
        }
ahead p (suc k) (u ∷ us) q e =
    let a = ahead (p + 1) k us q e in
    record {
      skipped = u ∷ a.skipped;
      within = a.within;
      behind = a.behind;
      is = ap (λ (x : List ℕ). u ∷ x) a.is;
      long = ap suc a.long;
      ordinary = a.ordinary;
      at = omega (arith, a.at);
      closes = a.closes;
    }

abbrev Cuts : List ℕ → List Field → Type 0
Cuts us [] = Unit {0}
Cuts us (f ∷ fs) = (f.plain ≡ true → Cut f us) × Cuts us fs

-- the field whose control stands behind `pre`
cut_here : (n : ℕ) (pre us : List ℕ) (o : Option (ℕ × ℕ)) → left_over 0 pre ≡ 0 → next (walk (length pre + 1) 7 us) ≡ o
    → (field_at n (length pre) o).plain ≡ true → Cut (field_at n (length pre) o) (pre ++ (3 ∷ us))
unfolding field_at left_over what class_of among
cut_here n pre us None e q h = absurd (let z : ◌≡◌ {A = ℕ} 0 1 = cc in omega arith)
cut_here n pre us (Some t) e q h = go (ahead (length pre + 1) 7 us t q)
  where
    left_field : (s : List ℕ) → length s ≡ 7 → left_over 0 (pre ++ (3 ∷ s)) ≡ 0
    left_field s l = left_append 0 pre (3 ∷ s) ∙ rw e (left_all 7 s l)

    go : Ahead (length pre + 1) 7 us t → Cut (record { ordinal = n; a = length pre + 8; b = t.0; plain = eqb t.1 4 }) (pre ++ (3 ∷ us))
    go a =
        record {
          before = pre ++ (3 ∷ a.skipped);
          within = a.within;
          behind = a.behind;
          is = ap (λ (l : List ℕ). pre ++ (3 ∷ l)) a.is ∙ sym (append_assoc pre (3 ∷ a.skipped) (a.within ++ a.behind));
          at_a = omega (arith, length-append pre (3 ∷ a.skipped), a.long);
          at_b = omega (arith, length-append pre (3 ∷ a.skipped), a.long, a.at);
          ended = left_field a.skipped a.long;
          ordinary = a.ordinary;
          closes = a.closes;
        }

cuts_on : (n k u : ℕ) (pre us : List ℕ) → Cuts (pre ++ (u ∷ []) ++ us) (fields_in n (walk (length (pre ++ (u ∷ []))) k us))
    → Cuts (pre ++ u ∷ us) (fields_in n (walk (length pre + 1) k us))
cuts_on n k u pre us h =
    let q : length (pre ++ (u ∷ [])) ≡ length pre + 1 = omega (arith, length-append pre (u ∷ [])) in rw (append_snoc pre u us, q) at h

left_on : (k u : ℕ) (pre : List ℕ) → left_over 0 pre ≡ k → left_over 0 (pre ++ (u ∷ [])) ≡ left_over k (u ∷ [])
left_on k u pre e = left_append 0 pre (u ∷ []) ∙ rw e

cuts_from : (n k : ℕ) (pre us : List ℕ) → left_over 0 pre ≡ k → Cuts (pre ++ us) (fields_in n (walk (length pre) k us))
unfolding walk left_over
cuts_from n k pre [] e = unfold fields_in in tt
cuts_from n (suc k) pre (u ∷ us) e = cuts_on n k u pre us (cuts_from n k (pre ++ (u ∷ [])) us (left_on (suc k) u pre e))
cuts_from n zero pre (u ∷ us) e = elim (seen (what u)) [
  | ordinary v s ↦ rw (fields_ordinary (record { at = length pre; what = what u }) (walk (length pre + 1) (width (what u) - 1) us) n s)
      (cuts_on n (width (what u) - 1) u pre us (cuts_from n (width (what u) - 1) (pre ++ (u ∷ [])) us (left_on 0 u pre e)))
  | field c s z ↦ rw (fields_field (record { at = length pre; what = what u }) (walk (length pre + 1) (width (what u) - 1) us) n s z) (
    here (sym (code_what u) ∙ rw s z),
    cuts_on _ (width (what u) - 1) u pre us (cuts_from (is_extended (St.Control c) + n) (width (what u) - 1) (pre ++ (u ∷ [])) us (left_on 0 u pre e)),
  )
  | other c s z ↦ rw (fields_other (record { at = length pre; what = what u }) (walk (length pre + 1) (width (what u) - 1) us) n s z)
      (cuts_on _ (width (what u) - 1) u pre us (cuts_from (is_extended (St.Control c) + n) (width (what u) - 1) (pre ++ (u ∷ [])) us (left_on 0 u pre e)))
]
  where
    here : u ≡ 3 → (field_at n (length pre) (next (walk (length pre + 1) (width (what u) - 1) us))).plain ≡ true
        → Cut (field_at n (length pre) (next (walk (length pre + 1) (width (what u) - 1) us))) (pre ++ u ∷ us)
    here h = rw (width_field u h, h) (cut_here n pre us (next (walk (length pre + 1) 7 us)) e refl)

-- ---- membership

abbrev pub Among : Field → List Field → Type 0
Among f [] = ⊥
Among f (g ∷ fs) = (f ≡ g) ⊎ Among f fs

cut_among : (us : List ℕ) (fs : List Field) (f : Field) → Cuts us fs → Among f fs → f.plain ≡ true → Cut f us
cut_among us [] f s m p = absurd m
cut_among us (g ∷ fs) f s (inl e) p = rw e (s.0 (sym (ap (λ (z : Field). z.plain) e) ∙ p))
cut_among us (g ∷ fs) f s (inr m) p = cut_among us fs f s.1 m p

pub cut : (us : List ℕ) (f : Field) → Among f (fields_in 0 (tokens us)) → f.plain ≡ true → Cut f us
unfolding tokens left_over
cut us f m p = cut_among us (fields_in 0 (walk 0 0 us)) f (cuts_from 0 0 [] us refl) m p

-- ---- the fields of a paragraph stand one behind another

abbrev From : ℕ → List Field → Type 0
From y [] = Unit {0}
From y (f ∷ fs) = (y < f.a) × From y fs

abbrev Ordered : List Field → Type 0
Ordered [] = Unit {0}
Ordered (f ∷ fs) = (f.plain ≡ true → From f.b fs) × Ordered fs

field_a : (n p : ℕ) (o : Option (ℕ × ℕ)) → (field_at n p o).a ≡ p + 8
unfolding field_at
field_a n p None = refl
field_a n p (Some t) = refl

from_high : (y n : ℕ) (ts : List Token) → High y ts → From y (fields_in n ts)
from_high y n [] h = unfold fields_in in tt
from_high y n (t ∷ ts) h = elim (seen t.what) [
  | ordinary u s ↦ rw (fields_ordinary t ts n s) (from_high y n ts h.1)
  | field c s z ↦ rw (fields_field t ts n s z) (omega (arith, h.0, field_a n t.at (next ts)), from_high y (is_extended (St.Control c) + n) ts h.1)
  | other c s z ↦ rw (fields_other t ts n s z) (from_high y (is_extended (St.Control c) + n) ts h.1)
]

-- behind the closing control
from_next : (n p k : ℕ) (us : List ℕ) (q : ℕ × ℕ) → next (walk p k us) ≡ Some q → q.1 ≡ 4 → From q.0 (fields_in n (walk p k us))
unfolding walk
from_next n p k [] q e f = unfold fields_in in tt
from_next n p (suc k) (u ∷ us) q e f = from_next n (p + 1) k us q e f
from_next n p zero (u ∷ us) q e f = elim (lt_or u 32) [
  | inl l ↦
      (let m = next-control (record { at = p; what = what u }) (walk (p + 1) (width (what u) - 1) us) (what-control u l) in
      let d : (p, u) ≡ q = cc in
      here (ap (λ (x : ℕ × ℕ). x.0) d) (ap (λ (x : ℕ × ℕ). x.1) d) l)
  | inr l ↦
      (let m = next_ordinary (record { at = p; what = what u }) (walk (p + 1) (width (what u) - 1) us) (what_ordinary u l) in
      let g : next (walk (p + 1) 0 us) ≡ Some q = rw (width_one u l) at (sym m ∙ e) in
      rw (fields_ordinary (record { at = p; what = what u }) (walk (p + 1) (width (what u) - 1) us) n (what_ordinary u l), width_one u l)
      (from_next n (p + 1) 0 us q g f))
]
  where
    here : p ≡ q.0 → u ≡ q.1 → u < 32 → From q.0 (fields_in n (record { at = p; what = what u } ∷ walk (p + 1) (width (what u) - 1) us))
    here d₀ d₁ l =
        rw (fields_other (record { at = p; what = what u }) (walk (p + 1) (width (what u) - 1) us) n (what-control u l) (λ z. omega arith))
        (from_high q.0 _ (walk (p + 1) (width (what u) - 1) us)
        (high_less q.0 (p + 1) (walk (p + 1) (width (what u) - 1) us) (omega arith) (walk_high (p + 1) (width (what u) - 1) us)))

ordered : (n p k : ℕ) (us : List ℕ) → Ordered (fields_in n (walk p k us))
unfolding walk field_at
ordered n p k [] = unfold fields_in in tt
ordered n p (suc k) (u ∷ us) = ordered n (p + 1) k us
ordered n p zero (u ∷ us) = elim (seen (what u)) [
  | ordinary v s ↦ rw (fields_ordinary (record { at = p; what = what u }) (walk (p + 1) (width (what u) - 1) us) n s) (ordered n (p + 1) (width (what u) - 1) us)
  | field c s z ↦ rw (fields_field (record { at = p; what = what u }) (walk (p + 1) (width (what u) - 1) us) n s z)
      (go _ (next (walk (p + 1) (width (what u) - 1) us)) refl, ordered (is_extended (St.Control c) + n) (p + 1) (width (what u) - 1) us)
  | other c s z ↦ rw (fields_other (record { at = p; what = what u }) (walk (p + 1) (width (what u) - 1) us) n s z) (ordered (is_extended (St.Control c) + n) (p + 1) (width (what u) - 1) us)
]
  where
    go : (m : ℕ) (o : Option (ℕ × ℕ)) → next (walk (p + 1) (width (what u) - 1) us) ≡ o → (field_at n p o).plain ≡ true
        → From (field_at n p o).b (fields_in m (walk (p + 1) (width (what u) - 1) us))
    go m None e h = absurd (let z : ◌≡◌ {A = ℕ} 0 1 = cc in omega arith)
    go m (Some q) e h = from_next m (p + 1) (width (what u) - 1) us q e (eqb-true q.1 4 h)

from_among : (y : ℕ) (f : Field) (fs : List Field) → From y fs → Among f fs → y < f.a
from_among y f [] h m = absurd m
from_among y f (g ∷ fs) h (inl e) = rw e h.0
from_among y f (g ∷ fs) h (inr m) = from_among y f fs h.1 m

-- two plain fields of a text are one, or one stands before the other
pub data Apart (f g : Field) : Type 0 where
  same : f ≡ g → Apart f g
  before : f.b < g.a → Apart f g
  behind : g.b < f.a → Apart f g

apart_in : (fs : List Field) → Ordered fs → (f g : Field) → f.plain ≡ true → g.plain ≡ true → Among f fs → Among g fs → Apart f g
apart_in [] o f g p q m n = absurd m
apart_in (x ∷ fs) o f g p q (inl e) (inl d) = same (e ∙ sym d)
apart_in (x ∷ fs) o f g p q (inl e) (inr n) = before (rw e (from_among x.b g fs (o.0 (sym (ap (λ (z : Field). z.plain) e) ∙ p)) n))
apart_in (x ∷ fs) o f g p q (inr m) (inl d) = behind (rw d (from_among x.b f fs (o.0 (sym (ap (λ (z : Field). z.plain) d) ∙ q)) m))
apart_in (x ∷ fs) o f g p q (inr m) (inr n) = apart_in fs o.1 f g p q m n

module _ (us : List ℕ) where
  pub apart : (f g : Field) → f.plain ≡ true → g.plain ≡ true → Among f (fields_in 0 (tokens us)) → Among g (fields_in 0 (tokens us)) → Apart f g
  unfolding tokens
  apart f g p q m n = apart_in (fields_in 0 (walk 0 0 us)) (ordered 0 0 0 us) f g p q m n

  pub a_positive : (f : Field) → Among f (fields_in 0 (tokens us)) → 0 < f.a
  unfolding tokens
  a_positive f m = from_among 0 f (fields_in 0 (walk 0 0 us)) (from_high 0 0 (walk 0 0 us) (walk_high 0 0 us)) m

  pub a_to_b : (f : Field) → Among f (fields_in 0 (tokens us)) → f.plain ≡ true → (f.a ≤ f.b) × (f.b < length us)
  a_to_b f m p =
      let c = cut us f m p in
      (omega (arith, c.at_a, c.at_b), omega (arith, c.at_b, c.closes, simp length-append at (ap length c.is)))
