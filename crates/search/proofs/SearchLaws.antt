-- The search: what it still meets, from a record on and from a position of a paragraph's text on. Assumes nothing.
use Rattle.std.specs.Prelude.{None, Option, Some}
use Prim.Native.Nat.{ℕ, suc, ◌+◌, ◌≤◌, ◌<◌}
use native.Mathlib.Omega.{arith}
use native.Mathlib.Numerals.{add-one}
use native.Mathlib.Nat.{zero-add, add-zero}
use mathlib.Core.Path.{◌≡◌, refl, sym, ap, ap₂, ◌∙◌, subst}
use mathlib.Core.Bool.{Bool, true, false, cond}
use mathlib.Core.List.{List, [], ◌∷◌, ◌++◌, map}
use lib.Dec.{eqb}
use lib.ListN.{length, get_or, take, drop, length-drop, length-take}
use lib.Seq.{get_or-drop, drop-drop}
use borrow.Author.Tests.{eq-eqb, ne_eqb, eqb-true, eqb-false}
use Rattle.numbers.specs.Little.{Bytes}
use Rattle.records.specs.Records.{Rec, size}
use Rattle.records.specs.Reading.{offset}
use Rattle.records.specs.declared.fault.Offset.{Offset}
use Rattle.records.specs.declared.header.Record.{Record}
use Rattle.text.specs.Units.{units}
use Rattle.text.specs.Walk.{Token, tokens, tokens_at, is_extended, extended_in, extended_count, fault, fault_at, text_fault, run}
use Rattle.text.specs.Answers.{position}
use Rattle.text.specs.declared.Position.{Position}
use Rattle.text.specs.declared.Class.{Class}
use Rattle.text.specs.declared.Class.TheVariants.{Character, Inline, Extended}
use Rattle.text.specs.declared.Control.{Control}
use Rattle.text.specs.declared.Standing.{Standing}
use Rattle.text.specs.declared.Standing.TheVariants as St
use Rattle.text.proofs.WalkLaws.{Onward, Ended}
use Rattle.text.proofs.UnitLaws.{length-units}
use Rattle.text.proofs.PartLaws.{singles}
use Rattle.text.proofs.ControlLaws.{Reached}
use Rattle.records.proofs.ReadingLaws.{size_least}
use Rattle.paragraph.specs.View.{View, view, kids, child, controls}
use Rattle.paragraph.specs.Stream.{records_in}
use Rattle.paragraph.specs.Places.{found_in, place_found, body_of, body_found, owned_by, Inside, Found}
use Rattle.paragraph.specs.Rules.{bytes_in, owner_of}
use Rattle.paragraph.specs.declared.fields.Owned.{Owned}
use Rattle.paragraph.specs.declared.fields.Owned.TheVariants as K
use Rattle.paragraph.proofs.StreamLaws.{Stood, stood_of}
use Rattle.paragraph.proofs.BodyLaws.{child_found, found_inside}
use Rattle.paragraph.proofs.OwningLaws.{headers, Owning}
use Rattle.paragraph.proofs.FieldLaws.{Outcome, outcome}
use Rattle.filling.specs.Fields.{Field, next, field_at, fields_in, fields, id_in, id_of, with_id}
use Rattle.filling.specs.Search.{first_byte, Hit, hit_of, hits}
use Rattle.filling.proofs.FieldLaws.{fields_ordinary, fields_field, fields_other, field_extended, field_ordinal}
use Rattle.filling.proofs.SearchLaws.{hits_here, hits_past}
use Rattle.search.specs.Accepted.{Keep}
use Rattle.search.proofs.FitLaws.{TextSound, Fit, fit}
use Rattle.search.proofs.BareLaws.{bared, no_fields}
use Rattle.search.specs.Searching.{told, met_next, met_with}
use Rattle.search.specs.Steps.{closing_of, unseen, seen_of, begun, span_of, paragraph_at, bare_in, bare_or, look_of, hit_from, met_by}
use Rattle.search.specs.declared.seek.Hit as told-hit
use Rattle.search.specs.declared.seek.Met.{Met}
use Rattle.search.specs.declared.seek.Met.TheVariants as M
use Rattle.search.specs.declared.seek.Passed.{Passed}
use Rattle.search.specs.declared.seek.Seen.{Seen}
use Rattle.filling.specs.declared.Span.{Span}
use Rattle.search.specs.declared.passing.Look.{Look}
use Rattle.search.specs.declared.passing.Look.TheVariants as L
use Rattle.search.specs.declared.passing.Paragraph.{Paragraph}

-- ---- what was met

pub met_twice : (p : Offset) (hs : List Hit) → met_with (M.Twice p) hs ≡ M.Twice p
unfolding met_with
met_twice p [] = refl
met_twice p (h ∷ hs) = met_twice p hs

-- ---- from a record on

-- what the search meets is what it met before `at`, and what it meets from there on, where the next paragraph has a number
pub record Searching (s : List ℕ) (id : ℕ) (met : Met) (number at : ℕ) : Type 0 where
  pub rest : met_with M.Nothing (hits id 0 0 (records_in s)) ≡ met_with met (hits id number at (records_in (drop at s)))
  pub fits : Keep (records_in (drop at s))
  pub few : number ≤ at

pub searching_end : {s : List ℕ} {id number at : ℕ} {met : Met} → Searching s id met number at → records_in (drop at s) ≡ []
    → met ≡ met_with M.Nothing (hits id 0 0 (records_in s))
unfolding met_with hits
searching_end k e = sym (k.rest ∙ rw e)

-- ---- the text of a paragraph

-- the bytes of a span are the text among the children at a level of records that begin at `behind`
pub record TextAt (s : List ℕ) (level behind : ℕ) (rs : List Rec) (g : Span) : Type 0 where
  pub inside : g.place.0 + g.len ≤ length s
  pub units_are : units (take g.len (drop g.place.0 s)) ≡ units (bytes_in (child 67 (kids level rs)))
  pub place_is : g.place.0 ≡ first_byte (found_in level 67 0 behind rs)

module _ (s : List ℕ) (bs : Bytes s) (level at : ℕ) where
  text_by : (f : Found) → Inside s f → body_found s f ≡ child 67 (kids level (records_in (drop at s))) → found_in level 67 0 at (records_in (drop at s)) ≡ f
      → TextAt s level at (records_in (drop at s)) (span_of f)
  unfolding units
  text_by None i b e = record { inside = omega arith; units_are = rw (← b); place_is = sym (ap first_byte e) }
  text_by (Some p) i b e = record { inside = i; units_are = rw (← b); place_is = sym (ap first_byte e) }

  pub text_at : TextAt s level at (records_in (drop at s)) (span_of (found_in level 67 0 at (records_in (drop at s))))
  text_at = text_by (found_in level 67 0 at (records_in (drop at s))) (found_inside s bs level 67 at) (child_found s bs level 67 at) refl

sound_start : (us : List ℕ) → text_fault us ≡ None → fault_at us 0 ≡ None
unfolding text_fault fault
sound_start [] e = refl
sound_start (u ∷ us) e = e

sound_text : (o : Option (List ℕ)) → TextSound o → fault_at (units (bytes_in o)) 0 ≡ None
unfolding fault units
sound_text None t = refl
sound_text (Some b) t = sound_start (units b) t

-- ---- from a position of a paragraph's text on

-- the paragraph, and its text
pub record Here (s : List ℕ) (g : Paragraph) (text : List ℕ) : Type 0 where
  pub rec : Rec
  pub rs : List Rec
  pub rs_is : records_in (drop g.behind.0 s) ≡ rs
  pub is : g ≡ paragraph_at g.number g.header.0 rec rs
  pub units_are : units text ≡ units (bytes_in (child 67 (kids g.level rs)))
  pub short : length text ≤ length s
  pub fits : Keep rs
  pub few : g.number ≤ g.header.0

module _ {s text : List ℕ} {g : Paragraph} (h : Here s g text) where
  -- the hits from a position on, with n extended controls before it
  abbrev pub left_in : ℕ → ℕ → ℕ → List Hit
  left_in id n p =
      map (hit_of g.number g.header.0 h.rec h.rs) (with_id id (view h.rec h.rs) (fields_in n (tokens_at (units text) p)))
      ++ hits id (suc g.number) g.behind.0 h.rs

  abbrev pub owns : List (List ℕ)
  owns = controls (kids g.level h.rs)

  level_is : g.level ≡ suc h.rec.level
  level_is = ap (λ (g : Paragraph). g.level) h.is

  behind-is : g.behind.0 ≡ g.header.0 + size h.rec
  behind-is = ap (λ (g : Paragraph). g.behind.0) h.is

pub record Walking (s : List ℕ) (id : ℕ) (g : Paragraph) (text : List ℕ) (met : Met) (p : ℕ) (w : Passed) : Type 0 where
  pub here : Here s g text
  pub sound : fault_at (units text) p ≡ None
  pub enough : w.ordinal + extended_in (tokens_at (units text) p) ≡ length (owns here)
  pub owned : drop w.ordinal (owns here) ≡ drop w.skipped (headers s g.level w.from.0)
  pub spots : (i j : ℕ) → i ≡ w.ordinal + j
      → found_in g.level 71 i g.behind.0 here.rs ≡ found_in g.level 71 (w.skipped + j) w.from.0 (records_in (drop w.from.0 s))
  pub few : w.ordinal ≤ p
  pub fewer : w.skipped ≤ w.ordinal
  pub rest : met_with M.Nothing (hits id 0 0 (records_in s)) ≡ met_with met (left_in here id w.ordinal p)

-- ---- what stands at a place

-- where it is a paragraph: its text's first position
pub record Entered (s : List ℕ) (id : ℕ) (met : Met) (g : Paragraph) (at number : ℕ) : Type 0 where
  pub rises : at < g.behind.0
  pub inside : g.behind.0 ≤ length s
  pub number_is : g.number ≡ number
  pub begins : Walking s id g (take g.text.len (drop g.text.place.0 s)) met 0 (begun g.behind)

module _ {s : List ℕ} {id number at : ℕ} {met : Met} (bs : Bytes s) (k : Searching s id met number at) where
  -- the paragraph header r at `at`
  entering : (r : Rec) (rs : List Rec) → Stood s at r → records_in (drop at s) ≡ r ∷ rs → records_in (drop (at + size r) s) ≡ rs → r.tag ≡ 66
      → Entered s id met (paragraph_at number at r rs) at number
  unfolding view fields tokens extended_count
  entering r rs d e q t =
      let level = suc r.level in
      let go = at + size r in
      let all : Keep (r ∷ rs) = subst Keep e k.fits in
      let fine : Fit (view r rs) = fit (view r rs) (all.0 t) in
      let x : TextAt s level go rs (span_of (found_in level 67 0 go rs)) = subst (λ (l : List Rec). TextAt s level go l (span_of (found_in level 67 0 go l))) q (text_at s bs level go) in
      record {
        rises = omega (arith, size_least r);
        inside = d.inside;
        number_is = refl;
        begins = record {
          here = record {
            rec = r;
            rs = rs;
            rs_is = q;
            is = refl;
            units_are = x.units_are;
            short = omega (arith, length-take (span_of (found_in level 67 0 go rs)).len (drop (span_of (found_in level 67 0 go rs)).place.0 s), length-drop (span_of (found_in level 67 0 go rs)).place.0 s);
            fits = all.1;
            few = k.few;
          };
          sound = rw x.units_are (sound_text (child 67 (kids level rs)) fine.sound);
          enough = zero-add _ ∙ rw x.units_are fine.owned;
          owned = ap (λ (l : List Rec). controls (kids level l)) (sym q);
          spots = λ i j z. ap (λ (i : ℕ). found_in level 71 i go rs) z ∙ ap (found_in level 71 (0 + j) go) (sym q);
          few = omega arith;
          fewer = omega arith;
          rest =
              k.rest ∙ ap (λ (l : List Rec). met_with met (hits id number at l)) e ∙ ap (met_with met) (hits_here id number at r rs t)
              ∙ rw x.units_are;
        };
      }

  -- another record
  passing : (r : Rec) (rs : List Rec) → records_in (drop at s) ≡ r ∷ rs → records_in (drop (at + size r) s) ≡ rs → (r.tag ≡ 66 → ⊥)
      → Searching s id met number (at + size r)
  passing r rs e q t =
      record {
        rest =
            k.rest ∙ ap (λ (l : List Rec). met_with met (hits id number at l)) e ∙ ap (met_with met) (hits_past id number at r rs t)
            ∙ ap (λ (l : List Rec). met_with met (hits id number (at + size r) l)) (sym q);
        fits = subst Keep (sym q) (subst Keep e k.fits).1;
        few = omega (arith, k.few);
      }

  -- a paragraph header with nothing but records 67 to 70 below it
  baring : (r : Rec) (rs : List Rec) (end : Offset) → records_in (drop at s) ≡ r ∷ rs → records_in (drop (at + size r) s) ≡ rs → r.tag ≡ 66
      → bare_in (suc r.level) (at + size r) rs ≡ Some end → Searching s id met (number + 1) end.0 × (at < end.0)
  unfolding view fields tokens extended_count with_id
  baring r rs end e q t o =
      let all : Keep (r ∷ rs) = subst Keep e k.fits in
      let b = bared s bs (suc r.level) rs (at + size r) end.0 q o in
      let fine : Fit (view r rs) = fit (view r rs) (all.0 t) in
      let None : extended_in (tokens (units (bytes_in (child 67 (kids (suc r.level) rs))))) ≡ 0 = fine.owned ∙ ap length b.none in
      let empty : fields (view r rs) ≡ [] = no_fields 0 0 0 (units (bytes_in (child 67 (kids (suc r.level) rs)))) None in (
        record {
          rest =
              k.rest ∙ ap (λ (l : List Rec). met_with met (hits id number at l)) e ∙ ap (met_with met) (hits_here id number at r rs t)
              ∙ ap (λ (fs : List Field). met_with met (map (hit_of number at r rs) (with_id id (view r rs) fs) ++ hits id (suc number) (at + size r) rs)) empty
              ∙ ap (met_with met) (b.past id (suc number))
              ∙ ap (λ (i : ℕ). met_with met (hits id i end.0 (records_in (drop end.0 s)))) (sym (add-one number));
          fits = b.keep all.1;
          few = omega (arith, k.few, b.from, size_least r);
        },
        omega (arith, b.from, size_least r),
      )

  -- what was seen there
  abbrev Looked : Look → Type 0
  Looked L.Nothing = records_in (drop at s) ≡ []
  Looked (L.Passed n b) = Searching s id met (number + n) b.0 × ((at < b.0) × ((at < length s) × (number + n ≤ length s)))
  Looked (L.Paragraph g) = Entered s id met g at number

  looked_by : (rs : List Rec) → records_in (drop at s) ≡ rs → Looked (look_of number at rs)
  looked_by [] e = e
  looked_by (r ∷ rs) e = go (eqb r.tag 66) refl (stood_of s at bs r rs e).0 (stood_of s at bs r rs e).1
    where
      few : (n : ℕ) → Stood s at r → n ≤ 1 → number + n ≤ length s
      few n d h = omega (arith, k.few, d.some_left)

      go : (b : Bool) → eqb r.tag 66 ≡ b → Stood s at r → records_in (drop (at + size r) s) ≡ rs
          → Looked (cond b (bare_or (bare_in (suc r.level) (at + size r) rs) (paragraph_at number at r rs)) (L.Passed 0 (offset (at + size r))))
      go true t d q = by (bare_in (suc r.level) (at + size r) rs) refl
        where
          by : (x : Option Offset) → bare_in (suc r.level) (at + size r) rs ≡ x → Looked (bare_or x (paragraph_at number at r rs))
          by (Some end) o = let k = baring r rs end e q (eqb-true r.tag 66 t) o in (k.0, (k.1, (d.some_left, few 1 d (omega arith))))
          by None o = entering r rs d e q (eqb-true r.tag 66 t)
      go false t d q = (
        subst (λ (i : ℕ). Searching s id met i (at + size r)) (sym (add-zero number)) (passing r rs e q (eqb-false r.tag 66 t)),
        (omega (arith, size_least r), (d.some_left, few 0 d (omega arith))),
      )

  looked : (x y : Look) → x ≡ look_of number at (records_in (drop at s)) → x ≡ y → Looked y
  looked x y e q = subst Looked (sym e ∙ q) (looked_by (records_in (drop at s)) refl)

  module _ (x : Look) (e : x ≡ look_of number at (records_in (drop at s))) where
    pub look_none : x ≡ L.Nothing → met ≡ met_with M.Nothing (hits id 0 0 (records_in s))
    look_none q = searching_end k (looked x L.Nothing e q)

    pub look_past : (n : ℕ) (b : Offset) → x ≡ L.Passed n b → Searching s id met (number + n) b.0 × ((at < b.0) × ((at < length s) × (number + n ≤ length s)))
    look_past n b q = looked x (L.Passed n b) e q

    pub look_in : (g : Paragraph) → x ≡ L.Paragraph g → Entered s id met g at number
    look_in g q = looked x (L.Paragraph g) e q

-- ---- a run of ordinary units

fields_singles : (n p : ℕ) (x : List ℕ) (ts : List Token) → fields_in n (singles p x ++ ts) ≡ fields_in n ts
unfolding fields_in singles
fields_singles n p [] ts = refl
fields_singles n p (u ∷ x) ts = fields_singles n (p + 1) x ts

module _ {s text : List ℕ} {id p : ℕ} {g : Paragraph} {met : Met} {w : Passed} (k : Walking s id g text met p w) where
  abbrev left_of : List Field → List Hit
  left_of fs =
      map (hit_of g.number g.header.0 k.here.rec k.here.rs) (with_id id (view k.here.rec k.here.rs) fs)
      ++ hits id (suc g.number) g.behind.0 k.here.rs

  -- at the next unit below 32
  pub walking_to : {q r : ℕ} {x : Standing} → Reached (units text) p q x r → Walking s id g text met q w
  walking_to {q} {r} {x} d =
      record {
        here = k.here;
        sound = sym d.fault ∙ k.sound;
        enough = rw (← d.extended) k.enough;
        owned = k.owned;
        spots = k.spots;
        few = omega (arith, k.few, d.from);
        fewer = k.fewer;
        rest =
            k.rest
            ∙ ap (λ (fs : List Field). met_with met (left_of fs))
            (ap (fields_in w.ordinal) d.tokens ∙ fields_singles w.ordinal p (take (run (drop p (units text))) (drop p (units text))) (tokens_at (units text) q));
      }

-- ---- a step

field_a : (n p : ℕ) (o : Option (ℕ × ℕ)) → (field_at n p o).a ≡ p + 8
unfolding field_at
field_a n p None = refl
field_a n p (Some x) = refl

field_b : (n p : ℕ) (o : Option (ℕ × ℕ)) → (field_at n p o).b ≡ (closing_of o).b.0
unfolding field_at
field_b n p None = refl
field_b n p (Some x) = refl

field_plain : (n p : ℕ) (o : Option (ℕ × ℕ)) → (field_at n p o).plain ≡ (closing_of o).plain
unfolding field_at
field_plain n p None = refl
field_plain n p (Some x) = refl

-- a hit, number by number
abbrev hit_of_lem : ℕ → ℕ → ℕ → ℕ → ℕ → ℕ → ℕ → ℕ → Bool → told-hit.Hit
hit_of_lem number at text control marks n a b plain =
    record {
      paragraph = number;
      header = record { 0 = at };
      text = record { 0 = text };
      control = record { 0 = control };
      marks = marks;
      field = record { ordinal = n; a = record { 0 = a }; b = record { 0 = b }; plain = plain };
    }

same_hit : {number at t t' k k' m m' n n' a a' b b' : ℕ} {l l' : Bool} → t ≡ t' → k ≡ k' → m ≡ m' → n ≡ n' → a ≡ a' → b ≡ b' → l ≡ l'
    → hit_of_lem number at t k m n a b l ≡ hit_of_lem number at t' k' m' n' a' b' l'
same_hit e f g h i j k = rw (e, f, g, h, i, j, k)

-- one more field, with the id or not
module _ (id : ℕ) (v : View) (f : Field) (fs : List Field) where
  with_here : id_of v f ≡ id → with_id id v (f ∷ fs) ≡ f ∷ with_id id v fs
  unfolding with_id
  with_here e = rw (eq-eqb (id_of v f) id e)

  with_other : (id_of v f ≡ id → ⊥) → with_id id v (f ∷ fs) ≡ with_id id v fs
  unfolding with_id
  with_other e = rw (ne_eqb (id_of v f) id e)

-- what owns a control header
owner_is : (x : Standing) (code : ℕ) → owner_of x ≡ Some code → (k : Control) × (x ≡ St.Control k) × (k.class ≡ Extended) × (k.code ≡ code)
owner_is (St.Ordinary u) code e = absurd (let z : ◌≡◌ {A = ℕ} 0 1 = cc in omega arith)
owner_is (St.Control k) code e = by k.class refl e
  where
    by : (a : Class) → k.class ≡ a → elim a [ Character ↦ None | Inline ↦ None | Extended ↦ Some k.code ] ≡ Some code
        → (j : Control) × (St.Control k ≡ St.Control j) × (j.class ≡ Extended) × (j.code ≡ code)
    by Character h q = absurd (let z : ◌≡◌ {A = ℕ} 0 1 = cc in omega arith)
    by Inline h q = absurd (let z : ◌≡◌ {A = ℕ} 0 1 = cc in omega arith)
    by Extended h q = (k, refl, h, cc)

-- what is left behind a step: of the hits, and of the control headers
record Stepped (s : List ℕ) (id : ℕ) (g : Paragraph) (text : List ℕ) (h : Here s g text) (p n q : ℕ) (y : Seen) : Type 0 where
  enough : y.passed.ordinal + extended_in (tokens_at (units text) q) ≡ length (owns h)
  owned : drop y.passed.ordinal (owns h) ≡ drop y.passed.skipped (headers s g.level y.passed.from.0)
  spots : (i j : ℕ) → i ≡ y.passed.ordinal + j
      → found_in g.level 71 i g.behind.0 h.rs ≡ found_in g.level 71 (y.passed.skipped + j) y.passed.from.0 (records_in (drop y.passed.from.0 s))
  few : y.passed.ordinal ≤ n + 1
  fewer : y.passed.skipped ≤ y.passed.ordinal
  none_here : y.control ≡ None → left_in h id n p ≡ left_in h id y.passed.ordinal q
  width_is : (c : Offset) → y.control ≡ Some c → q ≡ p + 8
  found_here : (c : Offset) → y.control ≡ Some c
      → left_in h id n p ≡ hit_of g.number g.header.0 h.rec h.rs (field_at n p (next (tokens_at (units text) q))) ∷ left_in h id y.passed.ordinal q
  control-is : (c : Offset) → y.control ≡ Some c → c.0 ≡ place_found 0 (found_in g.level 71 n g.behind.0 h.rs)

no_control : {A : Type 0} {c : Offset} → ◌≡◌ {A = Option Offset} None (Some c) → A
no_control e = absurd (let z : ◌≡◌ {A = ℕ} 0 1 = cc in omega arith)

-- a control header that is told where a test holds
told_not : (b : Bool) (p : Offset) → ◌≡◌ {A = Option Offset} (cond b (Some p) None) None → b ≡ false
told_not true p e = no_control (sym e)
told_not false p e = refl

told_there : (b : Bool) (p c : Offset) → ◌≡◌ {A = Option Offset} (cond b (Some p) None) (Some c) → (b ≡ true) × (c ≡ p)
told_there true p c e = (refl, cc)
told_there false p c e = no_control e

module _ {s text : List ℕ} {id p q : ℕ} {g : Paragraph} {met : Met} {w : Passed} {x : Standing} (bs : Bytes s)
    (k : Walking s id g text met p w) (o : Onward (units text) p x q) where
  abbrev place : Here s g text
  place = k.here

  abbrev n : ℕ
  n = w.ordinal

  abbrev ahead : List Token
  ahead = tokens_at (units text) q

  abbrev After : Seen → Type 0
  After y = Stepped s id g text place p n q y

  abbrev viewed : View
  viewed = view place.rec place.rs

  -- a step that passes no control header
  stay : fields_in n (tokens_at (units text) p) ≡ fields_in n ahead → extended_in (tokens_at (units text) p) ≡ extended_in ahead → After (unseen w)
  stay f e =
      record {
        enough = rw (← e) k.enough;
        owned = k.owned;
        spots = k.spots;
        few = omega arith;
        fewer = k.fewer;
        none_here = λ h. ap (left_of k) f;
        width_is = λ c h. no_control h;
        found_here = λ c h. no_control h;
        control-is = λ c h. no_control h;
      }

  -- another class has another code
  three_not : (c : Control) {a : Class} → x ≡ St.Control c → c.class ≡ a → c.code ≡ 3 → (a ≡ Extended → ⊥) → ⊥
  three_not c is h z other =
      other (sym h ∙ field_extended (get_or (units text) p 0) c (sym o.begins ∙ is) z)

  stay_nobody : owner_of x ≡ None → After (unseen w)
  unfolding extended_in
  stay_nobody e = go x refl e
    where
      control : (c : Control) → x ≡ St.Control c → is_extended (St.Control c) ≡ 0 → (c.code ≡ 3 → ⊥) → After (unseen w)
      control c e z h =
          stay (ap (fields_in n) o.tokens ∙ fields_other (record { at = p; what = x }) ahead n e h ∙ ap (λ (m : ℕ). fields_in m ahead) (rw z (zero-add n)))
          (ap extended_in o.tokens ∙ ap (λ (y : Standing). is_extended y + extended_in ahead) e ∙ rw z (zero-add _))

      by : (a : Class) (c : Control) → x ≡ St.Control c → c.class ≡ a → ◌≡◌ {A = Option ℕ} (elim a [ Character ↦ None | Inline ↦ None | Extended ↦ Some c.code ]) None → After (unseen w)
      by Character c is h q = control c is (rw h) (λ z. three_not c is h z (λ r. let y : ◌≡◌ {A = ℕ} 0 1 = cc in omega arith))
      by Inline c is h q = control c is (rw h) (λ z. three_not c is h z (λ r. let y : ◌≡◌ {A = ℕ} 0 1 = cc in omega arith))
      by Extended c is h q = absurd (let z : ◌≡◌ {A = ℕ} 0 1 = cc in omega arith)

      go : (y : Standing) → x ≡ y → owner_of y ≡ None → After (unseen w)
      go (St.Ordinary u) is q =
          stay (ap (fields_in n) o.tokens ∙ fields_ordinary (record { at = p; what = x }) ahead n is)
          (ap extended_in o.tokens ∙ ap (λ (y : Standing). is_extended y + extended_in ahead) is ∙ zero-add _)
      go (St.Control c) is q = by c.class c is refl q

  -- an extended control
  module _ (c : Control) (is : x ≡ St.Control c) (ext : c.class ≡ Extended) where
    one : is_extended (St.Control c) ≡ 1
    one = rw ext

    more : extended_in (tokens_at (units text) p) ≡ 1 + extended_in ahead
    unfolding extended_in
    more = ap extended_in o.tokens ∙ ap (λ (y : Standing). is_extended y + extended_in ahead) is ∙ ap (λ (m : ℕ). m + extended_in ahead) one

    up : is_extended (St.Control c) + n ≡ n + 1
    up = omega (arith, one)

    -- that is no field
    step_other : (c.code ≡ 3 → ⊥) → After (seen_of s id w K.Other)
    step_other h =
        record {
          enough = omega (arith, k.enough, more);
          owned = sym (drop-drop 1 n (owns place)) ∙ ap (drop 1) k.owned ∙ drop-drop 1 w.skipped (headers s g.level w.from.0);
          spots = λ i j z.
              k.spots i (suc j) (omega arith)
              ∙ ap (λ (m : ℕ). found_in g.level 71 m w.from.0 (records_in (drop w.from.0 s))) (over j);
          few = omega arith;
          fewer = omega (arith, k.fewer);
          none_here = λ z.
              ap (left_of k)
              (ap (fields_in n) o.tokens ∙ fields_other (record { at = p; what = x }) ahead n is h ∙ ap (λ (m : ℕ). fields_in m ahead) up);
          width_is = λ c z. no_control z;
          found_here = λ c z. no_control z;
          control-is = λ c z. no_control z;
        }
      where
        over : (j : ℕ) → w.skipped + suc j ≡ w.skipped + 1 + j
        over j = omega arith

    -- each owns a control header
    step_lacking : {A : Type 0} → drop w.skipped (headers s g.level w.from.0) ≡ [] → A
    step_lacking e =
        absurd
        (let l : length (drop n (owns place)) ≡ 0 = ap length (k.owned ∙ e) in
        omega (arith, length-drop n (owns place), k.enough, more))

    -- a field
    module _ (three : c.code ≡ 3) (t : Record) (d : Owning s g.level w.skipped w.from.0 t) where
      front : drop n (owns place) ≡ body_of s t ∷ headers s g.level t.next.0
      front = k.owned ∙ d.headers_are

      abbrev has_id : Bool
      has_id = eqb (id_in (body_of s t)) id

      abbrev here_field : Field
      here_field = field_at n p (next ahead)

      -- the id that is read is that of the field
      id_is : id_of viewed here_field ≡ id_in (body_of s t)
      unfolding id_of view
      id_is =
          ap id_in
          (ap₂ (λ (l i : ℕ). get_or (controls (kids l place.rs)) i []) (sym (level_is place)) (field_ordinal n p (next ahead) ∙ sym (add-zero n))
          ∙ sym (get_or-drop n (owns place) 0 [])
          ∙ ap (λ (l : List (List ℕ)). get_or l 0 []) front)

      fields_three : fields_in n (tokens_at (units text) p) ≡ here_field ∷ fields_in (n + 1) ahead
      fields_three =
          ap (fields_in n) o.tokens ∙ fields_field (record { at = p; what = x }) ahead n is three ∙ ap (λ (m : ℕ). here_field ∷ fields_in m ahead) up

      abbrev hits_of : List Field → List Hit
      hits_of fs = map (hit_of g.number g.header.0 place.rec place.rs) fs ++ hits id (suc g.number) g.behind.0 place.rs

      step_header : After (seen_of s id w (K.Header t))
      step_header =
          record {
            enough = omega (arith, k.enough, more);
            owned = sym (drop-drop 1 n (owns place)) ∙ ap (drop 1) front;
            spots = λ i j z.
                k.spots i (suc j) (omega arith) ∙ d.later (w.skipped + suc j) j (later j)
                ∙ ap (λ (m : ℕ). found_in g.level 71 m t.next.0 (records_in (drop t.next.0 s))) (sym (zero-add j));
            few = omega arith;
            fewer = omega arith;
            none_here = λ h.
                ap (left_of k) fields_three
                ∙ ap hits_of
                (with_other id viewed here_field (fields_in (n + 1) ahead)
                (λ r. eqb-false (id_in (body_of s t)) id (told_not has_id t.at h) (sym id_is ∙ r)));
            width_is = λ c h. o.further ∙ rw (is, ext);
            found_here = λ c h.
                ap (left_of k) fields_three
                ∙ ap hits_of
                (with_here id viewed here_field (fields_in (n + 1) ahead) (id_is ∙ eqb-true (id_in (body_of s t)) id (told_there has_id t.at c h).0));
            control-is = λ c h.
                ap (λ (x : Offset). x.0) (told_there has_id t.at c h).1
                ∙ sym
                (ap (place_found 0)
                (k.spots n 0 (sym (add-zero n))
                ∙ ap (λ (m : ℕ). found_in g.level 71 m w.from.0 (records_in (drop w.from.0 s))) (add-zero w.skipped) ∙ d.found));
          }
        where
          later : (j : ℕ) → w.skipped + suc j ≡ suc (w.skipped + j)
          later j = omega arith

  -- every step
  abbrev Found-there : Owned → Type 0
  Found-there a = Outcome s g.level w.skipped w.from.0 (owner_of x) a

  step_by : (a : Owned) → Found-there a → After (seen_of s id w a)
  step_by K.Nobody e = stay_nobody e
  step_by K.Other e =
      let u = owner_is x e.0 e.1 in
      step_other u.0 u.1 u.2 (λ z. eqb-false e.0 3 e.2 (sym u.3 ∙ z))
  step_by K.Lacking e = let u = owner_is x 3 e.0 in step_lacking u.0 u.1 u.2 e.1
  step_by (K.Header t) e = let u = owner_is x 3 e.0 in step_header u.0 u.1 u.2 u.3 t e.1

  abbrev stands : Owned
  stands = owned_by g.level w.skipped w.from.0 (records_in (drop w.from.0 s)) (owner_of x)

  stepped : (y : Seen) → y ≡ seen_of s id w stands → After y
  stepped y e = subst After (sym e) (step_by stands (outcome s bs g.level w.skipped w.from.0 (owner_of x) stands stands refl refl))

  module _ (y : Seen) (e : y ≡ seen_of s id w (owned_by g.level w.skipped w.from.0 (records_in (drop w.from.0 s)) (owner_of x))) where
    abbrev this : Hit
    this = hit_of g.number g.header.0 place.rec place.rs (field_at n p (next ahead))

    abbrev hit : Offset → told-hit.Hit
    hit c = hit_from g n (position q) c (closing_of (next ahead))

    this_is : (c : Offset) → y.control ≡ Some c → hit c ≡ told this
    unfolding hit_of
    this_is c h =
        let t = stepped y e in
        same_hit
        (ap (λ (g : Paragraph). g.text.place.0) place.is ∙ from_is (found_in (suc place.rec.level) 67 0 (g.header.0 + size place.rec) place.rs))
        (t.control-is c h
        ∙ ap₂ (λ (l b : ℕ). place_found 0 (found_in l 71 n b place.rs)) (level_is place) (behind-is place)
        ∙ ap (λ (i : ℕ). place_found 0 (found_in (suc place.rec.level) 71 i (g.header.0 + size place.rec) place.rs)) (sym (field_ordinal n p (next ahead))))
        (ap (λ (g : Paragraph). g.marks) place.is)
        (sym (field_ordinal n p (next ahead)))
        (t.width_is c h ∙ sym (field_a n p (next ahead)))
        (sym (field_b n p (next ahead)))
        (sym (field_plain n p (next ahead)))
      where
        from_is : (f : Found) → (span_of f).place.0 ≡ first_byte f
        from_is (Some p) = refl
        from_is None = refl

    met_by_lem : (o : Option Offset) → y.control ≡ o
        → met_with M.Nothing (hits id 0 0 (records_in s)) ≡ met_with (met_by met o hit) (left_in place id y.passed.ordinal q)
    unfolding met_with
    met_by_lem (Some c) h =
        k.rest ∙ ap (met_with met) ((stepped y e).found_here c h)
        ∙ ap (λ (z : told-hit.Hit). met_with (met_next met z) (left_in place id y.passed.ordinal q)) (sym (this_is c h))
    met_by_lem None h = k.rest ∙ ap (met_with met) ((stepped y e).none_here h)

    pub walking_on : (m : Met) {u : List ℕ} {a : Position} → (u ≡ text) × (a ≡ position q)
        → m ≡ met_by met y.control (λ (c : Offset). hit_from g n a c (closing_of (next (tokens_at (units u) a.0)))) → Walking s id g text m q y.passed
    walking_on m a d =
        let f : m ≡ met_by met y.control hit = rw (a.0, a.1) at d in
        let t = stepped y e in
        record {
          here = place;
          sound = sym o.fault ∙ k.sound;
          enough = t.enough;
          owned = t.owned;
          spots = t.spots;
          few = omega (arith, t.few, k.few, o.rises);
          fewer = t.fewer;
          rest = met_by_lem y.control refl ∙ ap (λ (m : Met). met_with m (left_in place id y.passed.ordinal q)) (sym f);
        }

module _ {s text : List ℕ} {id p : ℕ} {g : Paragraph} {met : Met} {w : Passed} (k : Walking s id g text met p w) where
  -- the second leaves both loops
  pub walking_twice : {x : Offset} → met ≡ M.Twice x → met ≡ met_with M.Nothing (hits id 0 0 (records_in s))
  walking_twice {x} e =
      e ∙ sym (k.rest ∙ ap (λ (m : Met). met_with m (left_in k.here id w.ordinal p)) e ∙ met_twice x (left_in k.here id w.ordinal p))

  -- behind the text
  pub walking_end : {number : ℕ} → g.number ≡ number → Ended (units text) p → Searching s id met (number + 1) g.behind.0
  unfolding fields_in with_id
  walking_end {number} b e =
      record {
        rest = k.rest ∙ rw (e.tokens, k.here.rs_is, add-one number, ← b);
        fits = rw k.here.rs_is k.here.fits;
        few = omega (arith, k.here.few, b, behind-is k.here, size_least k.here.rec);
      }

  -- what the code asks of its numbers
  pub walking_few : {q : ℕ} {x : Standing} → Onward (units text) p x q → w.ordinal ≤ length s
  walking_few o = omega (arith, k.few, o.rises, o.fits, length-units text, k.here.short)

  pub walking_sound : {q : ℕ} {x : Standing} → Onward (units text) p x q → fault_at (units text) q ≡ None
  walking_sound o = sym o.fault ∙ k.sound
