-- A fill of a paragraph that keeps document 01's sentences (`acceptance`, Keeps) leaves one that keeps them. Assumes nothing.
use Rattle.std.specs.Prelude.{None, Option, Some}
use mathlib.Core.Path.{◌≡◌, refl, sym, ap, ◌∙◌, subst}
use Prim.Native.Nat.{ℕ, suc, ◌+◌, ◌*◌, ◌-◌, ◌/◌, ◌%◌, ◌≤◌, ◌<◌, max}
use native.Mathlib.Omega.{arith}
use mathlib.Core.Bool.{Bool, true, false, cond, ◌&&◌}
use mathlib.Core.List.{List, [], ◌∷◌, ◌++◌, map}
use lib.Dec.{eqb}
use lib.ListN.{length, drop, length-map}
use borrow.Author.Tests.{lt-leb}
use Rattle.numbers.specs.Little.{little, bytes_of, span, Bytes}
use Rattle.numbers.proofs.LittleLaws.{length-bytes_of, little-bytes_of, little_small, bytes_drop}
use Rattle.text.specs.Units.{units}
use Rattle.text.specs.Asked.{SoundText}
use Rattle.text.specs.Walk.{Token, tokens, extended_count, AllOrdinary}
use Rattle.text.proofs.UnitLaws.{length-units}
use Rattle.text.proofs.PartLaws.{left_over, shift, singles, tokens_parts, tokens-replaced, extended_kept, sound_kept}
use Rattle.paragraph.specs.View.{View, child, controls}
use Rattle.entries.specs.Entries.{entries}
use Rattle.entries.proofs.EntryLaws.{length-entries}
use Rattle.paragraph.specs.Rules.{counts_of, bytes_in, owner_of, code_before, codes_in, Owner}
use Rattle.paragraph.specs.declared.finding.Counts.{Counts}
use Rattle.acceptance.specs.Keeps.{First, Above, Rise, Below, LongEnough, Fields, Sized, Keeps}
use Rattle.acceptance.proofs.ChainLaws.{some_none}
use Rattle.filling.specs.Replacing.{replaced}
use Rattle.filling.specs.Shapes.{Entry, start_at, inside, any_inside, moved, entry_at, shapes_in, packed, shapes_after}
use Rattle.filling.specs.Fields.{Field, fields_in, fields}
use Rattle.filling.specs.Editing.{edit_view}
use Rattle.filling.specs.Filling.{unit_count, Value, recounted, new_head, with_bit15, altered, shapes_of, filling}
use Rattle.filling.proofs.ReplacingLaws.{replaced_at, length-replaced}
use Rattle.filling.proofs.TextLaws.{units-replaced}
use Rattle.filling.proofs.PackingLaws.{over_length, over_drop, over_here, length-packed, shapes_small}
use Rattle.filling.proofs.FieldLaws.{Cut, cut, Among, a_positive, a_to_b}
use Rattle.filling.proofs.ShapeLaws.{StartsFrom, after_starts}
use Rattle.filling.proofs.FillLaws.{first_word, recount_fits, marks-kept, mapped, text-filled, shapes-filled, layout-filled, marks-filled, read_after}
use Rattle.filling.proofs.SearchLaws.{no_field, drop-altered, altered_at, controls-filled}

-- ---- a record that is there, or is not

only : (P : List ℕ → Type 0) {o : Option (List ℕ)} {t : List ℕ} → o ≡ Some t → P t → (b : List ℕ) → o ≡ Some b → P b
only P {o} {t} e p b q = let same : t ≡ b = cc in subst P same p

gone : (P : List ℕ → Type 0) {o : Option (List ℕ)} → o ≡ None → (b : List ℕ) → o ≡ Some b → P b
gone P e b q = absurd (some_none (sym q ∙ e))

-- ---- 13: what is asked of the starts, as the laws of shapes ask it of entries

module _ (bound : ℕ) where
  starts_behind : (x : ℕ) (es : List (List ℕ)) → Above x (map (little 4) es) → Below bound (map (little 4) es) → StartsFrom (x + 1) bound bound (map entry_at es)
  unfolding entry_at
  starts_behind x [] a b = tt
  starts_behind x (e ∷ es) a b = (omega (arith, a.0), b.0, starts_behind (little 4 e) es a.1 b.1)

  starts_of_lem : (es : List (List ℕ)) → First 0 (map (little 4) es) → Rise (map (little 4) es) → Below bound (map (little 4) es) → StartsFrom 0 1 bound (map entry_at es)
  unfolding entry_at
  starts_of_lem [] f r b = tt
  starts_of_lem (e ∷ es) f r b = (omega arith, omega (arith, f), starts_behind (little 4 e) es r b.1)

  behind_starts : (x : ℕ) (es : List (List ℕ)) → StartsFrom (x + 1) bound bound (map entry_at es) → Above x (map (little 4) es) × Below bound (map (little 4) es)
  unfolding entry_at
  behind_starts x [] s = (tt, tt)
  behind_starts x (e ∷ es) s = let k = behind_starts (little 4 e) es s.2 in ((omega (arith, s.0), k.0), (s.1, k.1))

  of_starts : (es : List (List ℕ)) → 0 < bound → StartsFrom 0 1 bound (map entry_at es)
      → First 0 (map (little 4) es) × Rise (map (little 4) es) × Below bound (map (little 4) es)
  unfolding entry_at
  of_starts [] h s = (tt, tt, tt)
  of_starts (e ∷ es) h s = let k = behind_starts (little 4 e) es s.2 in (omega (arith, s.1), k.0, (omega (arith, s.1), k.1))

-- ---- 15: bit 15 makes no control header shorter

pub length-altered : (b : List ℕ) → 8 ≤ length b → length (altered b) ≡ length b
unfolding altered
length-altered b h = over_length 4 8 (bytes_of 4 (with_bit15 (little 4 (drop 4 b)))) b (length-bytes_of 4 _) (omega arith) h

long-altered : (b : List ℕ) → LongEnough b → LongEnough (altered b)
long-altered b k =
    let n = length-altered b (omega (arith, k.fixed)) in
    record { fixed = rw n k.fixed; command = rw (n, drop-altered 1 b) k.command }

fields-altered : (o j : ℕ) (cs : List ℕ) (bs : List (List ℕ)) → Fields cs bs → Fields cs (altered_at o j bs)
unfolding altered_at
fields-altered o j [] bs k = tt
fields-altered o j (c ∷ cs) [] k = tt
fields-altered o j (c ∷ cs) (b ∷ bs) k = ((λ e. either (eqb j o) (k.0 e)), fields-altered o (suc j) cs bs k.1)
  where
    either : (t : Bool) → LongEnough b → LongEnough (cond t (altered b) b)
    either true l = long-altered b l
    either false l = l

length_altered_at : (o j : ℕ) (bs : List (List ℕ)) → length (altered_at o j bs) ≡ length bs
unfolding altered_at
length_altered_at o j [] = refl
length_altered_at o j (b ∷ bs) = ap suc (length_altered_at o (suc j) bs)

-- ---- the codes of the extended controls stay

codes_append : (ts us : List Token) → codes_in (ts ++ us) ≡ codes_in ts ++ codes_in us
unfolding codes_in
codes_append [] us = refl
codes_append (t ∷ ts) us = rw (codes_append ts us) (go (owner_of t.what))
  where
    go : (o : Owner) → code_before o (codes_in ts ++ codes_in us) ≡ code_before o (codes_in ts) ++ codes_in us
    go None = refl
    go (Some c) = refl

codes_singles : (p : ℕ) (x : List ℕ) → codes_in (singles p x) ≡ []
unfolding codes_in singles
codes_singles p [] = refl
codes_singles p (u ∷ x) = codes_singles (p + 1) x

codes_shift : (c d : ℕ) (ts : List Token) → codes_in (map (shift c d) ts) ≡ codes_in ts
unfolding codes_in shift
codes_shift c d [] = refl
codes_shift c d (t ∷ ts) = ap (code_before (owner_of t.what)) (codes_shift c d ts)

codes_kept : (x y z w : List ℕ) → left_over 0 x ≡ 0 → AllOrdinary y → AllOrdinary w
    → codes_in (tokens (x ++ (w ++ z))) ≡ codes_in (tokens (x ++ (y ++ z)))
codes_kept x y z w h oy ow =
    rw (tokens-replaced x y z w h ow, tokens_parts x y z h oy)
    (simp (codes_append, codes_singles, codes_shift))

-- ---- a text with a field filled

module _ (f : Field) (us w : List ℕ) (k : Cut f us) (o : AllOrdinary w) where
  cut_replaced : replaced f.a f.b w us ≡ k.before ++ (w ++ k.behind)
  cut_replaced = ap (replaced f.a f.b w) k.is ∙ replaced_at k.before k.within k.behind w f.a f.b k.at_a k.at_b

  pub text_sound : SoundText us → SoundText (replaced f.a f.b w us)
  text_sound s = rw cut_replaced (sound_kept k.before k.within k.behind w k.ended k.ordinary o k.closes (rw k.is at s))

  pub extended_same : extended_count (replaced f.a f.b w us) ≡ extended_count us
  extended_same =
      ap extended_count cut_replaced ∙ extended_kept k.before k.within k.behind w k.ended k.ordinary o ∙ ap extended_count (sym k.is)

  pub codes_same : codes_in (tokens (replaced f.a f.b w us)) ≡ codes_in (tokens us)
  codes_same =
      ap (λ (l : List ℕ). codes_in (tokens l)) cut_replaced
      ∙ codes_kept k.before k.within k.behind w k.ended k.ordinary o
      ∙ ap (λ (l : List ℕ). codes_in (tokens l)) (sym k.is)

-- ---- the header after a fill

pub length_head : (a b v k : ℕ) (h : List ℕ) → 18 ≤ length h → length (new_head a b v k h) ≡ length h
unfolding new_head
length_head a b v k h n =
    let h₁ = replaced 16 18 (bytes_of 2 0) h in
    let n₁ : length h₁ ≡ length h = over_length 16 18 (bytes_of 2 0) h (length-bytes_of 2 0) (omega arith) n in
    let h₂ = replaced 12 14 (bytes_of 2 k) h₁ in
    let n₂ : length h₂ ≡ length h = over_length 12 14 (bytes_of 2 k) h₁ (length-bytes_of 2 k) (omega arith) (omega arith) ∙ n₁ in
    over_length 0 4 (bytes_of 4 (recounted a b v (little 4 h))) h₂ (length-bytes_of 4 _) (omega arith) (omega arith) ∙ n₂

shapes_new : (a b v k : ℕ) (h : List ℕ) → 18 ≤ length h → k < 65536 → little 2 (drop 12 (new_head a b v k h)) ≡ k
unfolding new_head span
shapes_new a b v k h n l =
    let h₁ = replaced 16 18 (bytes_of 2 0) h in
    let n₁ : length h₁ ≡ length h = over_length 16 18 (bytes_of 2 0) h (length-bytes_of 2 0) (omega arith) n in
    ap (little 2) (over_drop 0 4 8 (bytes_of 4 (recounted a b v (little 4 h))) (replaced 12 14 (bytes_of 2 k) h₁) (length-bytes_of 4 _) (omega arith)
    ∙ over_here 12 14 (bytes_of 2 k) h₁ (omega arith))
    ∙ little-bytes_of 2 k (drop 14 h₁) l

lines_new : (a b v k : ℕ) (h : List ℕ) → 18 ≤ length h → little 2 (drop 16 (new_head a b v k h)) ≡ 0
unfolding new_head span
lines_new a b v k h n =
    ap (little 2) (over_drop 0 4 12 (bytes_of 4 (recounted a b v (little 4 h))) (replaced 12 14 (bytes_of 2 k) (replaced 16 18 (bytes_of 2 0) h)) (length-bytes_of 4 _) (omega arith)
    ∙ over_drop 12 14 2 (bytes_of 2 k) (replaced 16 18 (bytes_of 2 0) h) (length-bytes_of 2 k) (omega arith)
    ∙ over_here 16 18 (bytes_of 2 0) h (omega arith))
    ∙ little-bytes_of 2 0 (drop 18 h) (omega arith)

recount_count : (a b v x : ℕ) → x % 2147483648 + v < 2147483648 → recounted a b v x % 2147483648 ≡ x % 2147483648 + v - (b - a)
unfolding recounted
recount_count a b v x m = go (x % 2147483648 + v - (b - a)) (omega arith)
  where
    go : (y : ℕ) → y < 2147483648 → (x / 2147483648 * 2147483648 + y) % 2147483648 ≡ y
    go y l = omega arith

count_new : (a b v k : ℕ) (h : List ℕ) → little 4 h < 4294967296 → little 4 h % 2147483648 + v < 2147483648
    → little 4 (new_head a b v k h) % 2147483648 ≡ little 4 h % 2147483648 + v - (b - a)
unfolding new_head
count_new a b v k h l m = rw (first_word (recounted a b v (little 4 h)) (replaced 12 14 (bytes_of 2 k) (replaced 16 18 (bytes_of 2 0) h)) (recount_fits (little 4 h) a b v l m)) (recount_count a b v (little 4 h) m)

pub counts_new : (a b v k : ℕ) (h : List ℕ) → 18 ≤ length h → little 4 h < 4294967296 → little 4 h % 2147483648 + v < 2147483648 → k < 65536
    → counts_of (new_head a b v k h) ≡ record { count = (counts_of h).count + v - (b - a); shapes = k; marks = (counts_of h).marks; lines = 0 }
unfolding counts_of
counts_new a b v k h n l m z = rw (count_new a b v k h l m, shapes_new a b v k h n z, marks-kept a b v k h n, lines_new a b v k h n)

-- ---- the number of shapes after a fill

pub after_fewer : (a b v : ℕ) (l : List Entry) → length (shapes_after a b v l) ≤ length l
unfolding shapes_after
after_fewer a b v [] = omega arith
after_fewer a b v (e ∷ l) = go (inside a b e.start && any_inside a b l) (after_fewer a b v l)
  where
    go : (t : Bool) → length (shapes_after a b v l) ≤ length l
        → length (cond t (shapes_after a b v l) (start_at (moved a b v e.start) e ∷ shapes_after a b v l)) ≤ suc (length l)
    go true h = omega arith
    go false h = omega arith

-- the first start is 0 and stays
after_some : (a b v n : ℕ) (l : List Entry) → 0 < a → StartsFrom 0 1 n l → 0 < length l → 0 < length (shapes_after a b v l)
unfolding shapes_after inside
after_some a b v n [] z s h = h
after_some a b v n (e ∷ l) z s h = rw (lt-leb a e.start (omega (arith, s.1))) (omega arith)

pub length-shapes : (b : List ℕ) → length (shapes_in b) ≡ length b / 8
unfolding shapes_in
length-shapes b = length-map (entries 8 (length b / 8) b) entry_at ∙ length-entries 8 (length b / 8) b

-- ---- the whole

-- a view without layout and marks that keeps the rules
build : (v : View) (n k : ℕ) (t s : List ℕ) (bs : List (List ℕ)) → 22 ≤ length v.head
    → counts_of v.head ≡ record { count = n; shapes = k; marks = 0; lines = 0 }
    → child 67 v.own ≡ Some t → child 68 v.own ≡ Some s → child 69 v.own ≡ None → child 70 v.own ≡ None → controls v.own ≡ bs
    → Sized 2 n t → Sized 8 k s → SoundText (units t) → StartsFrom 0 1 n (shapes_in s)
    → extended_count (units t) ≡ length bs → Fields (codes_in (tokens (units t))) bs → Keeps v
unfolding shapes_in
build v n k t s bs l c e₁ e₂ e₃ e₄ e₅ st ss ts sh ex ff =
    let m : max 1 n ≡ n = omega (arith, st.above) in
    let starts = of_starts n (entries 8 (length s / 8) s) st.above sh in
    record {
      header-long = l;
      text-absent = λ e. absurd (some_none (sym e₁ ∙ e));
      text_sized = only (Sized 2 (counts_of v.head).count) e₁ (rw c st);
      text_sound = only (λ b. SoundText (units b)) e₁ ts;
      shapes_there = λ e. some_none (sym e₂ ∙ e);
      shapes_sized = only (Sized 8 (counts_of v.head).shapes) e₂ (rw c ss);
      shapes_first = rw e₂ starts.0;
      shapes_rise = rw e₂ starts.1;
      shapes-below = rw (c, e₂, m) starts.2;
      layout-absent = λ e. rw c;
      layout_there = gone (λ b. 0 < (counts_of v.head).lines) e₃;
      marks-absent = λ e. rw c;
      marks_sized = gone (Sized 12 (counts_of v.head).marks) e₄;
      marks-within = rw e₄ (unfold entries in tt);
      controls_equal = rw (e₁, e₅) ex;
      fields-long = rw (e₁, e₅) ff;
    }

-- what the rules give of a paragraph with a text
pub record Written (v : View) (t s : List ℕ) : Type 0 where
  pub text_sized : Sized 2 (counts_of v.head).count t
  pub shapes_sized : Sized 8 (counts_of v.head).shapes s
  pub sound : SoundText (units t)
  pub starts : StartsFrom 0 1 (counts_of v.head).count (shapes_in s)
  pub matched : extended_count (units t) ≡ length (controls v.own)
  pub fields : Fields (codes_in (tokens (units t))) (controls v.own)

pub written : (v : View) (t s : List ℕ) → Keeps v → child 67 v.own ≡ Some t → child 68 v.own ≡ Some s → Written v t s
unfolding shapes_in
written v t s k e₁ e₂ =
    let n = (counts_of v.head).count in
    let sized = k.text_sized t e₁ in
    let m : max 1 n ≡ n = omega (arith, sized.above) in
    record {
      text_sized = sized;
      shapes_sized = k.shapes_sized s e₂;
      sound = k.text_sound t e₁;
      starts = starts_of_lem n (entries 8 (length s / 8) s) (rw e₂ at k.shapes_first) (rw e₂ at k.shapes_rise) (rw (e₂, m) at k.shapes-below);
      matched = rw e₁ at k.controls_equal;
      fields = rw e₁ at k.fields-long;
    }

pub text_there : (v : View) (f : Field) → Among f (fields v) → (t : List ℕ) × (child 67 v.own ≡ Some t)
unfolding fields
text_there v f m = go (child 67 v.own) refl m
  where
    go : (o : Option (List ℕ)) → child 67 v.own ≡ o → Among f (fields_in 0 (tokens (units (bytes_in o))))
        → (t : List ℕ) × (child 67 v.own ≡ Some t)
    go None e n = absurd (no_field f n)
    go (Some t) e n = (t, e)

pub shapes_there : (v : View) → Keeps v → (s : List ℕ) × (child 68 v.own ≡ Some s)
shapes_there v k = go (child 68 v.own) refl
  where
    go : (o : Option (List ℕ)) → child 68 v.own ≡ o → (s : List ℕ) × (child 68 v.own ≡ Some s)
    go None e = absurd (k.shapes_there e)
    go (Some s) e = (s, e)

marks_gone : (v : View) → Keeps v → (counts_of v.head).marks ≡ 0 → child 70 v.own ≡ None
marks_gone v k z = go (child 70 v.own) refl
  where
    go : (o : Option (List ℕ)) → child 70 v.own ≡ o → child 70 v.own ≡ None
    go None e = e
    go (Some s) e = absurd (omega (arith, (k.marks_sized s e).above))

-- a field of a paragraph that keeps its rules and has no marks, and a value for it
pub record Fillable (v : View) (f : Field) (w : List ℕ) : Type 0 where
  pub keeps : Keeps v
  pub bytes : Bytes v.head
  pub small : (counts_of v.head).count + 1024 < 2147483648
  pub shapes-bytes : (s : List ℕ) → child 68 v.own ≡ Some s → Bytes s
  pub among : Among f (fields v)
  pub plain : f.plain ≡ true
  pub value : Value w
  pub free : (counts_of v.head).marks ≡ 0

module _ (v : View) (f : Field) (w : List ℕ) (g : Fillable v f w) (t s : List ℕ) (e₁ : child 67 v.own ≡ Some t) (e₂ : child 68 v.own ≡ Some s) where
  fact : Written v t s
  fact = written v t s g.keeps e₁ e₂

  cut_text : Cut f (units t)
  unfolding fields
  cut_text = cut (units t) f (rw e₁ at g.among) g.plain

  ends : (0 < f.a) × (f.a ≤ f.b) × (f.b < (counts_of v.head).count)
  unfolding fields
  ends =
      let m : Among f (fields_in 0 (tokens (units t))) = rw e₁ at g.among in
      let h = a_to_b (units t) f m g.plain in
      (a_positive (units t) f m, h.0, omega (arith, h.1, length-units t, fact.text_sized.bytes))

  number_small : length (shapes_after f.a f.b (unit_count w) (shapes_in s)) < 65536
  unfolding counts_of span
  number_small =
      omega (arith, after_fewer f.a f.b (unit_count w) (shapes_in s), length-shapes s, fact.shapes_sized.bytes, little_small 2 (drop 12 v.head) (bytes_drop 12 v.head g.bytes))

  word_small : little 4 v.head < 4294967296
  unfolding span
  word_small = little_small 4 v.head g.bytes

  count_small : little 4 v.head % 2147483648 + unit_count w < 2147483648
  unfolding counts_of
  count_small = omega (arith, g.small, g.value.short)

  counts_filled : counts_of (edit_view (filling f w) v).head
      ≡ record { count = (counts_of v.head).count + unit_count w - (f.b - f.a); shapes = length (shapes_after f.a f.b (unit_count w) (shapes_in s)); marks = 0; lines = 0 }
  unfolding edit_view filling shapes_of
  counts_filled =
      let k = length (shapes_after f.a f.b (unit_count w) (shapes_in s)) in
      rw e₂
      (counts_new f.a f.b (unit_count w) k v.head (omega (arith, g.keeps.header-long)) word_small count_small number_small
      ∙ ap (λ (m : ℕ). record { count = (counts_of v.head).count + unit_count w - (f.b - f.a); shapes = k; marks = m; lines = 0 }) g.free)

  length-text : length (replaced (2 * f.a) (2 * f.b) w t) ≡ 2 * ((counts_of v.head).count + unit_count w - (f.b - f.a))
  length-text =
      length-replaced (2 * f.a) (2 * f.b) w t (omega (arith, ends.1)) (omega (arith, ends.2, fact.text_sized.bytes))
      ∙ omega (arith, g.value.even, fact.text_sized.bytes, ends.1, ends.2)

  units-text : units (replaced (2 * f.a) (2 * f.b) w t) ≡ replaced f.a f.b (units w) (units t)
  units-text = units-replaced f.a f.b (unit_count w) w t (omega (arith, ends.1, ends.2, fact.text_sized.bytes)) g.value.even

  read_shapes : shapes_in (packed (shapes_after f.a f.b (unit_count w) (shapes_in s))) ≡ shapes_after f.a f.b (unit_count w) (shapes_in s)
  read_shapes =
      read_after f.a f.b (unit_count w) (counts_of v.head).count ends.0 ends.1 ends.2 (omega (arith, g.small, g.value.short))
      (shapes_in s) fact.starts (shapes_small s (g.shapes-bytes s e₂))

  starts_filled : StartsFrom 0 1 ((counts_of v.head).count + unit_count w - (f.b - f.a))
      (shapes_in (packed (shapes_after f.a f.b (unit_count w) (shapes_in s))))
  starts_filled = rw read_shapes (after_starts f.a f.b (unit_count w) (counts_of v.head).count ends.0 ends.1 ends.2 (shapes_in s) fact.starts)

  filled_parts : Keeps (edit_view (filling f w) v)
  filled_parts =
      build (edit_view (filling f w) v) ((counts_of v.head).count + unit_count w - (f.b - f.a)) (length (shapes_after f.a f.b (unit_count w) (shapes_in s)))
      (replaced (2 * f.a) (2 * f.b) w t) (packed (shapes_after f.a f.b (unit_count w) (shapes_in s))) (altered_at f.ordinal 0 (controls v.own))
      (unfold edit_view filling in (rw (length_head f.a f.b (unit_count w) _ v.head (omega (arith, g.keeps.header-long))) g.keeps.header-long))
      counts_filled
      (unfold edit_view filling in (text-filled f w 0 v.own ∙ ap (mapped (replaced (2 * f.a) (2 * f.b) w)) e₁))
      (unfold edit_view filling in (shapes-filled f w 0 v.own ∙ ap (mapped (λ b. packed (shapes_after f.a f.b (unit_count w) (shapes_in b)))) e₂))
      (unfold edit_view filling in (layout-filled f w 0 v.own))
      (unfold edit_view filling in (marks-filled f w 0 v.own ∙ ap (mapped (λ b. b)) (marks_gone v g.keeps g.free)))
      (unfold edit_view filling in (controls-filled f w 0 v.own))
      (record { above = omega (arith, ends.1, ends.2); bytes = length-text })
      (record {
        above = after_some f.a f.b (unit_count w) (counts_of v.head).count (shapes_in s) ends.0 fact.starts (omega (arith, length-shapes s, fact.shapes_sized.bytes, fact.shapes_sized.above));
        bytes = length-packed (shapes_after f.a f.b (unit_count w) (shapes_in s));
      })
      (rw units-text (text_sound f (units t) (units w) cut_text g.value.ordinary fact.sound))
      starts_filled
      (ap extended_count units-text ∙ extended_same f (units t) (units w) cut_text g.value.ordinary ∙ fact.matched ∙ sym (length_altered_at f.ordinal 0 (controls v.own)))
      (rw (units-text, codes_same f (units t) (units w) cut_text g.value.ordinary) (fields-altered f.ordinal 0 (codes_in (tokens (units t))) (controls v.own) fact.fields))

-- the theorem: a fill of a paragraph that keeps its rules leaves one that keeps them
pub fill_keeps : (v : View) (f : Field) (w : List ℕ) → Fillable v f w → Keeps (edit_view (filling f w) v)
fill_keeps v f w g =
    let t = text_there v f g.among in
    let s = shapes_there v g.keeps in
    filled_parts v f w g t.0 s.0 t.1 s.1

-- the numbers of the header after a fill: the count changes by v - (b - a), there are no lines, and the shapes are no more than before
pub record Recounted (v : View) (f : Field) (w : List ℕ) : Type 0 where
  pub count : (counts_of (edit_view (filling f w) v).head).count ≡ (counts_of v.head).count + unit_count w - (f.b - f.a)
  pub shapes : (counts_of (edit_view (filling f w) v).head).shapes ≤ (counts_of v.head).shapes
  pub lines : (counts_of (edit_view (filling f w) v).head).lines ≡ 0

pub fill_recounts : (v : View) (f : Field) (w : List ℕ) → Fillable v f w → Recounted v f w
fill_recounts v f w g =
    let t = text_there v f g.among in
    let s = shapes_there v g.keeps in
    let c = counts_filled v f w g t.0 s.0 t.1 s.1 in
    let k = fact v f w g t.0 s.0 t.1 s.1 in
    record {
      count = ap (λ (x : Counts). x.count) c;
      shapes = omega (arith, ap (λ (x : Counts). x.shapes) c, after_fewer f.a f.b (unit_count w) (shapes_in s.0), length-shapes s.0, k.shapes_sized.bytes);
      lines = ap (λ (x : Counts). x.lines) c;
    }
