-- The fill of a field as an edit of its paragraph: child by child, and the header; two fills of one paragraph commute; a fill made twice
-- is the second alone. Assumes nothing.
use Rattle.std.specs.Prelude.{None, Option, Some, slice_get}
use mathlib.Core.Path.{◌≡◌, refl, sym, ap, ◌∙◌}
use mathlib.Core.Logic.{inl, inr}
use Prim.Native.Nat.{ℕ, ◌+◌, ◌*◌, ◌-◌, ◌/◌, ◌%◌, ◌≤◌, ◌<◌}
use native.Mathlib.Omega.{arith}
use mathlib.Core.Bool.{Bool, true, false, cond, ◌&&◌}
use mathlib.Core.List.{List, [], ◌∷◌}
use lib.Dec.{eqb}
use lib.ListN.{length, drop}
use borrow.Author.Tests.{eq-eqb, ne_eqb}
use Rattle.numbers.specs.Little.{little, bytes_of, span, Bytes}
use Rattle.numbers.proofs.LittleLaws.{length-bytes_of, little-bytes_of, little_small}
use Rattle.records.specs.Records.{Rec}
use Rattle.text.proofs.Cases.{eq_or}
use Rattle.paragraph.specs.View.{View, child, views}
use Rattle.paragraph.proofs.BodyLaws.{child_here, child_other}
use Rattle.filling.specs.Replacing.{replaced}
use Rattle.filling.specs.Shapes.{Entry, start_at, inside, any_inside, moved, shapes_in, packed, shapes_after}
use Rattle.filling.specs.Fields.{Field}
use Rattle.filling.specs.Editing.{Change, with_body, put, count_control, changed, edit_view, edit_at, TakesLayout, then_body, then_change, then_edit, as_child, OwnedChild}
use Rattle.filling.specs.Filling.{unit_count, recounted, new_head, altered, shapes_of, new_body, filling}
use Rattle.filling.proofs.ReplacingLaws.{replaced_comm}
use Rattle.filling.proofs.PackingLaws.{over_length, over_comm, over_again, over_drop, over_before, little-same, Small, shapes-packed, shapes_small}
use Rattle.filling.proofs.ShapeLaws.{StartsFrom, after_starts, after_comm}
use Rattle.filling.proofs.EditLaws.{Agree, AgreeAt, at_after, at_cong}

-- ---- the new body of a child, by its tag

module _ (f : Field) (w : List ℕ) (j t : ℕ) (b : List ℕ) where
  pub body_text : t ≡ 67 → new_body f w (record { before = j; tag = t; body = b }) ≡ Some (replaced (2 * f.a) (2 * f.b) w b)
  unfolding new_body
  body_text e = rw e

  pub body_shapes : t ≡ 68 → new_body f w (record { before = j; tag = t; body = b }) ≡ Some (packed (shapes_after f.a f.b (unit_count w) (shapes_in b)))
  unfolding new_body
  body_shapes e = rw e

  pub body_layout : t ≡ 69 → new_body f w (record { before = j; tag = t; body = b }) ≡ None
  unfolding new_body
  body_layout e = rw e

  pub body_control : t ≡ 71 → new_body f w (record { before = j; tag = t; body = b }) ≡ Some (cond (eqb j f.ordinal) (altered b) b)
  unfolding new_body
  body_control e = rw e

  pub body_other : (t ≡ 67 → ⊥) → (t ≡ 68 → ⊥) → (t ≡ 69 → ⊥) → (t ≡ 71 → ⊥) → new_body f w (record { before = j; tag = t; body = b }) ≡ Some b
  unfolding new_body
  body_other e₁ e₂ e₃ e₄ = rw (ne_eqb t 67 e₁, ne_eqb t 68 e₂, ne_eqb t 69 e₃, ne_eqb t 71 e₄)

-- the tags that a fill tells apart
pub data Kind (t : ℕ) : Type 0 where
  text : t ≡ 67 → Kind t
  shapes : t ≡ 68 → Kind t
  layout : t ≡ 69 → Kind t
  control : t ≡ 71 → Kind t
  other : (t ≡ 67 → ⊥) → (t ≡ 68 → ⊥) → (t ≡ 69 → ⊥) → (t ≡ 71 → ⊥) → Kind t

pub kind : (t : ℕ) → Kind t
kind t = elim (eq_or t 67) [
  | inl e ↦ text e
  | inr e₁ ↦ elim (eq_or t 68) [
    | inl e ↦ shapes e
    | inr e₂ ↦ elim (eq_or t 69) [
      | inl e ↦ layout e
      | inr e₃ ↦ elim (eq_or t 71) [ inl e ↦ control e | inr e₄ ↦ other e₁ e₂ e₃ e₄ ]
    ]
  ]
]

-- a fill takes away layout records only
pub takes : (f : Field) (w : List ℕ) → TakesLayout (new_body f w)
takes f w c q = elim (kind c.tag) [
  | text e ↦ no_some _ (sym (body_text f w c.before c.tag c.body e) ∙ q)
  | shapes e ↦ no_some _ (sym (body_shapes f w c.before c.tag c.body e) ∙ q)
  | layout e ↦ e
  | control e ↦ no_some _ (sym (body_control f w c.before c.tag c.body e) ∙ q)
  | other e₁ e₂ e₃ e₄ ↦ no_some _ (sym (body_other f w c.before c.tag c.body e₁ e₂ e₃ e₄) ∙ q)
]
  where
    no_some : (x : List ℕ) → ◌≡◌ {A = Option (List ℕ)} (Some x) None → c.tag ≡ 69
    no_some x e = cc

pub takes-filling : (f : Field) (w : List ℕ) → TakesLayout (filling f w).child
unfolding filling
takes-filling f w = takes f w

-- ---- the header

-- count, shapes and lines overwritten twice: the second time counts
head_twice : (c c' s s' l : List ℕ) (h : List ℕ) → 18 ≤ length h → length c ≡ 4 → length c' ≡ 4 → length s ≡ 2 → length s' ≡ 2 → length l ≡ 2
    → replaced 0 4 c' (replaced 12 14 s' (replaced 16 18 l (replaced 0 4 c (replaced 12 14 s (replaced 16 18 l h)))))
    ≡ replaced 0 4 c' (replaced 12 14 s' (replaced 16 18 l h))
head_twice c c' s s' l h n lc lc' ls ls' ll =
    let h₁ = replaced 16 18 l h in
    let n₁ : length h₁ ≡ length h = over_length 16 18 l h (omega arith) (omega arith) n in
    let h₂ = replaced 12 14 s h₁ in
    let n₂ : length h₂ ≡ length h = over_length 12 14 s h₁ (omega arith) (omega arith) (omega arith) ∙ n₁ in
    let e₁ : replaced 16 18 l (replaced 0 4 c h₂) ≡ replaced 0 4 c (replaced 16 18 l h₂)
    = over_comm 0 4 16 18 c l h₂ (omega arith) (omega arith) (omega arith) (omega arith) (omega arith) in
    let e₂ : replaced 16 18 l h₂ ≡ replaced 12 14 s (replaced 16 18 l h₁)
    = over_comm 12 14 16 18 s l h₁ (omega arith) (omega arith) (omega arith) (omega arith) (omega arith) in
    let e₃ : replaced 16 18 l h₁ ≡ h₁ = over_again 16 18 l l h (omega arith) (omega arith) n in
    let e₄ : replaced 12 14 s' (replaced 0 4 c h₂) ≡ replaced 0 4 c (replaced 12 14 s' h₂)
    = over_comm 0 4 12 14 c s' h₂ (omega arith) (omega arith) (omega arith) (omega arith) (omega arith) in
    let e₅ : replaced 12 14 s' h₂ ≡ replaced 12 14 s' h₁ = over_again 12 14 s s' h₁ (omega arith) (omega arith) (omega arith) in
    let n₃ : length (replaced 12 14 s' h₁) ≡ length h = over_length 12 14 s' h₁ (omega arith) (omega arith) (omega arith) ∙ n₁ in
    let e₆ : replaced 0 4 c' (replaced 0 4 c (replaced 12 14 s' h₁)) ≡ replaced 0 4 c' (replaced 12 14 s' h₁)
    = over_again 0 4 c c' (replaced 12 14 s' h₁) (omega arith) (omega arith) (omega arith) in
    cc

-- the count that was written is read
pub first_word : (x : ℕ) (l : List ℕ) → x < 4294967296 → little 4 (replaced 0 4 (bytes_of 4 x) l) ≡ x
unfolding replaced span
first_word x l h = little-bytes_of 4 x (drop 4 l) h

head_again : (a b v k a' b' v' k' : ℕ) (h : List ℕ) → 18 ≤ length h → recounted a b v (little 4 h) < 4294967296
    → new_head a' b' v' k' (new_head a b v k h)
    ≡ replaced 0 4 (bytes_of 4 (recounted a' b' v' (recounted a b v (little 4 h)))) (replaced 12 14 (bytes_of 2 k') (replaced 16 18 (bytes_of 2 0) h))
unfolding new_head
head_again a b v k a' b' v' k' h n l =
    ap (λ (x : ℕ). replaced 0 4 (bytes_of 4 (recounted a' b' v' x))
    (replaced 12 14 (bytes_of 2 k') (replaced 16 18 (bytes_of 2 0) (replaced 0 4 (bytes_of 4 (recounted a b v (little 4 h))) (replaced 12 14 (bytes_of 2 k) (replaced 16 18 (bytes_of 2 0) h)))))) (first_word _ _ l)
    ∙ head_twice _ _ _ _ _ h n (length-bytes_of 4 _) (length-bytes_of 4 _) (length-bytes_of 2 _) (length-bytes_of 2 _) (length-bytes_of 2 0)

-- the count by two fills: each changes it by its own amount, and bit 31 stays
module _ (n : ℕ) where
  recount_two : (a b v a' b' v' : ℕ) → b - a ≤ n % 2147483648 → n % 2147483648 + v < 2147483648
      → recounted a' b' v' (recounted a b v n) ≡ n / 2147483648 * 2147483648 + (n % 2147483648 + v - (b - a) + v' - (b' - a'))
  unfolding recounted
  recount_two a b v a' b' v' h k = go (n % 2147483648 + v - (b - a)) (omega arith)
    where
      go : (m : ℕ) → m < 2147483648
          → (n / 2147483648 * 2147483648 + m) / 2147483648 * 2147483648 + ((n / 2147483648 * 2147483648 + m) % 2147483648 + v' - (b' - a'))
          ≡ n / 2147483648 * 2147483648 + (m + v' - (b' - a'))
      go m l =
          let q : (n / 2147483648 * 2147483648 + m) / 2147483648 ≡ n / 2147483648 = omega arith in
          let r : (n / 2147483648 * 2147483648 + m) % 2147483648 ≡ m = omega arith in
          rw (q, r)

  pub recount_fits : (a b v : ℕ) → n < 4294967296 → n % 2147483648 + v < 2147483648 → recounted a b v n < 4294967296
  unfolding recounted
  recount_fits a b v h k = omega arith

-- ---- the shapes that a fill packs are read back

abbrev Ids : List Entry → Type 0
Ids [] = Unit {0}
Ids (e ∷ l) = (e.shape < 4294967296) × Ids l

ids : (l : List Entry) → Small l → Ids l
ids [] s = tt
ids (e ∷ l) s = (s.1, ids l s.2)

ids_after : (a b v : ℕ) (l : List Entry) → Ids l → Ids (shapes_after a b v l)
unfolding shapes_after start_at
ids_after a b v [] i = tt
ids_after a b v (e ∷ l) i =
    either (inside a b e.start && any_inside a b l) (shapes_after a b v l) (start_at (moved a b v e.start) e ∷ shapes_after a b v l)
    (ids_after a b v l i.1) (i.0, ids_after a b v l i.1)
  where
    either : (t : Bool) (x y : List Entry) → Ids x → Ids y → Ids (cond t x y)
    either true x y p q = p
    either false x y p q = q

small : (low high n : ℕ) (l : List Entry) → StartsFrom low high n l → Ids l → high ≤ 4294967296 → n ≤ 4294967296 → Small l
small low high n [] s i h k = tt
small low high n (e ∷ l) s i h k = (omega (arith, s.1), i.0, small (e.start + 1) n n l s.2 i.1 k k)

module _ (a b v n : ℕ) (z : 0 < a) (h : a ≤ b) (k : b < n) (m : n + v < 4294967296) where
  pub small_after : (l : List Entry) → StartsFrom 0 1 n l → Small l → Small (shapes_after a b v l)
  small_after l s i = small 0 1 (n + v - (b - a)) (shapes_after a b v l) (after_starts a b v n z h k l s) (ids_after a b v l (ids l i)) (omega arith) (omega arith)

  pub read_after : (l : List Entry) → StartsFrom 0 1 n l → Small l → shapes_in (packed (shapes_after a b v l)) ≡ shapes_after a b v l
  read_after l s i = shapes-packed (shapes_after a b v l) (small_after l s i)

-- ---- what is asked of a paragraph's children where its count is n: the text has n units, the starts keep their rule

pub record Fine (n : ℕ) (r : Rec) : Type 0 where
  pub text : r.tag ≡ 67 → length r.body ≡ 2 * n
  pub starts : r.tag ≡ 68 → StartsFrom 0 1 n (shapes_in r.body)
  pub bytes : r.tag ≡ 68 → Bytes r.body

abbrev pub AllFine : ℕ → List Rec → Type 0
AllFine n [] = Unit {0}
AllFine n (r ∷ k) = Fine n r × AllFine n k

child-put : (t : ℕ) (o : Option (List ℕ)) (r : Rec) (x : List Rec) → (r.tag ≡ t → ⊥) → child t (put o r x) ≡ child t x
unfolding child put with_body
child-put t None r x h = refl
child-put t (Some b) r x h = rw (ne_eqb r.tag t h)

child_new : (t : ℕ) (r : Rec) (b : List ℕ) (x : List Rec) → r.tag ≡ t → child t (with_body b r ∷ x) ≡ Some b
unfolding child with_body
child_new t r b x h = rw (eq-eqb r.tag t h)

-- the child with a tag after a change that gives each such child the new body g
abbrev pub mapped : (List ℕ → List ℕ) → Option (List ℕ) → Option (List ℕ)
mapped g None = None
mapped g (Some b) = Some (g b)

module _ (t : ℕ) (f : Change) where
  pub child-changed : (g : List ℕ → List ℕ) → ((c : OwnedChild) → c.tag ≡ t → f c ≡ Some (g c.body)) → (j : ℕ) (k : List Rec)
      → child t (changed j f k) ≡ mapped g (child t k)
  unfolding changed put
  child-changed g e j [] = unfold child in refl
  child-changed g e j (r ∷ k) = elim (eq_or r.tag t) [
    | inl h ↦ rw (e (as_child j r) h, child_here t r k h) (child_new t r (g r.body) _ h)
    | inr h ↦ child-put t (f (as_child j r)) r (changed (count_control r.tag j) f k) h
        ∙ child-changed g e (count_control r.tag j) k ∙ ap (mapped g) (sym (child_other t r k h))
  ]

  pub child_gone : ((c : OwnedChild) → c.tag ≡ t → f c ≡ None) → (j : ℕ) (k : List Rec) → child t (changed j f k) ≡ None
  unfolding changed put
  child_gone e j [] = unfold child in refl
  child_gone e j (r ∷ k) = elim (eq_or r.tag t) [
    | inl h ↦ rw (e (as_child j r) h) (child_gone e (count_control r.tag j) k)
    | inr h ↦ child-put t (f (as_child j r)) r (changed (count_control r.tag j) f k) h ∙ child_gone e (count_control r.tag j) k
  ]

-- what holds of each child holds of the one that is found
pub fine_child : (n : ℕ) (k : List Rec) (b : List ℕ) → AllFine n k → child 68 k ≡ Some b → StartsFrom 0 1 n (shapes_in b) × Bytes b
fine_child n [] b a e = unfold child in absurd (let z : ◌≡◌ {A = ℕ} 0 1 = cc in omega arith)
fine_child n (r ∷ k) b a e = elim (eq_or r.tag 68) [
  | inl h ↦
      (let q : r.body ≡ b = (let x = child_here 68 r k h in cc) in
      rw (← q) (a.0.starts h, a.0.bytes h))
  | inr h ↦ fine_child n k b a.1 (sym (child_other 68 r k h) ∙ e)
]

pub fine_text : (n : ℕ) (k : List Rec) (b : List ℕ) → AllFine n k → child 67 k ≡ Some b → length b ≡ 2 * n
fine_text n [] b a e = unfold child in absurd (let z : ◌≡◌ {A = ℕ} 0 1 = cc in omega arith)
fine_text n (r ∷ k) b a e = elim (eq_or r.tag 67) [
  | inl h ↦ (let q : r.body ≡ b = (let x = child_here 67 r k h in cc) in rw (← q) (a.0.text h))
  | inr h ↦ fine_text n k b a.1 (sym (child_other 67 r k h) ∙ e)
]

-- ---- the fill of a field of a paragraph

module _ (f : Field) (w : List ℕ) where
  pub text-filled : (j : ℕ) (k : List Rec) → child 67 (changed j (new_body f w) k) ≡ mapped (replaced (2 * f.a) (2 * f.b) w) (child 67 k)
  text-filled = child-changed 67 (new_body f w) (replaced (2 * f.a) (2 * f.b) w) (λ c e. body_text f w c.before c.tag c.body e)

  pub shapes-filled : (j : ℕ) (k : List Rec)
      → child 68 (changed j (new_body f w) k) ≡ mapped (λ b. packed (shapes_after f.a f.b (unit_count w) (shapes_in b))) (child 68 k)
  shapes-filled = child-changed 68 (new_body f w) (λ b. packed (shapes_after f.a f.b (unit_count w) (shapes_in b))) (λ c e. body_shapes f w c.before c.tag c.body e)

  pub layout-filled : (j : ℕ) (k : List Rec) → child 69 (changed j (new_body f w) k) ≡ None
  layout-filled = child_gone 69 (new_body f w) (λ c e. body_layout f w c.before c.tag c.body e)

  pub marks-filled : (j : ℕ) (k : List Rec) → child 70 (changed j (new_body f w) k) ≡ mapped (λ b. b) (child 70 k)
  marks-filled = child-changed 70 (new_body f w) (λ b. b)
      (λ c e. body_other f w c.before c.tag c.body (λ z. omega arith) (λ z. omega arith) (λ z. omega arith) (λ z. omega arith))

-- the entries after a fill, as they are read from the children
pub entries-filled : (f : Field) (w : List ℕ) (n : ℕ) (j : ℕ) (k : List Rec) → 0 < f.a → f.a ≤ f.b → f.b < n → n + unit_count w < 4294967296
    → AllFine n k
    → shapes_of (child 68 (changed j (new_body f w) k)) ≡ shapes_after f.a f.b (unit_count w) (shapes_of (child 68 k))
unfolding shapes_of
entries-filled f w n j k z h l m a = ap shapes_of (shapes-filled f w j k) ∙ go (child 68 k) refl
  where
    go : (o : Option (List ℕ)) → child 68 k ≡ o
        → shapes_of (mapped (λ b. packed (shapes_after f.a f.b (unit_count w) (shapes_in b))) o) ≡ shapes_after f.a f.b (unit_count w) (shapes_of o)
    go None e = unfold shapes_after in refl
    go (Some b) e =
        let q = fine_child n k b a e in
        read_after f.a f.b (unit_count w) n z h l m (shapes_in b) q.0 (shapes_small b q.1)

-- ---- two fields of one paragraph, the second behind the first

-- where the second field stands after a fill of the first with v units
unfoldable pub pushed : Field → ℕ → Field → Field
pushed f v g = record { ordinal = g.ordinal; a = g.a + v - (f.b - f.a); b = g.b + v - (f.b - f.a); plain = g.plain }

marks : (p q : Bool) (b : List ℕ)
    → cond q (altered (cond p (altered b) b)) (cond p (altered b) b) ≡ cond p (altered (cond q (altered b) b)) (cond q (altered b) b)
marks true true b = refl
marks true false b = refl
marks false true b = refl
marks false false b = refl

-- what holds of two fields and their values, f before g in a paragraph whose count is n
pub record Pair (f g : Field) (w u : List ℕ) (n : ℕ) : Type 0 where
  pub positive : 0 < f.a
  pub first : f.a ≤ f.b
  pub apart : f.b < g.a
  pub second : g.a ≤ g.b
  pub within : g.b < n
  pub even : length w ≡ 2 * unit_count w
  pub small : n + unit_count w + unit_count u < 2147483648

module _ (f g : Field) (w u : List ℕ) (n : ℕ) (p : Pair f g w u n) where
  text_comm : (b : List ℕ) → 2 * n ≤ length b
      → replaced (2 * (g.a + unit_count w - (f.b - f.a))) (2 * (g.b + unit_count w - (f.b - f.a))) u (replaced (2 * f.a) (2 * f.b) w b)
      ≡ replaced (2 * f.a) (2 * f.b) w (replaced (2 * g.a) (2 * g.b) u b)
  text_comm b k =
      let e₁ : 2 * (g.a + unit_count w - (f.b - f.a)) ≡ 2 * g.a + length w + 2 * f.a - 2 * f.b = omega (arith, p.even, p.first, p.apart) in
      let e₂ : 2 * (g.b + unit_count w - (f.b - f.a)) ≡ 2 * g.b + length w + 2 * f.a - 2 * f.b = omega (arith, p.even, p.first, p.apart, p.second) in
      rw (e₁, e₂) (replaced_comm (2 * f.a) (2 * f.b) (2 * g.a) (2 * g.b) w u b (omega (arith, p.first)) (omega (arith, p.apart)) (omega (arith, p.second)) (omega (arith, p.within)))

  starts_comm : (l : List Entry) → StartsFrom 0 1 n l
      → shapes_after (g.a + unit_count w - (f.b - f.a)) (g.b + unit_count w - (f.b - f.a)) (unit_count u) (shapes_after f.a f.b (unit_count w) l)
      ≡ shapes_after f.a f.b (unit_count w) (shapes_after g.a g.b (unit_count u) l)
  starts_comm l s = after_comm f.a f.b (unit_count w) g.a g.b (unit_count u) n l p.positive p.first p.apart p.second p.within s

  shapes_comm : (b : List ℕ) → StartsFrom 0 1 n (shapes_in b) → Bytes b
      → packed (shapes_after (g.a + unit_count w - (f.b - f.a)) (g.b + unit_count w - (f.b - f.a)) (unit_count u) (shapes_in (packed (shapes_after f.a f.b (unit_count w) (shapes_in b)))))
      ≡ packed (shapes_after f.a f.b (unit_count w) (shapes_in (packed (shapes_after g.a g.b (unit_count u) (shapes_in b)))))
  shapes_comm b s i =
      rw (
        read_after f.a f.b (unit_count w) n p.positive p.first (omega (arith, p.apart, p.second, p.within)) (omega (arith, p.small)) (shapes_in b) s (shapes_small b i),
        read_after g.a g.b (unit_count u) n (omega (arith, p.apart)) p.second p.within (omega (arith, p.small)) (shapes_in b) s (shapes_small b i),
        starts_comm (shapes_in b) s,
      )

  child_comm : (j : ℕ) (r : Rec) → Fine n r
      → then_change (new_body f w) (new_body (pushed f (unit_count w) g) u) (as_child j r) ≡ then_change (new_body g u) (new_body f w) (as_child j r)
  unfolding then_change then_body pushed
  child_comm j r z = elim (kind r.tag) [
    | text e ↦ rw (
      body_text f w j r.tag r.body e,
      body_text g u j r.tag r.body e,
      body_text f w j r.tag (replaced (2 * g.a) (2 * g.b) u r.body) e,
    )
        (body_text (pushed f (unit_count w) g) u j r.tag _ e ∙ ap Some (text_comm r.body (omega (arith, z.text e))))
    | shapes e ↦ rw (
      body_shapes f w j r.tag r.body e,
      body_shapes g u j r.tag r.body e,
      body_shapes f w j r.tag (packed (shapes_after g.a g.b (unit_count u) (shapes_in r.body))) e,
    )
        (body_shapes (pushed f (unit_count w) g) u j r.tag (packed (shapes_after f.a f.b (unit_count w) (shapes_in r.body))) e
        ∙ ap Some (shapes_comm r.body (z.starts e) (z.bytes e)))
    | layout e ↦ rw (body_layout f w j r.tag r.body e, body_layout g u j r.tag r.body e)
    | control e ↦ rw (
      body_control f w j r.tag r.body e,
      body_control g u j r.tag r.body e,
      body_control f w j r.tag (cond (eqb j g.ordinal) (altered r.body) r.body) e,
    )
        (body_control (pushed f (unit_count w) g) u j r.tag (cond (eqb j f.ordinal) (altered r.body) r.body) e
        ∙ ap Some (marks (eqb j f.ordinal) (eqb j g.ordinal) r.body))
    | other e₁ e₂ e₃ e₄ ↦ rw (body_other f w j r.tag r.body e₁ e₂ e₃ e₄, body_other g u j r.tag r.body e₁ e₂ e₃ e₄)
        (body_other (pushed f (unit_count w) g) u j r.tag r.body e₁ e₂ e₃ e₄ ∙ sym (body_other f w j r.tag r.body e₁ e₂ e₃ e₄))
  ]

  children_comm : (j : ℕ) (k : List Rec) → AllFine n k
      → Agree j (then_change (new_body f w) (new_body (pushed f (unit_count w) g) u)) (then_change (new_body g u) (new_body f w)) k
  children_comm j [] a = tt
  children_comm j (r ∷ k) a = (child_comm j r a.0, children_comm (count_control r.tag j) k a.1)

-- what is asked of a paragraph's view: all of it follows from acceptance. n is its count
pub record Good (n : ℕ) (v : View) : Type 0 where
  pub long : 18 ≤ length v.head
  pub word : little 4 v.head < 4294967296
  pub count : little 4 v.head % 2147483648 ≡ n
  pub fine : AllFine n v.own

-- the same with its count read from it, as any section gives that is accepted
abbrev pub count_of : View → ℕ
count_of v = little 4 v.head % 2147483648

pub record Ready (v : View) : Type 0 where
  pub long : 22 ≤ length v.head
  pub bytes : Bytes v.head
  pub small : count_of v + 2048 < 2147483648
  pub fine : AllFine (count_of v) v.own

pub good : (v : View) → Ready v → Good (count_of v) v
unfolding span
good v a = record { long = omega (arith, a.long); word = little_small 4 v.head a.bytes; count = refl; fine = a.fine }

starts_of_lem : (n : ℕ) (v : View) → Good n v → StartsFrom 0 1 n (shapes_of (child 68 v.own))
unfolding shapes_of
starts_of_lem n v q = go (child 68 v.own) refl
  where
    go : (o : Option (List ℕ)) → child 68 v.own ≡ o → StartsFrom 0 1 n (shapes_of o)
    go None e = tt
    go (Some b) e = (fine_child n v.own b q.fine e).0

-- the header after one fill, and the next one's
head_filled : (f : Field) (w : List ℕ) (v : View) → (filling f w).head v
    ≡ new_head f.a f.b (unit_count w) (length (shapes_after f.a f.b (unit_count w) (shapes_of (child 68 v.own)))) v.head
unfolding filling
head_filled f w v = refl

head_second : (f g : Field) (w u : List ℕ) (n : ℕ) (v : View) → 0 < f.a → f.a ≤ f.b → f.b < n → n + unit_count w < 2147483648 → Good n v
    → (filling g u).head (edit_view (filling f w) v)
    ≡ replaced 0 4 (bytes_of 4 (recounted g.a g.b (unit_count u) (recounted f.a f.b (unit_count w) (little 4 v.head))))
    (replaced 12 14 (bytes_of 2 (length (shapes_after g.a g.b (unit_count u) (shapes_after f.a f.b (unit_count w) (shapes_of (child 68 v.own))))))
    (replaced 16 18 (bytes_of 2 0) v.head))
unfolding filling edit_view
head_second f g w u n v z h k m q =
    rw (entries-filled f w n 0 v.own z h k (omega arith) q.fine)
    (head_again f.a f.b (unit_count w) _ g.a g.b (unit_count u) _ v.head q.long
    (recount_fits (little 4 v.head) f.a f.b (unit_count w) q.word (omega (arith, q.count))))

distance : (a b d : ℕ) → a ≤ b → d ≤ a → (b - d) - (a - d) ≡ b - a
distance a b d h k = omega arith

changes : (d d' v v' m : ℕ) → d + d' ≤ m → m + v - d + v' - d' ≡ m + v' - d' + v - d
changes d d' v v' m h = omega arith

sums : (a b a' b' v v' m : ℕ) → a ≤ b → b < a' → a' ≤ b' → b' ≤ m
    → m + v - (b - a) + v' - ((b' + v - (b - a)) - (a' + v - (b - a))) ≡ m + v' - (b' - a') + v - (b - a)
sums a b a' b' v v' m h₁ h h₂ k =
    let e : (b' + v - (b - a)) - (a' + v - (b - a)) ≡ b' - a' = distance (a' + v) (b' + v) (b - a) (omega arith) (omega arith) ∙ omega arith in
    rw e (changes (b - a) (b' - a') v v' m (omega arith))

module _ (f g : Field) (w u : List ℕ) (n : ℕ) (p : Pair f g w u n) where
  recount_comm : (x : ℕ) → x % 2147483648 ≡ n
      → recounted (g.a + unit_count w - (f.b - f.a)) (g.b + unit_count w - (f.b - f.a)) (unit_count u) (recounted f.a f.b (unit_count w) x)
      ≡ recounted f.a f.b (unit_count w) (recounted g.a g.b (unit_count u) x)
  recount_comm x e =
      recount_two x f.a f.b (unit_count w) (g.a + unit_count w - (f.b - f.a)) (g.b + unit_count w - (f.b - f.a)) (unit_count u)
      (omega (arith, p.apart, p.second, p.within)) (omega (arith, p.small))
      ∙ ap (λ (m : ℕ). x / 2147483648 * 2147483648 + m) (sums f.a f.b g.a g.b (unit_count w) (unit_count u) (x % 2147483648) p.first p.apart p.second (omega (arith, p.within)))
      ∙ sym (recount_two x g.a g.b (unit_count u) f.a f.b (unit_count w) (omega (arith, p.within)) (omega (arith, p.small)))

  head_comm : (v : View) → Good n v
      → (filling (pushed f (unit_count w) g) u).head (edit_view (filling f w) v) ≡ (filling f w).head (edit_view (filling g u) v)
  unfolding pushed
  head_comm v q =
      rw (
        head_second f (pushed f (unit_count w) g) w u n v p.positive p.first (omega (arith, p.apart, p.second, p.within)) (omega (arith, p.small)) q,
        head_second g f u w n v (omega (arith, p.apart)) p.second p.within (omega (arith, p.small)) q,
        starts_comm f g w u n p (shapes_of (child 68 v.own)) (starts_of_lem n v q),
        recount_comm (little 4 v.head) q.count,
      )

  agree : (o : Option View) → ((v : View) → o ≡ Some v → Good n v)
      → AgreeAt (then_edit (filling f w) (filling (pushed f (unit_count w) g) u)) (then_edit (filling g u) (filling f w)) o
  unfolding then_edit
  agree None q = tt
  agree (Some v) q = (head_comm v (q v refl), unfold filling in (children_comm f g w u n p 0 v.own (q v refl).fine))

  -- two fields of one paragraph: in either order the same records
  pub one_paragraph : (i : ℕ) (rs : List Rec) → ((v : View) → slice_get (views rs) i ≡ Some v → Good n v)
      → edit_at i (filling (pushed f (unit_count w) g) u) (edit_at i (filling f w) rs) ≡ edit_at i (filling f w) (edit_at i (filling g u) rs)
  one_paragraph i rs q =
      at_after (filling f w) (filling (pushed f (unit_count w) g) u) (takes-filling f w) i rs
      ∙ at_cong i (then_edit (filling f w) (filling (pushed f (unit_count w) g) u)) (then_edit (filling g u) (filling f w)) rs (agree (slice_get (views rs) i) q)
      ∙ sym (at_after (filling g u) (filling f w) (takes-filling g u) i rs)

-- ---- what a fill leaves of the header

-- the number of marks at 14
pub marks-kept : (a b v k : ℕ) (h : List ℕ) → 18 ≤ length h → little 2 (drop 14 (new_head a b v k h)) ≡ little 2 (drop 14 h)
unfolding new_head
marks-kept a b v k h n =
    ap (little 2) (over_drop 0 4 10 (bytes_of 4 (recounted a b v (little 4 h))) (replaced 12 14 (bytes_of 2 k) (replaced 16 18 (bytes_of 2 0) h)) (length-bytes_of 4 _) (omega arith)
    ∙ over_drop 12 14 0 (bytes_of 2 k) (replaced 16 18 (bytes_of 2 0) h) (length-bytes_of 2 k) (omega arith))
    ∙ little-same 2 (drop 14 (replaced 16 18 (bytes_of 2 0) h)) (drop 14 h) (over_before 16 18 14 2 (bytes_of 2 0) h (omega arith) (omega arith))
