-- What becomes of a child, by its kind: the pieces that are put make its bytes. Assumes nothing.
use Prim.Native.Nat.{ℕ, ◌+◌, ◌-◌, ◌*◌, ◌/◌, ◌≤◌, min}
use native.Mathlib.Omega.{arith}
use mathlib.Core.Path.{◌≡◌, sym, ap, ap₂, ◌∙◌}
use mathlib.Core.List.{List, ◌++◌}
use mathlib.Core.Logic.{inl, inr}
use Rattle.text.proofs.Cases.{lt_or, eq_or}
use borrow.Author.Tests.{eq-eqb, ne_eqb}
use lib.ListN.{length, take, drop, length-append, length-take, length-drop, drop_of_length-le}
use lib.Seq.{take_all, take-length, drop-length}
use Rattle.numbers.specs.Little.{little, bytes_of}
use Rattle.numbers.proofs.LittleLaws.{length-bytes_of}
use Rattle.records.specs.Kinds as kind
use Rattle.records.specs.Records.{header_of, encode_one}
use Rattle.records.specs.Reading.{offset}
use Rattle.records.specs.declared.fault.Offset.{Offset}
use Rattle.text.specs.declared.Position.{Position}
use Rattle.paragraph.specs.Places.{unit_place}
use Rattle.filling.specs.Replacing.{replaced}
use Rattle.filling.specs.Shapes.{packed, shapes_in, shapes_after}
use Rattle.filling.specs.Editing.{with_body}
use Rattle.filling.specs.Filling.{altered, with_bit15, new_body}
use Rattle.filling.proofs.PackingLaws.{length-packed}
use Rattle.filling.proofs.KeepLaws.{after_fewer, length-shapes}
use Rattle.changing.specs.declared.fill.Spot.{Spot}
use Rattle.changing.specs.declared.fill.Piece.{Piece}
use Rattle.putting.specs.Putting.{largest, Puts}
use Rattle.putting.specs.Sheet.{Put}
use Rattle.putting.specs.declared.put.Sheet.{Sheet}
use Rattle.changing.specs.Child.{field_at, record_of, record_with, changed_bytes, child_bytes}
use Rattle.putting.proofs.PuttingLaws.{put_as, put_then, put_none}

-- a header, and a body behind it
pub put_record : (tag level : ℕ) {s t u : Sheet} {body : List ℕ} {n : ℕ} → n ≡ length body → Put s (header_of tag level n) t → Put t body u
    → Put s (encode_one (record { tag = tag; level = level; body = body })) u
unfolding encode_one
put_record tag level e h t = put_then (put_as (ap (header_of tag level) e) h) t

-- ---- parts that may reach past the end

pub take_most : (k : ℕ) (l : List ℕ) → take (min k (length l)) l ≡ take k l
take_most k l = elim (lt_or (length l) k) [
  | inl h ↦ let e : min k (length l) ≡ length l = omega arith in rw e (take-length l ∙ sym (take_all k l (omega arith)))
  | inr h ↦ let e : min k (length l) ≡ k = omega arith in rw e
]

pub drop_most : (k : ℕ) (l : List ℕ) → drop (min k (length l)) l ≡ drop k l
drop_most k l = elim (lt_or (length l) k) [
  | inl h ↦
      let e : min k (length l) ≡ length l = omega arith in
      let g : length l ≤ k = omega arith in
      rw e (drop-length l ∙ sym (drop_of_length-le l g))
  | inr h ↦ let e : min k (length l) ≡ k = omega arith in rw e
]

-- ---- the text

-- a position as a place in the text's own bytes
pub byte_is : (position : Position) (n : ℕ) {place : Offset} {r : ℕ} → n ≤ largest → place ≡ unit_place (offset 0) position → r ≡ min place.0 n
    → r ≡ min (2 * position.0) n
byte_is position n {place} h e f = let g : place.0 ≡ min largest (0 + 2 * position.0) = ap (λ (o : Offset). o.0) e in f ∙ omega arith

module _ (a b : ℕ) (value body : List ℕ) {from to : ℕ} (e : from ≡ min (2 * a) (length body)) (f : to ≡ min (2 * b) (length body)) where
  pub text-length : from + length value + (length body - to) ≡ length (replaced (2 * a) (2 * b) value body)
  unfolding replaced
  text-length = simp (length-append, length-take, length-drop) (omega arith)

  pub text-bytes : take from (drop 0 body) ++ (value ++ drop to body) ≡ replaced (2 * a) (2 * b) value body
  unfolding replaced
  text-bytes =
      let x : take from body ≡ take (2 * a) body = rw e (take_most (2 * a) body) in
      let y : drop to body ≡ drop (2 * b) body = rw f (drop_most (2 * b) body) in
      ap₂ (λ (l r : List ℕ). l ++ (value ++ r)) x y

-- ---- the shapes

pub shapes-short : (a b v : ℕ) (body : List ℕ) → length (packed (shapes_after a b v (shapes_in body))) ≤ length body
shapes-short a b v body = omega (arith, length-packed (shapes_after a b v (shapes_in body)), after_fewer a b v (shapes_in body), length-shapes body)

pub shapes_measured : (a b v : ℕ) (body : List ℕ) {out after : List ℕ} {r : ℕ} → length body ≤ largest
    → Puts out 0 (packed (shapes_after a b v (shapes_in body))) r after → r ≡ length (packed (shapes_after a b v (shapes_in body)))
shapes_measured a b v body h k = omega (arith, k.next-is, shapes-short a b v body)

pub shapes-number : (a b v : ℕ) (body : List ℕ) → length (packed (shapes_after a b v (shapes_in body))) / 8 ≡ length (shapes_after a b v (shapes_in body))
shapes-number a b v body = omega (arith, length-packed (shapes_after a b v (shapes_in body)))

-- ---- the control header

module _ (body : List ℕ) {w m : ℕ} (e : w ≡ little 4 (take (length body) (drop 4 body))) (f : m ≡ with_bit15 w) where
  pub altered-bytes : take 4 (drop 0 body) ++ (take 4 (bytes_of 4 m) ++ drop 8 body) ≡ altered body
  unfolding altered replaced
  altered-bytes =
      let x : take (length body) (drop 4 body) ≡ drop 4 body = take_all (length body) (drop 4 body) (omega (arith, length-drop 4 body)) in
      let z : take 4 (bytes_of 4 m) ≡ bytes_of 4 (with_bit15 (little 4 (drop 4 body)))
      = take_all 4 (bytes_of 4 m) (omega (arith, length-bytes_of 4 m)) ∙ ap (bytes_of 4) (f ∙ ap with_bit15 (e ∙ ap (little 4) x)) in
      ap (λ (l : List ℕ). take 4 body ++ (l ++ drop 8 body)) z

pub altered-length : (body : List ℕ) {front rest : ℕ} → front ≡ min (length body) 4 → rest ≡ length body - 8 → front + 4 + rest ≡ length (altered body)
unfolding altered replaced
altered-length body e f = simp (length-append, length-take, length-drop, length-bytes_of) (omega arith)

-- ---- by kind

module _ (spot : Spot) (value : List ℕ) (j : ℕ) (p : Piece) where
  child_control : p.tag ≡ kind.control_header → (j ≡ spot.ordinal → ⊥) → encode_one (record_of p) ≡ child_bytes (field_at spot) value j (record_of p)
  unfolding child_bytes new_body changed_bytes with_body
  child_control e q = rw (ne_eqb p.tag kind.text (λ q. omega arith), ne_eqb p.tag kind.shapes (λ q. omega arith), ne_eqb p.tag kind.layout (λ q. omega arith), eq-eqb p.tag kind.control_header e, ne_eqb j spot.ordinal q)

  child_other : (p.tag ≡ kind.text → ⊥) → (p.tag ≡ kind.shapes → ⊥) → (p.tag ≡ kind.layout → ⊥) → (p.tag ≡ kind.control_header → ⊥)
      → encode_one (record_of p) ≡ child_bytes (field_at spot) value j (record_of p)
  unfolding child_bytes new_body changed_bytes with_body
  child_other k q u t = rw (ne_eqb p.tag kind.text k, ne_eqb p.tag kind.shapes q, ne_eqb p.tag kind.layout u, ne_eqb p.tag kind.control_header t)

module _ (spot : Spot) (value : List ℕ) (j : ℕ) (p : Piece) {s t : Sheet} where
  pub child_text : p.tag ≡ kind.text → Put s (encode_one (record_with p (replaced (2 * spot.a.0) (2 * spot.b.0) value p.body.bytes.now))) t
      → Put s (child_bytes (field_at spot) value j (record_of p)) t
  unfolding child_bytes new_body changed_bytes with_body
  child_text e k = rw (eq-eqb p.tag kind.text e) k

  pub child_shapes : p.tag ≡ kind.shapes
      → Put s (encode_one (record_with p (packed (shapes_after spot.a.0 spot.b.0 (length value / 2) (shapes_in p.body.bytes.now))))) t
      → Put s (child_bytes (field_at spot) value j (record_of p)) t
  unfolding child_bytes new_body changed_bytes with_body
  child_shapes e k = rw (ne_eqb p.tag kind.text (λ q. omega arith), eq-eqb p.tag kind.shapes e) k

  pub child_altered : p.tag ≡ kind.control_header → j ≡ spot.ordinal → Put s (encode_one (record_with p (altered p.body.bytes.now))) t
      → Put s (child_bytes (field_at spot) value j (record_of p)) t
  unfolding child_bytes new_body changed_bytes with_body
  child_altered e q k = rw (ne_eqb p.tag kind.text (λ q. omega arith), ne_eqb p.tag kind.shapes (λ q. omega arith), ne_eqb p.tag kind.layout (λ q. omega arith), eq-eqb p.tag kind.control_header e, eq-eqb j spot.ordinal q) k

  -- no other field's control header, and none of the kinds that change
  pub child_same : (p.tag ≡ kind.text → ⊥) → (p.tag ≡ kind.shapes → ⊥) → (p.tag ≡ kind.layout → ⊥) → (p.tag ≡ kind.control_header → j ≡ spot.ordinal → ⊥)
      → Put s (encode_one (record_of p)) t → Put s (child_bytes (field_at spot) value j (record_of p)) t
  child_same a b c d k = elim (eq_or p.tag kind.control_header) [
    | inl e ↦ put_as (child_control spot value j p e (d e)) k
    | inr n ↦ put_as (child_other spot value j p a b c n) k
  ]

module _ (spot : Spot) (value : List ℕ) (j : ℕ) (p : Piece) (s : Sheet) where
  pub child_layout : p.tag ≡ kind.layout → Put s (child_bytes (field_at spot) value j (record_of p)) s
  unfolding child_bytes new_body changed_bytes
  child_layout e =
      rw (ne_eqb p.tag kind.text (λ q. omega arith), ne_eqb p.tag kind.shapes (λ q. omega arith), eq-eqb p.tag kind.layout e) (put_none s)
