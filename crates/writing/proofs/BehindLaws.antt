-- The records behind a paragraph header, put one by one. Assumes nothing.
use Prim.Native.Nat.{ℕ, suc, ◌+◌, ◌≤◌, ◌<◌}
use native.Mathlib.Omega.{arith}
use native.Mathlib.Numerals.{add-one}
use mathlib.Core.Path.{◌≡◌, refl, sym, ap, ap₂, ◌∙◌}
use mathlib.Core.Bool.{Bool, true, false, cond}
use mathlib.Core.List.{List, [], ◌∷◌, ◌++◌}
use lib.Dec.{eqb}
use borrow.Author.Tests.{lt-ltb, le-ltb, eq-eqb, ne_eqb}
use lib.ListN.{drop}
use Rattle.records.specs.Kinds as kind
use Rattle.records.specs.Records.{Rec, encode_one, size}
use Rattle.records.specs.declared.header.Record.{Record}
use Rattle.paragraph.specs.View.{side}
use Rattle.paragraph.specs.Stream.{records_in}
use Rattle.paragraph.specs.Places.{body_of}
use Rattle.paragraph.specs.declared.view.Side.{Side}
use Rattle.paragraph.specs.declared.view.Side.TheVariants as S
use Rattle.paragraph.proofs.StreamLaws.{Read}
use Rattle.filling.specs.Fields.{Field}
use Rattle.filling.specs.Editing.{count_control}
use Rattle.putting.specs.Sheet.{Put}
use Rattle.putting.specs.declared.put.Sheet.{Sheet}
use Rattle.changing.specs.Child.{record_read, child_bytes}
use Rattle.writing.specs.Sheet.{below_bytes, controls_passed, behind_bytes}
use Rattle.putting.proofs.PuttingLaws.{put_as, Left, left_next}

-- ---- one record

module _ (f : Field) (value : List ℕ) (n j : ℕ) (r : Rec) {t : Side} (e : t ≡ side n r.tag r.level) where
  pub below_owned : t ≡ S.Owned → child_bytes f value j r ≡ below_bytes f value n j r
  unfolding below_bytes
  below_owned q = rw (sym e ∙ q, below_bytes)

  pub below_beyond : t ≡ S.Beyond → encode_one r ≡ below_bytes f value n j r
  unfolding below_bytes
  below_beyond q = rw (sym e ∙ q, below_bytes)

  pub below_passed : t ≡ S.Passed → encode_one r ≡ below_bytes f value n j r
  unfolding below_bytes
  below_passed q = rw (sym e ∙ q, below_bytes)

module _ (n j tag level : ℕ) {t : Side} (e : t ≡ side n tag level) where
  pub passed_control : t ≡ S.Owned → tag ≡ kind.control_header → j + 1 ≡ controls_passed n j tag level
  unfolding controls_passed count_control
  passed_control q g = rw (sym e ∙ q, controls_passed, eq-eqb tag kind.control_header g, count_control) (add-one j)

  pub passed_same : (t ≡ S.Owned → tag ≡ kind.control_header → ⊥) → j ≡ controls_passed n j tag level
  unfolding controls_passed count_control
  passed_same q = by (side n tag level) (λ g h. q (e ∙ g) h)
    where
      by : (u : Side) → (u ≡ S.Owned → tag ≡ kind.control_header → ⊥) → j ≡ (elim u [ S.Beyond ↦ j | S.Owned ↦ count_control tag j | S.Passed ↦ j ])
      by S.Beyond h = refl
      by S.Owned h = rw (ne_eqb tag kind.control_header (h refl))
      by S.Passed h = refl

passed_most : (n j tag level : ℕ) → controls_passed n j tag level ≤ j + 1
unfolding controls_passed count_control
passed_most n j tag level = by (side n tag level) (eqb tag kind.control_header)
  where
    by : (t : Side) (q : Bool) → (elim t [ S.Beyond ↦ j | S.Owned ↦ cond q (suc j) j | S.Passed ↦ j ]) ≤ j + 1
    by S.Beyond q = omega arith
    by S.Owned true = omega arith
    by S.Owned false = omega arith
    by S.Passed q = omega arith

-- ---- the clauses

module _ (f : Field) (value : List ℕ) (n j : ℕ) (s : List ℕ) (at : ℕ) where
  pub behind_none : (rs : List Rec) → rs ≡ [] → behind_bytes f value n j s at rs ≡ drop at s
  unfolding behind_bytes
  behind_none rs e = rw e

  pub behind_beyond : (r : Rec) (rs : List Rec) → r.level < n → behind_bytes f value n j s at (r ∷ rs) ≡ drop at s
  unfolding behind_bytes
  behind_beyond r rs h = rw (lt-ltb r.level n h)

  pub behind-next : (r : Rec) (rs : List Rec) → n ≤ r.level
      → behind_bytes f value n j s at (r ∷ rs) ≡ below_bytes f value n j r ++ behind_bytes f value n (controls_passed n j r.tag r.level) s (at + size r) rs
  unfolding behind_bytes
  behind-next r rs h = rw (le-ltb r.level n h)

-- the record that was read, with its own body
pub rec_is : {s : List ℕ} {place : ℕ} {r : Record} (d : Read s place r) {x : Rec} → x ≡ record_read s r → x ≡ d.rec
rec_is {s} {place} {r} d e =
    e ∙ ap₂ (λ (x y : ℕ). record { tag = x; level = y; body = body_of s r }) d.tag_is d.level_is
    ∙ ap (λ (l : List ℕ). record { tag = d.rec.tag; level = d.rec.level; body = l }) d.body_is

-- ---- the loop: what is put from `from` on is what is put from `place` on, behind nth control headers

pub record Behind (p : Sheet) (f : Field) (value : List ℕ) (n : ℕ) (s : List ℕ) (from place nth : ℕ) (t : Sheet) : Type 0 where
  pub small : nth ≤ place
  pub left : Left p (behind_bytes f value n 0 s from (records_in (drop from s))) (behind_bytes f value n nth s place (records_in (drop place s))) t

module _ {p t : Sheet} {value s : List ℕ} {n from place nth : ℕ} {f : Field} (k : Behind p f value n s from place nth t) where
  module _ {u : Sheet} where
    pub behind_stop : records_in (drop place s) ≡ [] → Put t (drop place s) u → Put p (behind_bytes f value n 0 s from (records_in (drop from s))) u
    behind_stop e w = k.left.onward u (put_as (sym (behind_none f value n nth s place (records_in (drop place s)) e)) w)

    module _ {r : Record} (d : Read s place r) where
      pub behind_over : r.level < n → Put t (drop place s) u → Put p (behind_bytes f value n 0 s from (records_in (drop from s))) u
      behind_over l w =
          k.left.onward u
          (put_as (sym (ap (behind_bytes f value n nth s place) d.records ∙ behind_beyond f value n nth s place d.rec _ (rw (← d.level_is) l))) w)

      pub behind_go : {x : Rec} {m : ℕ} → n ≤ r.level → x ≡ record_read s r → Put t (below_bytes f value n nth x) u → m ≡ controls_passed n nth r.tag r.level
          → Behind p f value n s from r.next.0 m u
      behind_go {x} {m} l e w g =
          let g' : m ≡ controls_passed n nth d.rec.tag d.rec.level = g ∙ ap₂ (controls_passed n nth) d.tag_is d.level_is in
          record {
            small = omega (arith, passed_most n nth r.tag r.level, d.next-is, d.least, k.small);
            left =
                left_next k.left
                (ap (behind_bytes f value n nth s place) d.records
                ∙ behind-next f value n nth s place d.rec _ (rw (← d.level_is) l)
                ∙ ap₂ (λ (x y : ℕ). below_bytes f value n nth d.rec ++ behind_bytes f value n x s y (records_in (drop r.next.0 s))) (sym g') (sym d.next-is))
                (put_as (ap (below_bytes f value n nth) (rec_is d e)) w);
          }
