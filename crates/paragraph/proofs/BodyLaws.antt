-- The children that a search finds are those of the view, and their bytes are the bodies. Assumes nothing.
use Rattle.std.specs.Prelude.{None, Some}
use Prim.Native.Nat.{ℕ, ◌+◌, ◌≤◌}
use native.Mathlib.Omega.{arith}
use mathlib.Core.Path.{◌≡◌, refl, sym, ap, ◌∙◌}
use mathlib.Core.Bool.{Bool, true, false}
use mathlib.Core.List.{List, [], ◌∷◌}
use lib.Dec.{eqb}
use lib.ListN.{length, drop, length-drop}
use lib.Seq.{length-take-le}
use borrow.Author.Tests.{eqb-true, eqb-false, eq-eqb, ne_eqb}
use Rattle.numbers.specs.Little.{Bytes}
use Rattle.records.specs.Records.{Rec, size}
use Rattle.records.specs.Reading.{record_at}
use Rattle.records.specs.declared.header.Record.{Record}
use Rattle.paragraph.specs.View.{side, keep, kids, child, controls}
use Rattle.paragraph.specs.Stream.{records_in}
use Rattle.paragraph.specs.Rules.{length_of}
use Rattle.paragraph.specs.Places.{sought, found_in, length_found, body_of, body_found, Inside, Found}
use Rattle.paragraph.specs.declared.view.Side.{Side}
use Rattle.paragraph.specs.declared.view.Side.TheVariants as S
use Rattle.paragraph.proofs.StreamLaws.{Stood, stood_of}
use Rattle.paragraph.proofs.FindLaws.{sought_beyond, sought_passed, sought_owned, sought_other, found_beyond, found_passed, found_here}

-- ---- how a record stands to a search, by how it stands to the parent

pub data Ways (n tag : ℕ) (r : Rec) : Type 0 where
  beyond : sought n tag r.tag r.level ≡ S.Beyond → side n r.tag r.level ≡ S.Beyond → Ways n tag r
  owned : sought n tag r.tag r.level ≡ S.Owned → side n r.tag r.level ≡ S.Owned → r.tag ≡ tag → Ways n tag r
  other : sought n tag r.tag r.level ≡ S.Passed → side n r.tag r.level ≡ S.Owned → (r.tag ≡ tag → ⊥) → Ways n tag r
  passed : sought n tag r.tag r.level ≡ S.Passed → side n r.tag r.level ≡ S.Passed → Ways n tag r

pub ways : (n tag : ℕ) (r : Rec) → Ways n tag r
ways n tag r = by (side n r.tag r.level) refl
  where
    own : (b : Bool) → eqb r.tag tag ≡ b → side n r.tag r.level ≡ S.Owned → Ways n tag r
    own true e q = let h = eqb-true r.tag tag e in owned (sought_owned n tag r.tag r.level q h) q h
    own false e q = let h = eqb-false r.tag tag e in other (sought_other n tag r.tag r.level q h) q h

    by : (x : Side) → side n r.tag r.level ≡ x → Ways n tag r
    by S.Beyond e = beyond (sought_beyond n tag r.tag r.level e) e
    by S.Owned e = own (eqb r.tag tag) refl e
    by S.Passed e = passed (sought_passed n tag r.tag r.level e) e

-- ---- the clauses of the view

module _ (n : ℕ) (r : Rec) (rs : List Rec) where
  pub kids_beyond : side n r.tag r.level ≡ S.Beyond → kids n (r ∷ rs) ≡ []
  unfolding kids keep
  kids_beyond e = rw (e, keep)

  pub kids_owned : side n r.tag r.level ≡ S.Owned → kids n (r ∷ rs) ≡ r ∷ kids n rs
  unfolding kids keep
  kids_owned e = rw (e, keep)

  pub kids_passed : side n r.tag r.level ≡ S.Passed → kids n (r ∷ rs) ≡ kids n rs
  unfolding kids keep
  kids_passed e = rw (e, keep)

module _ (tag : ℕ) (r : Rec) (k : List Rec) where
  pub child_here : r.tag ≡ tag → child tag (r ∷ k) ≡ Some r.body
  unfolding child
  child_here e = rw (eq-eqb r.tag tag e)

  pub child_other : (r.tag ≡ tag → ⊥) → child tag (r ∷ k) ≡ child tag k
  unfolding child
  child_other e = rw (ne_eqb r.tag tag e)

module _ (r : Rec) (k : List Rec) where
  pub controls_here : r.tag ≡ 71 → controls (r ∷ k) ≡ r.body ∷ controls k
  unfolding controls
  controls_here e = rw (eq-eqb r.tag 71 e)

  pub controls_other : (r.tag ≡ 71 → ⊥) → controls (r ∷ k) ≡ controls k
  unfolding controls
  controls_other e = rw (ne_eqb r.tag 71 e)

-- ---- what a search for the first child with a tag finds

-- p is the record with the tag, and its bytes are the body
record Met (s : List ℕ) (n tag at : ℕ) (p : Record) : Type 0 where
  body_end : p.body.0 + p.len ≡ p.next.0
  inside : p.next.0 ≤ length s
  child-is : child tag (kids n (records_in (drop at s))) ≡ Some (body_of s p)

abbrev MetIf : List ℕ → ℕ → ℕ → ℕ → Found → Type 0
MetIf s n tag at (Some p) = Met s n tag at p
MetIf s n tag at None = child tag (kids n (records_in (drop at s))) ≡ None

module _ (s : List ℕ) (bs : Bytes s) (n tag : ℕ) where
  -- where the child from `at` on is that from `to` on
  same_if : (at to : ℕ) → child tag (kids n (records_in (drop at s))) ≡ child tag (kids n (records_in (drop to s)))
      → (f : Found) → MetIf s n tag to f → MetIf s n tag at f
  same_if at to e (Some p) k = record { body_end = k.body_end; inside = k.inside; child-is = e ∙ k.child-is }
  same_if at to e None k = e ∙ k

  met_here : (at : ℕ) (r : Rec) → Stood s at r → side n r.tag r.level ≡ S.Owned → r.tag ≡ tag → Met s n tag at (record_at at r)
  unfolding size
  met_here at r d o t =
      record {
        body_end = omega arith;
        inside = d.inside;
        child-is =
            ap (child tag) (ap (kids n) d.records ∙ kids_owned n r (records_in (drop (at + size r) s)) o)
            ∙ child_here tag r (kids n (records_in (drop (at + size r) s))) t ∙ ap Some (sym d.body_is);
      }

  met_by_lem : (rs : List Rec) (at : ℕ) → records_in (drop at s) ≡ rs → MetIf s n tag at (found_in n tag 0 at rs)
  unfolding found_in kids child
  met_by_lem [] at e = rw e
  met_by_lem (r ∷ rs) at e = go (ways n tag r) (stood_of s at bs r rs e).0 (met_by_lem rs (at + size r) (stood_of s at bs r rs e).1)
    where
      go : Ways n tag r → Stood s at r → MetIf s n tag (at + size r) (found_in n tag 0 (at + size r) rs) → MetIf s n tag at (found_in n tag 0 at (r ∷ rs))
      go (beyond w o) d rest = rw (found_beyond n tag at r rs 0 w) (ap (λ (l : List Rec). child tag l) (ap (kids n) e ∙ kids_beyond n r rs o))
      go (owned w o t) d rest = rw (found_here n tag at r rs w) (met_here at r d o t)
      go (other w o t) d rest =
          rw (found_passed n tag at r rs 0 w)
          (same_if at (at + size r)
          (ap (child tag) (ap (kids n) d.records ∙ kids_owned n r (records_in (drop (at + size r) s)) o)
          ∙ child_other tag r (kids n (records_in (drop (at + size r) s))) t) (found_in n tag 0 (at + size r) rs) rest)
      go (passed w o) d rest =
          rw (found_passed n tag at r rs 0 w)
          (same_if at (at + size r)
          (ap (child tag) (ap (kids n) d.records ∙ kids_passed n r (records_in (drop (at + size r) s)) o)) (found_in n tag 0 (at + size r) rs) rest)

  -- the child of the view is the body that was found
  child_if : (at : ℕ) (f : Found) → MetIf s n tag at f → body_found s f ≡ child tag (kids n (records_in (drop at s)))
  child_if at (Some p) k = sym k.child-is
  child_if at None k = sym k

  pub child_found : (at : ℕ) → body_found s (found_in n tag 0 at (records_in (drop at s))) ≡ child tag (kids n (records_in (drop at s)))
  child_found at = child_if at (found_in n tag 0 at (records_in (drop at s))) (met_by_lem (records_in (drop at s)) at refl)

  inside_if : (at : ℕ) (f : Found) → MetIf s n tag at f → Inside s f
  inside_if at (Some p) k = omega (arith, k.body_end, k.inside)
  inside_if at None k = tt

  pub found_inside : (at : ℕ) → Inside s (found_in n tag 0 at (records_in (drop at s)))
  found_inside at = inside_if at (found_in n tag 0 at (records_in (drop at s))) (met_by_lem (records_in (drop at s)) at refl)

  length_if : (at : ℕ) (f : Found) → MetIf s n tag at f → length_found f ≡ length_of (child tag (kids n (records_in (drop at s))))
  length_if at (Some p) k =
      ap Some (sym (length-take-le p.len (drop p.body.0 s) (omega (arith, length-drop p.body.0 s, k.body_end, k.inside))))
      ∙ ap length_of (sym k.child-is)
  length_if at None k = ap length_of (sym k)

  pub length_found_lem : (at : ℕ) → length_found (found_in n tag 0 at (records_in (drop at s))) ≡ length_of (child tag (kids n (records_in (drop at s))))
  length_found_lem at = length_if at (found_in n tag 0 at (records_in (drop at s))) (met_by_lem (records_in (drop at s)) at refl)
