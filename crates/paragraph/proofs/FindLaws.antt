-- The search for a child: one law for each way that it goes on. Assumes nothing.
use Rattle.std.specs.Prelude.{None, Some}
use Prim.Native.Nat.{ℕ, suc, ◌+◌, ◌-◌}
use native.Mathlib.Omega.{arith}
use mathlib.Core.Path.{◌≡◌, sym, ap, ◌∙◌}
use mathlib.Core.List.{List, [], ◌∷◌}
use lib.Dec.{eqb}
use lib.ListN.{drop}
use borrow.Author.Tests.{eq-eqb, ne_eqb}
use Rattle.records.specs.Records.{Rec, size}
use Rattle.records.specs.Reading.{record_at}
use Rattle.records.specs.declared.header.Record.{Record}
use Rattle.paragraph.specs.View.{side, owned_if}
use Rattle.paragraph.specs.Stream.{records_in}
use Rattle.paragraph.specs.Places.{sought, found_in}
use Rattle.paragraph.specs.declared.view.Side.{Side}
use Rattle.paragraph.specs.declared.view.Side.TheVariants as S
use Rattle.paragraph.proofs.StreamLaws.{Read}

-- ---- one record

module _ (n tag t level : ℕ) where
  pub sought_beyond : side n t level ≡ S.Beyond → sought n tag t level ≡ S.Beyond
  unfolding sought
  sought_beyond e = rw e

  pub sought_passed : side n t level ≡ S.Passed → sought n tag t level ≡ S.Passed
  unfolding sought
  sought_passed e = rw e

  pub sought_owned : side n t level ≡ S.Owned → t ≡ tag → sought n tag t level ≡ S.Owned
  unfolding sought
  sought_owned e q = rw (e, eq-eqb t tag q)

  pub sought_other : side n t level ≡ S.Owned → (t ≡ tag → ⊥) → sought n tag t level ≡ S.Passed
  unfolding sought
  sought_other e q = rw (e, ne_eqb t tag q)

-- the side of a record, an owned one with another tag passed, is how it stands to the search
pub sought_is : (n tag t level : ℕ) (x y : Side) → x ≡ side n t level → y ≡ owned_if (eqb t tag) x → y ≡ sought n tag t level
unfolding sought
sought_is n tag t level x y e q = q ∙ ap (owned_if (eqb t tag)) e

module _ (n tag at : ℕ) (r : Rec) (rs : List Rec) where
  pub found_beyond : (nth : ℕ) → sought n tag r.tag r.level ≡ S.Beyond → found_in n tag nth at (r ∷ rs) ≡ None
  unfolding found_in
  found_beyond nth e = rw (e, found_in)

  pub found_passed : (nth : ℕ) → sought n tag r.tag r.level ≡ S.Passed → found_in n tag nth at (r ∷ rs) ≡ found_in n tag nth (at + size r) rs
  unfolding found_in
  found_passed nth e = rw (e, found_in)

  pub found_here : sought n tag r.tag r.level ≡ S.Owned → found_in n tag 0 at (r ∷ rs) ≡ Some (record_at at r)
  unfolding found_in
  found_here e = rw (e, found_in)

  pub found_later : (nth : ℕ) → sought n tag r.tag r.level ≡ S.Owned → found_in n tag (suc nth) at (r ∷ rs) ≡ found_in n tag nth (at + size r) rs
  unfolding found_in
  found_later nth e = rw (e, found_in)

-- ---- the loop: what is still to be found

pub record Seeking (s : List ℕ) (n tag nth from left at : ℕ) : Type 0 where
  pub rest : found_in n tag nth from (records_in (drop from s)) ≡ found_in n tag left at (records_in (drop at s))

module _ {s : List ℕ} {n tag nth from left at : ℕ} {r : Record} (k : Seeking s n tag nth from left at) (d : Read s at r) where
  abbrev side_of : Side
  side_of = sought n tag r.tag r.level

  to : side_of ≡ sought n tag d.rec.tag d.rec.level
  to = rw (d.tag_is, d.level_is)

  here : found_in n tag nth from (records_in (drop from s)) ≡ found_in n tag left at (d.rec ∷ records_in (drop r.next.0 s))
  here = k.rest ∙ ap (found_in n tag left at) d.records

  -- what is found behind it
  behind : (l : ℕ) → found_in n tag l (at + size d.rec) (records_in (drop r.next.0 s)) ≡ found_in n tag l r.next.0 (records_in (drop r.next.0 s))
  behind l = ap (λ (i : ℕ). found_in n tag l i (records_in (drop r.next.0 s))) (sym d.next-is)

  pub seek_beyond : side_of ≡ S.Beyond → None ≡ found_in n tag nth from (records_in (drop from s))
  seek_beyond e = sym (here ∙ found_beyond n tag at d.rec _ left (sym to ∙ e))

  pub seek_here : side_of ≡ S.Owned → left ≡ 0 → Some r ≡ found_in n tag nth from (records_in (drop from s))
  seek_here e z =
      sym
      (here
      ∙ ap (λ (l : ℕ). found_in n tag l at (d.rec ∷ records_in (drop r.next.0 s))) z
      ∙ found_here n tag at d.rec _ (sym to ∙ e)
      ∙ ap Some (sym d.is))

  pub seek_later : side_of ≡ S.Owned → (left ≡ 0 → ⊥) → Seeking s n tag nth from (left - 1) r.next.0
  seek_later e z =
      let one : left ≡ suc (left - 1) = omega arith in
      record {
        rest =
            here ∙ ap (λ (l : ℕ). found_in n tag l at (d.rec ∷ records_in (drop r.next.0 s))) one
            ∙ found_later n tag at d.rec _ (left - 1) (sym to ∙ e) ∙ behind (left - 1);
      }

  pub seek_passed : side_of ≡ S.Passed → Seeking s n tag nth from left r.next.0
  seek_passed e = record { rest = here ∙ found_passed n tag at d.rec _ left (sym to ∙ e) ∙ behind left }

pub seek_none : {s : List ℕ} {n tag nth from left at : ℕ} → Seeking s n tag nth from left at → records_in (drop at s) ≡ []
    → None ≡ found_in n tag nth from (records_in (drop from s))
unfolding found_in
seek_none k e = sym (k.rest ∙ rw e)
