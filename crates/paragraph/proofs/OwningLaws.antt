-- The control header behind some others: where it stands, its bytes, and the control headers behind it. Assumes nothing.
use Rattle.std.specs.Prelude.{None, Some}
use Prim.Native.Nat.{ℕ, zero, suc, ◌+◌, ◌≤◌}
use native.Mathlib.Omega.{arith}
use native.Mathlib.Nat.{add_assoc}
use mathlib.Core.Path.{◌≡◌, refl, sym, ap, ◌∙◌, subst}
use mathlib.Core.List.{List, [], ◌∷◌}
use lib.ListN.{length, drop}
use lib.Seq.{drop-nil}
use Rattle.numbers.specs.Little.{Bytes}
use Rattle.records.specs.Records.{Rec, lead_of, size}
use Rattle.records.specs.Reading.{record_at}
use Rattle.records.specs.declared.header.Record.{Record}
use Rattle.records.proofs.ReadingLaws.{size_least}
use Rattle.paragraph.specs.View.{side, kids, controls}
use Rattle.paragraph.specs.Stream.{records_in}
use Rattle.paragraph.specs.Places.{found_in, body_of, Found}
use Rattle.paragraph.specs.declared.view.Side.TheVariants as S
use Rattle.paragraph.proofs.StreamLaws.{Stood, stood_of}
use Rattle.paragraph.proofs.FindLaws.{sought_owned, found_beyond, found_passed, found_here, found_later}
use Rattle.paragraph.proofs.BodyLaws.{Ways, ways, beyond, owned, other, passed, kids_beyond, kids_owned, kids_passed, controls_here, controls_other}

-- the bodies of the control headers from `at` on
abbrev pub headers : List ℕ → ℕ → ℕ → List (List ℕ)
headers s n at = controls (kids n (records_in (drop at s)))

-- p is the one behind k of them
pub record Owning (s : List ℕ) (n k at : ℕ) (p : Record) : Type 0 where
  pub from : at ≤ p.at.0
  pub least : p.at.0 + 4 ≤ p.next.0
  pub inside : p.next.0 ≤ length s
  pub body_is : p.body.0 ≡ p.at.0 + lead_of p.len
  pub body_end : p.body.0 + p.len ≡ p.next.0
  pub headers_are : drop k (headers s n at) ≡ body_of s p ∷ headers s n p.next.0
  pub found : found_in n 71 k at (records_in (drop at s)) ≡ Some p
  pub later : (i j : ℕ) → i ≡ suc (k + j) → found_in n 71 i at (records_in (drop at s)) ≡ found_in n 71 j p.next.0 (records_in (drop p.next.0 s))

abbrev pub OwningIf : List ℕ → ℕ → ℕ → ℕ → Found → Type 0
OwningIf s n k at (Some p) = Owning s n k at p
OwningIf s n k at None = drop k (headers s n at) ≡ []

one : (j : ℕ) → suc (0 + j) ≡ suc j
one j = omega arith

two : (k j : ℕ) → suc (suc k + j) ≡ suc (suc (k + j))
two k j = omega arith

none_left : (k : ℕ) (l : List (List ℕ)) → l ≡ [] → drop k l ≡ []
none_left k l e = rw e (drop-nil {A = List ℕ} k)

module _ (s : List ℕ) (bs : Bytes s) (n : ℕ) where
  -- the first of them stands at `at`
  owning_here : (at : ℕ) (r : Rec) → Stood s at r → side n r.tag r.level ≡ S.Owned → r.tag ≡ 71 → Owning s n 0 at (record_at at r)
  unfolding size
  owning_here at r d o t =
      record {
        from = omega arith;
        least = omega (arith, size_least r);
        inside = d.inside;
        body_is = refl;
        body_end = add_assoc at (lead_of (length r.body)) (length r.body);
        headers_are =
            ap (λ (l : List Rec). controls (kids n l)) d.records
            ∙ ap controls (kids_owned n r (records_in (drop (at + size r) s)) o)
            ∙ controls_here r (kids n (records_in (drop (at + size r) s))) t
            ∙ ap (λ (b : List ℕ). b ∷ headers s n (at + size r)) (sym d.body_is);
        found = ap (found_in n 71 0 at) d.records ∙ found_here n 71 at r (records_in (drop (at + size r) s)) (sought_owned n 71 r.tag r.level o t);
        later = λ i j e.
            ap (found_in n 71 i at) d.records
            ∙ ap (λ (i : ℕ). found_in n 71 i at (r ∷ records_in (drop (at + size r) s))) (e ∙ one j)
            ∙ found_later n 71 at r (records_in (drop (at + size r) s)) j (sought_owned n 71 r.tag r.level o t);
      }

  module _ (at : ℕ) (r : Rec) (rs : List Rec) (d : Stood s at r) where
    -- r is no control header of this paragraph
    passing : (k : ℕ) → headers s n at ≡ headers s n (at + size r) → ((j : ℕ) → found_in n 71 j at (records_in (drop at s)) ≡ found_in n 71 j (at + size r) (records_in (drop (at + size r) s)))
        → (f : Found) → OwningIf s n k (at + size r) f → OwningIf s n k at f
    passing k e g (Some p) o =
        record {
          from = omega (arith, o.from);
          least = o.least;
          inside = o.inside;
          body_is = o.body_is;
          body_end = o.body_end;
          headers_are = ap (drop k) e ∙ o.headers_are;
          found = g k ∙ o.found;
          later = λ i j q. g i ∙ o.later i j q;
        }
    passing k e g None o = ap (drop k) e ∙ o

    -- r is one of them
    counting : (k : ℕ) (b : List ℕ) → headers s n at ≡ b ∷ headers s n (at + size r) → ((j : ℕ) → found_in n 71 (suc j) at (records_in (drop at s)) ≡ found_in n 71 j (at + size r) (records_in (drop (at + size r) s)))
        → (f : Found) → OwningIf s n k (at + size r) f → OwningIf s n (suc k) at f
    counting k b e g (Some p) o =
        record {
          from = omega (arith, o.from);
          least = o.least;
          inside = o.inside;
          body_is = o.body_is;
          body_end = o.body_end;
          headers_are = ap (drop (suc k)) e ∙ o.headers_are;
          found = g k ∙ o.found;
          later = λ i j q. ap (λ (i : ℕ). found_in n 71 i at (records_in (drop at s))) (q ∙ two k j) ∙ g (suc (k + j)) ∙ o.later (suc (k + j)) j refl;
        }
    counting k b e g None o = ap (drop (suc k)) e ∙ o

  owning_by : (rs : List Rec) (k at : ℕ) → records_in (drop at s) ≡ rs → OwningIf s n k at (found_in n 71 k at rs)
  unfolding found_in kids controls
  owning_by [] k at e = none_left k (headers s n at) (rw e)
  owning_by (r ∷ rs) k at e = go k (ways n 71 r) (stood_of s at bs r rs e).0 (λ j. owning_by rs j (at + size r) (stood_of s at bs r rs e).1)
    where
      go : (k : ℕ) → Ways n 71 r → Stood s at r → ((j : ℕ) → OwningIf s n j (at + size r) (found_in n 71 j (at + size r) rs)) → OwningIf s n k at (found_in n 71 k at (r ∷ rs))
      go k (beyond w o) d rest = rw (found_beyond n 71 at r rs k w) (none_left k (headers s n at) (ap (λ (l : List Rec). controls (kids n l)) e ∙ ap controls (kids_beyond n r rs o)))
      go zero (owned w o t) d rest = rw (found_here n 71 at r rs w) (owning_here at r d o t)
      go (suc k) (owned w o t) d rest =
          rw (found_later n 71 at r rs k w)
          (counting at r rs d k r.body
          (ap (λ (l : List Rec). controls (kids n l)) d.records
          ∙ ap controls (kids_owned n r (records_in (drop (at + size r) s)) o) ∙ controls_here r (kids n (records_in (drop (at + size r) s))) t)
          (λ j. ap (found_in n 71 (suc j) at) d.records ∙ found_later n 71 at r (records_in (drop (at + size r) s)) j w)
          (found_in n 71 k (at + size r) rs) (rest k))
      go k (other w o t) d rest =
          rw (found_passed n 71 at r rs k w)
          (passing at r rs d k
          (ap (λ (l : List Rec). controls (kids n l)) d.records
          ∙ ap controls (kids_owned n r (records_in (drop (at + size r) s)) o) ∙ controls_other r (kids n (records_in (drop (at + size r) s))) t)
          (λ j. ap (found_in n 71 j at) d.records ∙ found_passed n 71 at r (records_in (drop (at + size r) s)) j w)
          (found_in n 71 k (at + size r) rs) (rest k))
      go k (passed w o) d rest =
          rw (found_passed n 71 at r rs k w)
          (passing at r rs d k
          (ap (λ (l : List Rec). controls (kids n l)) d.records ∙ ap controls (kids_passed n r (records_in (drop (at + size r) s)) o))
          (λ j. ap (found_in n 71 j at) d.records ∙ found_passed n 71 at r (records_in (drop (at + size r) s)) j w)
          (found_in n 71 k (at + size r) rs) (rest k))

  pub owning : (k at : ℕ) (f : Found) → f ≡ found_in n 71 k at (records_in (drop at s)) → OwningIf s n k at f
  owning k at f e = subst (OwningIf s n k at) (sym e) (owning_by (records_in (drop at s)) k at refl)
