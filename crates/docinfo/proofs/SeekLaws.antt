-- The laws of the records with a tag, and of the search for the first of them. Assumes nothing.
use Rattle.std.specs.Prelude.{None, Some}
use Prim.Native.Nat.{ℕ, ◌+◌}
use mathlib.Core.Path.{◌≡◌, refl, sym, ap, ◌∙◌}
use mathlib.Core.List.{List, [], ◌∷◌}
use borrow.Author.Tests.{eq-eqb, ne_eqb}
use Rattle.records.specs.Records.{Rec, size}
use Rattle.records.specs.declared.header.Record.{Record}
use Rattle.records.specs.declared.walk.Records.{Records}
use Rattle.records.proofs.StepLaws.{Stepped}
use Rattle.records.specs.Parents.{keep_if}
use Rattle.docinfo.specs.Only.{tagged, sought_of}
use Rattle.docinfo.proofs.WalkLaws.{rest, walk-next}

module _ (t at : ℕ) (r : Rec) (rs : List Rec) where
  pub tagged_here : r.tag ≡ t → tagged t at (r ∷ rs) ≡ record { at = at; it = r; behind = rs } ∷ tagged t (at + size r) rs
  unfolding tagged keep_if
  tagged_here e = simp (eq-eqb r.tag t e)

  pub tagged_other : (r.tag ≡ t → ⊥) → tagged t at (r ∷ rs) ≡ tagged t (at + size r) rs
  unfolding tagged keep_if
  tagged_other e = simp (ne_eqb r.tag t e)

pub tagged_none : (t at : ℕ) → tagged t at [] ≡ []
unfolding tagged
tagged_none t at = refl

-- where the search stands: the records with the tag from `from` on are those that are still to come
pub record Seeking (s : List ℕ) (from most tag : ℕ) (p : Records) : Type 0 where
  pub stream-is : p.stream.now ≡ s
  pub left : tagged tag from (rest most s from) ≡ tagged tag p.at.0 (rest p.cap s p.at.0)

module _ {s : List ℕ} {from most tag : ℕ} {p : Records} (k : Seeking s from most tag p) where
  pub seeking_none : rest p.cap s p.at.0 ≡ [] → None ≡ sought_of (tagged tag from (rest most s from))
  seeking_none e = sym (ap sought_of (k.left ∙ ap (tagged tag p.at.0) e ∙ tagged_none tag p.at.0))

  module _ {q : Records} {r : Record} (d : Stepped s p q r) where
    abbrev onward : List Rec
    onward = rest (r.level + 1) s r.next.0

    pub seeking_here : r.tag ≡ tag → Some r ≡ sought_of (tagged tag from (rest most s from))
    seeking_here e =
        ap Some d.here.is
        ∙ sym (ap sought_of (k.left ∙ ap (tagged tag p.at.0) (walk-next d.here) ∙ tagged_here tag p.at.0 d.here.rec onward (sym d.here.tag_is ∙ e)))

    pub seeking_next : (r.tag ≡ tag → ⊥) → Seeking s from most tag q
    seeking_next e =
        record {
          stream-is = d.stream-is;
          left =
              k.left
              ∙ ap (tagged tag p.at.0) (walk-next d.here)
              ∙ tagged_other tag p.at.0 d.here.rec onward (λ x. e (d.here.tag_is ∙ x))
              ∙ rw (d.at-is, d.cap-is) (ap (λ (a : ℕ). tagged tag a onward) (sym d.here.next-is));
        }
