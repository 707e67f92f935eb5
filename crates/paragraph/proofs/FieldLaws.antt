-- Extended controls and the control headers that they own. Assumes nothing.
use Rattle.std.specs.Prelude.{Err, None, Ok, Some}
use Prim.Native.Nat.{ℕ, ◌+◌, ◌≤◌}
use native.Mathlib.Omega.{arith}
use mathlib.Core.Path.{◌≡◌, refl, sym, ap, ◌∙◌, subst}
use mathlib.Core.Bool.{Bool, true, false, cond}
use mathlib.Core.List.{List, [], ◌∷◌, ◌++◌}
use lib.Dec.{eqb}
use lib.ListN.{take, drop}
use lib.Seq.{drop-drop}
use borrow.Author.Tests.{eqb-true}
use Rattle.numbers.specs.Little.{Bytes}
use Rattle.records.specs.declared.fault.Fault.TheVariants as F
use Rattle.text.specs.Walk.{Token, tokens, tokens_at, fault_at, run}
use Rattle.text.proofs.WalkLaws.{Onward, Ended}
use Rattle.text.proofs.PartLaws.{singles}
use Rattle.text.proofs.ControlLaws.{Reached}
use Rattle.text.specs.declared.Standing.{Standing}
use Rattle.paragraph.specs.Stream.{records_in}
use Rattle.paragraph.specs.Rules.{guard, owner_of, code_before, codes_in, field_short, field_fault, Finding, Owner, breach}
use Rattle.paragraph.specs.Places.{found_in, body_of, header_found, owned_by, Found}
use Rattle.records.specs.declared.header.Record.{Record}
use Rattle.paragraph.specs.declared.fields.Owned.{Owned}
use Rattle.paragraph.specs.declared.fields.Owned.TheVariants as K
use Rattle.paragraph.specs.declared.finding.Which.TheVariants as W
use Rattle.paragraph.proofs.OwningLaws.{headers, Owning, owning}

-- ---- what something in the text owns

-- what an outcome says of its owner and of the control headers that are left, behind k of them
abbrev pub Outcome : List ℕ → ℕ → ℕ → ℕ → Owner → Owned → Type 0
Outcome s n k at o K.Nobody = o ≡ None
Outcome s n k at o K.Other = (code : ℕ) × (o ≡ Some code) × (eqb code 3 ≡ false)
Outcome s n k at o K.Lacking = (o ≡ Some 3) × (drop k (headers s n at) ≡ [])
Outcome s n k at o (K.Header p) = (o ≡ Some 3) × Owning s n k at p

module _ (s : List ℕ) (bs : Bytes s) (n k at : ℕ) where
  outcome_found : (f : Found) → f ≡ found_in n 71 k at (records_in (drop at s)) → Outcome s n k at (Some 3) (header_found f)
  outcome_found (Some p) e = (refl, owning s bs n k at (Some p) e)
  outcome_found None e = (refl, owning s bs n k at None e)

  outcome_code : (code : ℕ) (b : Bool) → eqb code 3 ≡ b
      → Outcome s n k at (Some code) (cond b (header_found (found_in n 71 k at (records_in (drop at s)))) K.Other)
  outcome_code code true e = rw (eqb-true code 3 e) (outcome_found (found_in n 71 k at (records_in (drop at s))) refl)
  outcome_code code false e = (code, refl, e)

  outcome_of : (o : Owner) → Outcome s n k at o (owned_by n k at (records_in (drop at s)) o)
  outcome_of None = refl
  outcome_of (Some code) = outcome_code code (eqb code 3) refl

  pub outcome : (o : Owner) (x y : Owned) → x ≡ owned_by n k at (records_in (drop at s)) o → x ≡ y → Outcome s n k at o y
  outcome o x y e q = subst (Outcome s n k at o) (sym e ∙ q) (outcome_of o)

-- ---- the text and the control headers side by side

-- the controls from position p on against the control headers from `at` on, behind k of them
abbrev left_at : List ℕ → List ℕ → ℕ → ℕ → ℕ → ℕ → ℕ → Finding
left_at s us n p k at nth = field_fault nth (codes_in (tokens_at us p)) (drop k (headers s n at))

abbrev pub whole_at : List ℕ → List ℕ → ℕ → ℕ → Finding
whole_at s us n from = field_fault 0 (codes_in (tokens us)) (headers s n from)

pub record Walking (s us : List ℕ) (from n p k at nth : ℕ) : Type 0 where
  pub sound : fault_at us p ≡ None
  pub few : nth ≤ p
  pub fewer : k ≤ nth
  pub rest : whole_at s us n from ≡ left_at s us n p k at nth

pub walking_start : (s us : List ℕ) (from n : ℕ) → fault_at us 0 ≡ None → Walking s us from n 0 0 from 0
unfolding tokens
walking_start s us from n e = record { sound = e; few = omega arith; fewer = omega arith; rest = refl }

-- ordinary units own nothing
codes_singles : (p : ℕ) (x : List ℕ) (ts : List Token) → codes_in (singles p x ++ ts) ≡ codes_in ts
unfolding codes_in singles
codes_singles p [] ts = refl
codes_singles p (u ∷ x) ts = codes_singles (p + 1) x ts

none_owned : (nth : ℕ) (cs : List ℕ) → field_fault nth cs [] ≡ Ok tt
unfolding field_fault
none_owned nth [] = refl
none_owned nth (c ∷ cs) = refl

-- 15 of a control that is no field
other_code : (nth c : ℕ) (cs : List ℕ) (bs : List (List ℕ)) → eqb c 3 ≡ false → field_fault nth (c ∷ cs) bs ≡ field_fault (nth + 1) cs (drop 1 bs)
unfolding field_fault guard
other_code nth c cs [] e = sym (none_owned (nth + 1) cs)
other_code nth c cs (b ∷ bs) e = rw e

module _ {s us : List ℕ} {from n p k at nth : ℕ} (w : Walking s us from n p k at nth) where
  -- at the next unit below 32
  pub walking_to : {q r : ℕ} {what : Standing} → Reached us p q what r → Walking s us from n q k at nth
  walking_to {q} {r} {what} d =
      record {
        sound = sym d.fault ∙ w.sound;
        few = omega (arith, w.few, d.from);
        fewer = w.fewer;
        rest =
            w.rest
            ∙ ap (λ (cs : List ℕ). field_fault nth cs (drop k (headers s n at)))
            (ap codes_in d.tokens ∙ codes_singles p (take (run (drop p us)) (drop p us)) (tokens_at us q));
      }

  module _ {q : ℕ} {what : Standing} (d : Onward us p what q) where
    codes : (o : Owner) → owner_of what ≡ o → codes_in (tokens_at us p) ≡ code_before o (codes_in (tokens_at us q))
    unfolding codes_in
    codes o e = ap codes_in d.tokens ∙ ap (λ (o : Owner). code_before o (codes_in (tokens_at us q))) e

    -- with what it owns read off
    onto : (o : Owner) → owner_of what ≡ o → whole_at s us n from ≡ field_fault nth (code_before o (codes_in (tokens_at us q))) (drop k (headers s n at))
    onto o e = w.rest ∙ ap (λ (cs : List ℕ). field_fault nth cs (drop k (headers s n at))) (codes o e)

    pub walking_nobody : owner_of what ≡ None → Walking s us from n q k at nth
    walking_nobody e =
        record { sound = sym d.fault ∙ w.sound; few = omega (arith, w.few, d.rises); fewer = w.fewer; rest = onto None e }

    pub walking_other : ((code : ℕ) × (owner_of what ≡ Some code) × (eqb code 3 ≡ false)) → Walking s us from n q (k + 1) at (nth + 1)
    walking_other e =
        record {
          sound = sym d.fault ∙ w.sound;
          few = omega (arith, w.few, d.rises);
          fewer = omega (arith, w.fewer);
          rest =
              onto (Some e.0) e.1
              ∙ other_code nth e.0 (codes_in (tokens_at us q)) (drop k (headers s n at)) e.2
              ∙ ap (field_fault (nth + 1) (codes_in (tokens_at us q))) (drop-drop 1 k (headers s n at));
        }

    -- at a field's control header
    module _ (part : Record) (o : (owner_of what ≡ Some 3) × Owning s n k at part) where
      at_header : (b : Bool) → field_short (body_of s part) ≡ b
          → whole_at s us n from ≡ guard b (Err (breach F.FieldHeaderShort (W.Child 71 nth))) (left_at s us n q 0 part.next.0 (nth + 1))
      unfolding field_fault
      at_header b e =
          onto (Some 3) o.0
          ∙ ap (field_fault nth (3 ∷ codes_in (tokens_at us q))) o.1.headers_are
          ∙ rw e

      pub walking_header : field_short (body_of s part) ≡ false → Walking s us from n q 0 part.next.0 (nth + 1)
      unfolding guard
      walking_header e =
          record { sound = sym d.fault ∙ w.sound; few = omega (arith, w.few, d.rises); fewer = omega arith; rest = at_header false e }

      pub walking_short : field_short (body_of s part) ≡ true → Err (breach F.FieldHeaderShort (W.Child 71 nth)) ≡ whole_at s us n from
      unfolding guard
      walking_short e = sym (at_header true e)

    pub walking_lacking : (owner_of what ≡ Some 3) × (drop k (headers s n at) ≡ []) → Ok tt ≡ whole_at s us n from
    unfolding field_fault
    walking_lacking e = sym (onto (Some 3) e.0 ∙ ap (field_fault nth (3 ∷ codes_in (tokens_at us q))) e.1)

  pub walking_end : Ended us p → Ok tt ≡ whole_at s us n from
  unfolding field_fault codes_in
  walking_end e = sym (w.rest ∙ ap (λ (ts : List Token). field_fault nth (codes_in ts) (drop k (headers s n at))) e.tokens)
