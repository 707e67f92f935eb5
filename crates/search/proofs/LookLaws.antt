-- What stands at a place, one law for each way that it is seen. Assumes nothing.
use Rattle.std.specs.Prelude.{None, Some, Option}
use Prim.Native.Nat.{ℕ, suc, ◌+◌}
use native.Mathlib.Numerals.{add-one}
use mathlib.Core.Path.{◌≡◌, sym, ap, ap₂, ◌∙◌, subst}
use mathlib.Core.List.{List}
use lib.ListN.{drop}
use borrow.Author.Tests.{eq-eqb, ne_eqb}
use Rattle.numbers.specs.Little.{little, Bytes}
use Rattle.records.specs.Records.{Rec, size}
use Rattle.records.specs.Reading.{offset}
use Rattle.records.specs.declared.header.Record.{Record}
use Rattle.records.specs.declared.fault.Offset.{Offset}
use Rattle.paragraph.specs.Stream.{records_in}
use Rattle.paragraph.specs.Rules.{counts_of}
use Rattle.paragraph.specs.Places.{found_in, body_of}
use Rattle.paragraph.specs.Steps.{steps_over}
use Rattle.paragraph.specs.declared.stream.RecordsFrom.{RecordsFrom}
use Rattle.paragraph.proofs.StreamLaws.{Read}
use Rattle.paragraph.proofs.StepLaws.{stepped}
use Rattle.search.specs.Steps.{span_of, paragraph_at, bare_in, bare_or, look_of}
use Rattle.filling.specs.declared.Span.{Span}
use Rattle.search.specs.declared.passing.Paragraph.{Paragraph}
use Rattle.search.specs.declared.passing.Look.TheVariants as L

-- a paragraph, number by number
same_paragraph : {number l l' m m' : ℕ} {h b b' : Offset} {f f' : Span} → l ≡ l' → b ≡ b' → f ≡ f' → m ≡ m'
    → ◌≡◌ {A = Paragraph} (record { number = number; header = h; level = l; behind = b; text = f; marks = m }) (record { number = number; header = h; level = l'; behind = b'; text = f'; marks = m' })
same_paragraph e f g h = rw (e, f, g, h)

-- where the first of the records from `at` on was taken
pub read_there : {s : List ℕ} {at : Offset} {p q : RecordsFrom} {r : Record} → Bytes s → (p.stream.now ≡ s) × (p.at ≡ at) → steps_over p (Some r) q → Read s at.0 r
read_there {s} {at} {p} {q} {r} bs e w = subst (λ (i : Offset). Read s i.0 r) e.1 (stepped bs e.0 w).read

-- the record r at `at`
module _ {s : List ℕ} {at : ℕ} {r : Record} (number : ℕ) (d : Read s at r) where
  abbrev rs : List Rec
  rs = records_in (drop r.next.0 s)

  behind-is : r.next ≡ offset (at + size d.rec)
  behind-is = ap offset d.next-is

  pub look_other : (r.tag ≡ 66 → ⊥) → L.Passed 0 r.next ≡ look_of number at (records_in (drop at s))
  look_other t =
      sym
      (ap (look_of number at) d.records
      ∙ rw (ne_eqb d.rec.tag 66 (λ e. t (d.tag_is ∙ e)), ← behind-is))

  level_is : r.level + 1 ≡ suc d.rec.level
  level_is = add-one r.level ∙ ap suc d.level_is

  module _ (x : Option Offset) (t : r.tag ≡ 66) (o : bare_in (r.level + 1) r.next.0 rs ≡ x) where
    bare-is : bare_in (suc d.rec.level) (at + size d.rec) rs ≡ x
    bare-is = ap₂ (λ (l b : ℕ). bare_in l b rs) (sym level_is) (sym d.next-is) ∙ o

    looked : bare_or x (paragraph_at number at d.rec rs) ≡ look_of number at (records_in (drop at s))
    looked =
        sym
        (ap (look_of number at) d.records
        ∙ rw (eq-eqb d.rec.tag 66 (sym d.tag_is ∙ t)) (ap (λ (b : Option Offset). bare_or b (paragraph_at number at d.rec rs)) bare-is))

  pub look_bare : (end : Offset) → r.tag ≡ 66 → bare_in (r.level + 1) r.next.0 (records_in (drop r.next.0 s)) ≡ Some end
      → L.Passed 1 end ≡ look_of number at (records_in (drop at s))
  look_bare end t o = looked (Some end) t o

  pub look_paragraph : (text : Span) (marks : ℕ) → text ≡ span_of (found_in (r.level + 1) 67 0 r.next.0 (records_in (drop r.next.0 s)))
      → r.tag ≡ 66 → bare_in (r.level + 1) r.next.0 (records_in (drop r.next.0 s)) ≡ None → marks ≡ little 2 (drop 14 (body_of s r))
      → L.Paragraph (record { number = number; header = offset at; level = r.level + 1; behind = r.next; text = text; marks = marks })
      ≡ look_of number at (records_in (drop at s))
  unfolding counts_of
  look_paragraph text marks e t o m =
      let text-is : text ≡ span_of (found_in (suc d.rec.level) 67 0 (at + size d.rec) rs) = e ∙ ap₂ (λ (l b : ℕ). span_of (found_in l 67 0 b rs)) level_is d.next-is in
      ap L.Paragraph
      (same_paragraph level_is behind-is text-is (m ∙ ap (λ (b : List ℕ). little 2 (drop 14 b)) d.body_is))
      ∙ looked None t o
