-- What the search's steps come to, in the code's own types. It mirrors the code and has not to be believed: the laws of proofs/ lead from
-- each step to `hits`, by which the search's promise speaks (Searching).
use Rattle.std.specs.Prelude.{ℕ, suc, ◌+◌, false, not, cond, List, [], ◌∷◌, eqb, None, Option, Some}
use Rattle.records.specs.Kinds as kind
use Rattle.records.specs.Records.{Rec, size}
use Rattle.records.specs.Reading.{offset}
use Rattle.records.specs.declared.fault.Offset.{Offset}
use Rattle.text.specs.Answers.{position}
use Rattle.text.specs.declared.Position.{Position}
use Rattle.text.specs.declared.Standing.TheVariants.{Ordinary, Control}
use Rattle.text.specs.declared.Step.{Step}
use Rattle.text.specs.declared.Step.TheVariants.{Stands, Broken, End}
use Rattle.paragraph.specs.Rules.{counts_of}
use Rattle.paragraph.specs.View.{side, owned_if}
use Rattle.paragraph.specs.declared.view.Side.{Side}
use Rattle.paragraph.specs.declared.view.Side.TheVariants as S
use Rattle.paragraph.specs.Places.{found_in, body_of, Found}
use Rattle.paragraph.specs.declared.fields.Owned.{Owned}
use Rattle.paragraph.specs.declared.fields.Owned.TheVariants as K
use Rattle.filling.specs.Fields.{id_in}
use Rattle.search.specs.declared.seek.Hit.{Hit}
use Rattle.search.specs.declared.seek.Met.{Met}
use Rattle.search.specs.declared.seek.Closing.{Closing}
use Rattle.search.specs.declared.seek.Passed.{Passed}
use Rattle.search.specs.declared.seek.Seen.{Seen}
use Rattle.filling.specs.declared.Span.{Span}
use Rattle.search.specs.declared.passing.Paragraph.{Paragraph}
use Rattle.search.specs.declared.passing.Look.{Look}
use Rattle.search.specs.declared.passing.Look.TheVariants as L
use Rattle.search.specs.Searching.{met_next}

-- the next unit below 32, as a field ends with it
abbrev pub closing_of : Option (ℕ × ℕ) → Closing
closing_of None = record { b = position 0; plain = false }
closing_of (Some x) = record { b = position x.0; plain = eqb x.1 4 }

-- the same by a step there
abbrev pub closing_by : Step → Closing
closing_by (Stands b (Ordinary u) n) = closing_of None
closing_by (Stands b (Control c) n) = closing_of (Some (b.0, c.code))
closing_by (Broken q) = closing_of None
closing_by End = closing_of None

-- a step that passes no control header
abbrev pub unseen : Passed → Seen
unseen w = record { passed = w; control = None }

-- a step by the control header that is owned there
abbrev pub seen_of : List ℕ → ℕ → Passed → Owned → Seen
seen_of s id w K.Nobody = unseen w
seen_of s id w K.Lacking = unseen w
seen_of s id w K.Other = unseen (record { ordinal = w.ordinal + 1; from = w.from; skipped = w.skipped + 1 })
seen_of s id w (K.Header p) =
    record {
      passed = record { ordinal = w.ordinal + 1; from = p.next; skipped = 0 };
      control = cond (eqb (id_in (body_of s p)) id) (Some p.at) None;
    }

-- no control header is passed of a paragraph whose children begin at a place
abbrev pub begun : Offset → Passed
begun behind = record { ordinal = 0; from = behind; skipped = 0 }

-- where the text's bytes stand
abbrev pub span_of : Found → Span
span_of None = record { place = offset 0; len = 0 }
span_of (Some p) = record { place = p.body; len = p.len }

-- a paragraph with a number, whose header r stands at `at` before rs
abbrev pub paragraph_at : ℕ → ℕ → Rec → List Rec → Paragraph
paragraph_at number at r rs =
    record {
      number = number;
      header = offset at;
      level = suc r.level;
      behind = offset (at + size r);
      text = span_of (found_in (suc r.level) kind.text 0 (at + size r) rs);
      marks = (counts_of r.body).marks;
    }

-- how a record stands to a paragraph whose children are at level n: behind it, a child 67 to 70, or something else
unfoldable pub part_of : ℕ → ℕ → ℕ → Side
part_of n tag level = owned_if (not (eqb tag kind.control_header)) (side n tag level)

-- where the children 67 to 70 end, if nothing else stands below the paragraph
unfoldable pub bare_in : ℕ → ℕ → List Rec → Option Offset
bare_in n at [] = Some (offset at)
bare_in n at (r ∷ rs) = elim (part_of n r.tag r.level) [ S.Beyond ↦ Some (offset at) | S.Owned ↦ bare_in n (at + size r) rs | S.Passed ↦ None ]

abbrev pub bare_or : Option Offset → Paragraph → Look
bare_or (Some end) g = L.Passed 1 end
bare_or None g = L.Paragraph g

-- what stands at a place, by the records from there on
abbrev pub look_of : ℕ → ℕ → List Rec → Look
look_of number at [] = L.Nothing
look_of number at (r ∷ rs) =
    cond (eqb r.tag kind.paragraph_header) (bare_or (bare_in (suc r.level) (at + size r) rs) (paragraph_at number at r rs)) (L.Passed 0 (offset (at + size r)))

-- a field by the paragraph, the number of extended controls before it, the position behind its control, its control header, and the unit
-- that closes it
abbrev pub hit_from : Paragraph → ℕ → Position → Offset → Closing → Hit
hit_from g n a control e =
    record {
      paragraph = g.number;
      header = g.header;
      text = g.text.place;
      control = control;
      marks = g.marks;
      field = record { ordinal = n; a = a; b = e.b; plain = e.plain };
    }

-- what was met behind a step: that is no field with the id, or the hit that owns the control header there
abbrev pub met_by : Met → Option Offset → (Offset → Hit) → Met
met_by m None h = m
met_by m (Some p) h = met_next m (h p)
