-- What stands at a place is what `look_of` has. Assumes nothing.
use Rattle.std.proofs.Common.{arith, sym, ap, ◌∙◌, drop}
use Rattle.numbers.specs.Little.{little}
use Rattle.numbers.proofs.LittleLaws.{slice_bytes}
use Rattle.search.proofs.LookLaws.{read_there, look_other, look_bare, look_paragraph}
use Rattle.search.proofs.passing.look_at.Goals as goal

pub returns-then-r-ne-PARAGRAPH_HEADER : goal.returns-then-r-ne-PARAGRAPH_HEADER
returns-then-r-ne-PARAGRAPH_HEADER c =
    look_other _ (read_there (slice_bytes c.args.s.now c.type_inv.s) c.records_from.ensures c.in-Some.ensures.steps)
    c.if-r-ne-PARAGRAPH_HEADER.true

pub overflow_add-level : goal.overflow_add-level
overflow_add-level c =
    let d = read_there (slice_bytes c.args.s.now c.type_inv.s) c.records_from.ensures c.in-Some.ensures.steps in
    omega (arith, d.level_is, d.stands.level_high)

pub returns-in-Some-bare_until : goal.returns-in-Some-bare_until
returns-in-Some-bare_until c =
    look_bare _ (read_there (slice_bytes c.args.s.now c.type_inv.s) c.records_from.ensures c.in-Some.ensures.steps) _
    c.if-r-ne-PARAGRAPH_HEADER.false (sym c.in-Some-bare_until.ensures)

pub returns : goal.returns
returns c =
    look_paragraph _ (read_there (slice_bytes c.args.s.now c.type_inv.s) c.records_from.ensures c.in-Some.ensures.steps) _ _
    c.text_of.ensures c.if-r-ne-PARAGRAPH_HEADER.false (sym c.in_default-bare_until.ensures)
    (c.marks_in.ensures ∙ ap (λ l. little 2 (drop 14 l)) c.body.ensures)
