use Rattle.std.proofs.Common.{◌∙◌, ap}
use Rattle.numbers.specs.Little.{little}
use Rattle.numbers.proofs.LittleLaws.{part_rest}
use Rattle.entries.proofs.EntryLaws.{marking_fault, marking_next}
use Rattle.entries.proofs.judge_marks.Goals as goal

pub returns-then-end-start : goal.returns-then-end-start
returns-then-end-start c =
    let s = c.in-Some.ensures.steps in
    marking_fault c.loop-i.invariant _ _ s.0.1.0 s.0.1.1 _ _ c.little-start.ensures (c.little-end.ensures ∙ ap (little 4) (part_rest _ 4)) s.1
    c.then-end-start.either

pub loop-i-preserved : goal.loop-i-preserved
loop-i-preserved c =
    let s = c.in-Some.ensures.steps in
    marking_next c.loop-i.invariant _ _ s.0.1.0 s.0.1.1 _ _ c.little-start.ensures (c.little-end.ensures ∙ ap (little 4) (part_rest _ 4)) s.2 s.0.0
    c.if-end-start.false c.if-count-end.false
