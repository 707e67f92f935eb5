-- What the range tells is what the law asks, so `search` has it.
use Rattle.std.proofs.Common.{rules, arith}
use Rattle.entries.proofs.EntryLaws.{rising_fault, rising_next}
use Rattle.entries.proofs.judge_shapes.Goals as goal

pub returns-then-not-contains : goal.returns-then-not-contains
returns-then-not-contains c =
    let s = c.in-Some.ensures.steps in
    rising_fault c.loop-i.invariant _ _ s.0.1.0 s.0.1.1 _ c.little-start.ensures s.1 (search rules)

pub loop-i-preserved : goal.loop-i-preserved
loop-i-preserved c =
    let s = c.in-Some.ensures.steps in
    rising_next c.loop-i.invariant _ _ s.0.1.0 s.0.1.1 _ c.little-start.ensures s.2 s.0.0 (omega arith) (search rules)
