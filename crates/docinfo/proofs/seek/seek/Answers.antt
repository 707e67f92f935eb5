use Rattle.numbers.proofs.LittleLaws.{slice_bytes}
use Rattle.records.proofs.StepLaws.{stepped, none_stopped, none_ended}
use Rattle.docinfo.proofs.SeekLaws.{seeking_here, seeking_next, seeking_none}
use Rattle.docinfo.proofs.seek.seek.Goals as goal

pub returns-in_default : goal.returns-in_default
returns-in_default c =
    seeking_none c.loop-r.invariant (none_stopped _ c.loop-r.invariant.stream-is (rw c.in_default.is at c.in-Some.ensures.steps))

pub returns-then-r-tag : goal.returns-then-r-tag
returns-then-r-tag c =
    let d = stepped _ c.loop-r.invariant.stream-is (slice_bytes c.args.s.now c.type_inv.s) (rw c.in-Ok.is at c.in-Some.ensures.steps) in
    seeking_here c.loop-r.invariant d c.if-r-tag.true

pub loop-r-preserved : goal.loop-r-preserved
loop-r-preserved c =
    let d = stepped _ c.loop-r.invariant.stream-is (slice_bytes c.args.s.now c.type_inv.s) (rw c.in-Ok.is at c.in-Some.ensures.steps) in
    seeking_next c.loop-r.invariant d c.if-r-tag.false

pub returns : goal.returns
returns c = seeking_none c.loop-r.invariant (none_ended c.loop-r.r-iterator c.loop-r.invariant.stream-is c.in-None.ensures.steps)
