use Rattle.numbers.proofs.LittleLaws.{slice_bytes}
use Rattle.records.proofs.StepLaws.{stepped, none_stopped, none_ended}
use Rattle.docinfo.proofs.ChildLaws.{counting_end, counting_beyond, counting_one, counting_other}
use Rattle.docinfo.proofs.children.count_children.Goals as goal

pub returns-in_default : goal.returns-in_default
returns-in_default c =
    counting_end c.loop-r.invariant (none_stopped _ c.loop-r.invariant.stream-is (rw c.in_default.is at c.in-Some.ensures.steps))

pub returns-then-r-n : goal.returns-then-r-n
returns-then-r-n c =
    let d = stepped _ c.loop-r.invariant.stream-is (slice_bytes c.args.s.now c.type_inv.s) (rw c.in-Ok.is at c.in-Some.ensures.steps) in
    counting_beyond c.loop-r.invariant d c.if-r-n.true

pub loop-r-preserved-then-r-tag : goal.loop-r-preserved-then-r-tag
loop-r-preserved-then-r-tag c =
    let d = stepped _ c.loop-r.invariant.stream-is (slice_bytes c.args.s.now c.type_inv.s) (rw c.in-Ok.is at c.in-Some.ensures.steps) in
    counting_one c.loop-r.invariant d c.if-r-n.false c.if-r-n-2.true c.if-r-tag.true

pub loop-r-preserved : goal.loop-r-preserved
loop-r-preserved c =
    let d = stepped _ c.loop-r.invariant.stream-is (slice_bytes c.args.s.now c.type_inv.s) (rw c.in-Ok.is at c.in-Some.ensures.steps) in
    counting_other c.loop-r.invariant d c.if-r-n.false c.else-r-n-2.either

pub returns : goal.returns
returns c = counting_end c.loop-r.invariant (none_ended c.loop-r.r-iterator c.loop-r.invariant.stream-is c.in-None.ensures.steps)
