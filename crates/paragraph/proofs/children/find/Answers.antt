use Rattle.std.proofs.Common.{sym}
use Rattle.numbers.proofs.LittleLaws.{slice_bytes}
use Rattle.paragraph.proofs.StepLaws.{stepped}
use Rattle.paragraph.proofs.FindLaws.{seek_beyond, seek_here, seek_later, seek_passed, seek_none, sought_is}
use Rattle.paragraph.proofs.children.find.Goals as goal

pub returns-in-Beyond : goal.returns-in-Beyond
returns-in-Beyond c =
    let d = stepped (slice_bytes c.args.s.now c.type_inv.s) c.loop-r.invariant.0 c.in-Some.ensures.steps in
    seek_beyond c.loop-r.invariant.1 d.read (sym (sought_is _ _ _ _ _ _ c.stands_to.ensures c.in-Beyond.ensures))

pub returns-then-left-eq0 : goal.returns-then-left-eq0
returns-then-left-eq0 c =
    let d = stepped (slice_bytes c.args.s.now c.type_inv.s) c.loop-r.invariant.0 c.in-Some.ensures.steps in
    seek_here c.loop-r.invariant.1 d.read (sym (sought_is _ _ _ _ _ _ c.stands_to.ensures c.in-Owned.ensures)) c.if-left-eq0.true

pub loop-r-preserved-in-Owned : goal.loop-r-preserved-in-Owned
loop-r-preserved-in-Owned c =
    let d = stepped (slice_bytes c.args.s.now c.type_inv.s) c.loop-r.invariant.0 c.in-Some.ensures.steps in
    let q = sym (sought_is _ _ _ _ _ _ c.stands_to.ensures c.in-Owned.ensures) in
    (d.stream-is, rw d.at-is (seek_later c.loop-r.invariant.1 d.read q c.if-left-eq0.false))

pub loop-r-preserved : goal.loop-r-preserved
loop-r-preserved c =
    let d = stepped (slice_bytes c.args.s.now c.type_inv.s) c.loop-r.invariant.0 c.in-Some.ensures.steps in
    let q = sym (sought_is _ _ _ _ _ _ c.stands_to.ensures c.in-Passed.ensures) in
    (d.stream-is, rw d.at-is (seek_passed c.loop-r.invariant.1 d.read q))

pub returns : goal.returns
returns c = seek_none c.loop-r.invariant.1 (rw c.loop-r.invariant.0 at c.in-None.ensures.steps.0)
