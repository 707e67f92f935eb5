use Rattle.putting.proofs.KeepingLaws.{scan_here, scan_later, scan_end}
use Rattle.putting.proofs.shapes.any_inside.Goals as goal

pub returns-then-meets : goal.returns-then-meets
returns-then-meets c = scan_here c.loop-i.invariant c.loop-i-test.true c.start_of.ensures.0 c.meets.ensures c.if-meets.true

pub loop-i-preserved : goal.loop-i-preserved
loop-i-preserved c = scan_later c.loop-i.invariant c.loop-i-test.true c.start_of.ensures.0 c.meets.ensures c.if-meets.false

pub returns : goal.returns
returns c = scan_end c.loop-i.invariant c.loop-i-test.false
