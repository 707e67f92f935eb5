use Rattle.std.proofs.Common.{arith}
use Rattle.docinfo.proofs.CountLaws.{span_fits, negative_here, negative-next, negative_end}
use Rattle.docinfo.proofs.counts.first_negative.Goals as goal

pub pow-requires : goal.pow-requires
pow-requires g c = span_fits _ c.requires

pub returns-then-pow-count_at : goal.returns-then-pow-count_at
returns-then-pow-count_at g c =
    negative_here c.loop-i.invariant c.loop-i-test.true c.count_at.ensures.0 (omega (arith, c.pow.ensures))

pub loop-i-preserved : goal.loop-i-preserved
loop-i-preserved g c =
    negative-next c.loop-i.invariant c.loop-i-test.true c.count_at.ensures.0 (omega (arith, c.pow.ensures))

pub returns : goal.returns
returns g c = negative_end c.loop-i.invariant c.loop-i-test.false
