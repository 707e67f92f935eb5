use Rattle.docinfo.proofs.CountLaws.{summing_start, summing_next, summing_end}
use Rattle.docinfo.proofs.counts.sum_counts.Goals as goal

pub loop-i-init : goal.loop-i-init
loop-i-init g c = summing_start _ _ _ _ _

pub loop-i-preserved : goal.loop-i-preserved
loop-i-preserved g c =
    summing_next _ _ _ _ _ c.loop-i.invariant c.loop-i.auto.i c.loop-i-test.true c.count_at-sum.ensures.0 c.count_at-sum.ensures.1

pub returns : goal.returns
returns g c = summing_end _ _ _ _ _ c.loop-i.invariant c.loop-i-test.false
