use Rattle.docinfo.specs.Counts.{groups}
use Rattle.docinfo.proofs.CountLaws.{matching_start, matching_within, matching_here, matching_next, matching_end}
use Rattle.docinfo.proofs.counts.first_unmatched.Goals as goal

pub loop-g-init : goal.loop-g-init
unfolding groups
loop-g-init g c = matching_start _ _ _

pub is_matched-requires : goal.is_matched-requires
is_matched-requires g c = (c.requires, matching_within c.loop-g.invariant c.loop-g-test.true _)

pub returns-then-not-is_matched : goal.returns-then-not-is_matched
returns-then-not-is_matched g c = matching_here c.loop-g.invariant c.loop-g-test.true _ c.if-not-is_matched.ensures

pub loop-g-preserved : goal.loop-g-preserved
loop-g-preserved g c = matching_next c.loop-g.invariant c.loop-g-test.true _ c.if-not-is_matched.ensures

pub returns : goal.returns
returns g c = matching_end c.loop-g.invariant c.loop-g-test.false
