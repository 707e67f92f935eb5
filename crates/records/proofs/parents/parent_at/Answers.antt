-- The climb ends at the parent. Assumes nothing.
use Rattle.std.proofs.Common.{◌∙◌}
use Rattle.records.proofs.ClimbLaws.{nothing_before, climbs_start, climbs_end, climbs_none, climbs_low, climbs_next}
use Rattle.records.proofs.parents.parent_at.Goals as goal

pub returns-then-index-eq0 : goal.returns-then-index-eq0
returns-then-index-eq0 c b = nothing_before _ _ (b.count ∙ c.if-index-eq0.true)

pub loop-at-init : goal.loop-at-init
loop-at-init c = climbs_start c.requires c.if-index-eq0.false

pub returns-then-up-at : goal.returns-then-up-at
returns-then-up-at c = climbs_none c.loop-at.invariant c.loop-at-test.true c.wide-up.ensures.0 c.if-up-at.true

pub loop-at-smaller : goal.loop-at-smaller
loop-at-smaller c = climbs_low c.loop-at.invariant c.loop-at-test.true c.wide-up.ensures.0 c.if-up-at.false c.requires

pub loop-at-preserved : goal.loop-at-preserved
loop-at-preserved c = climbs_next c.loop-at.invariant c.loop-at-test.true c.wide-up.ensures.0 c.if-up-at.false c.requires

pub returns : goal.returns
returns c = climbs_end c.loop-at.invariant c.loop-at-test.false
