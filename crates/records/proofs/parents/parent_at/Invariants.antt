-- The climb ends at the parent. Assumes nothing.
use Rattle.records.proofs.ClimbLaws.{Climbs}
use Rattle.records.proofs.parents.parent_at.Given as goal

abbrev pub invariant-loop-at : goal.invariant-loop-at
invariant-loop-at l = Climbs l.levels l.parents l.level l.index l.at

abbrev pub decreases-loop-at : goal.decreases-loop-at
decreases-loop-at l = l.at
