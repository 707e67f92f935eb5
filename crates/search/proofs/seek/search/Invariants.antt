use Rattle.std.proofs.Common.{◌-◌, length}
use Rattle.text.specs.Units.{units}
use Rattle.search.proofs.SearchLaws.{Searching, Walking}
use Rattle.search.proofs.seek.search.Given as goal

abbrev pub invariant-loop-what : goal.invariant-loop-what
invariant-loop-what l = Walking l.s l.id l.g l.text l.met l.walk.0 l.passed

abbrev pub decreases-loop-what : goal.decreases-loop-what
decreases-loop-what l = length (units l.text) - l.walk.0

abbrev pub invariant-search : goal.invariant-search
invariant-search l = Searching l.s l.id l.met l.number l.at.0

abbrev pub decreases-search : goal.decreases-search
decreases-search l = length l.s - l.at.0
