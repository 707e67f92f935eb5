use Rattle.std.proofs.Common.{◌-◌, length}
use Rattle.text.specs.Units.{units}
use Rattle.reader.proofs.JudgeLaws.{Walked}
use Rattle.reader.proofs.judge.Given as goal

abbrev pub invariant-loop-at : goal.invariant-loop-at
invariant-loop-at l = Walked (units l.text) l.at.0 l.count

abbrev pub decreases-loop-at : goal.decreases-loop-at
decreases-loop-at l = length (units l.text) - l.at.0
