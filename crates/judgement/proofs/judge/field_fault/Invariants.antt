use Rattle.std.proofs.Common.{◌-◌, length}
use Rattle.text.specs.Units.{units}
use Rattle.paragraph.proofs.FieldLaws.{Walking}
use Rattle.judgement.proofs.judge.field_fault.Given as goal

abbrev pub invariant-loop-what : goal.invariant-loop-what
invariant-loop-what l = Walking l.s (units l.text) l.initial.at.0 l.n l.walk.0 l.skipped l.at.0 l.nth

abbrev pub decreases-loop-what : goal.decreases-loop-what
decreases-loop-what l = length (units l.text) - l.walk.0
