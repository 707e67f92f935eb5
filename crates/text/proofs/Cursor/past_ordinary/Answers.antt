use Rattle.std.proofs.Common.{◌∙◌, ap, sym, arith}
use Rattle.text.specs.Answers.{cursor}
use Rattle.text.proofs.UnitLaws.{length-units}
use Rattle.text.proofs.RunLaws.{run_more, run_over}
use Rattle.text.proofs.Cursor.past_ordinary.Goals as goal

pub loop-p-preserved : goal.loop-p-preserved
loop-p-preserved c =
    c.loop-p.invariant ∙ run_more _ _ (rw length-units c.loop-p-test.true) (omega (arith, c.if-unit-lt32.false, c.unit.ensures))

pub returns-after-loop-p : goal.returns-after-loop-p
returns-after-loop-p c = ap cursor (run_over _ _ (rw length-units c.loop-p-test.false) ∙ sym c.loop-p.invariant)
