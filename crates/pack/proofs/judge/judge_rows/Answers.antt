use Rattle.std.proofs.Common.{arith, ◌∙◌}
use Rattle.pack.proofs.JudgeLaws.{judging_start, judging_level, judging_next, judging_stop, judging_end}
use Rattle.pack.proofs.judge.judge_rows.Goals as goal

pub loop-i-init : goal.loop-i-init
loop-i-init c = judging_start _ _ c.requires c.right_parents-right.ensures

pub returns-in-Err : goal.returns-in-Err
returns-in-Err c =
    c.refused.ensures
    ∙ judging_stop _ _ c.loop-i.invariant c.loop-i-test.true c.requires c.row-row.ensures.is c.judge_row.ensures _ c.in-Err.is

pub overflow_add-cap : goal.overflow_add-cap
overflow_add-cap c =
    omega (
      arith,
      judging_level _ _ c.loop-i.invariant c.loop-i-test.true c.requires c.row-row.ensures.is c.judge_row.ensures c.in_default.is,
    )

pub loop-i-preserved : goal.loop-i-preserved
loop-i-preserved c =
    judging_next _ _ c.loop-i.invariant c.loop-i-test.true c.requires c.row-row.ensures.is c.judge_row.ensures c.in_default.is
    c.grown-total.ensures.0

pub returns : goal.returns
returns c = c.close.ensures ∙ judging_end _ _ c.loop-i.invariant c.loop-i-test.false _
