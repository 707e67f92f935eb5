use Rattle.pack.proofs.JudgeLaws.{Judging}
use Rattle.pack.proofs.judge.judge_rows.Given as goal

abbrev pub invariant-loop-i : goal.invariant-loop-i
invariant-loop-i l = Judging l.table l.right l.i l.cap l.total
