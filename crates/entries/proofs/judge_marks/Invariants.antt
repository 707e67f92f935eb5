use Rattle.entries.proofs.EntryLaws.{Marking}
use Rattle.entries.proofs.judge_marks.Given as goal

abbrev pub invariant-loop-i : goal.invariant-loop-i
invariant-loop-i l = Marking l.b l.count l.i-iterator.count l.i-iterator.iter.size l.i-iterator.iter.rest.now
