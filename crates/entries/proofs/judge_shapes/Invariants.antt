use Rattle.entries.proofs.EntryLaws.{Rising}
use Rattle.entries.proofs.judge_shapes.Given as goal

abbrev pub invariant-loop-i : goal.invariant-loop-i
invariant-loop-i l =
    Rising l.b l.count l.bound l.starts.start l.starts.end l.i-iterator.count l.i-iterator.iter.size l.i-iterator.iter.rest.now
