use Rattle.pack.proofs.LayLaws.{Laying}
use Rattle.pack.proofs.lay.lay.Given as goal

abbrev pub invariant-loop-i : goal.invariant-loop-i
invariant-loop-i l = Laying l.table l.fn.out l.out l.i l.at
