use Rattle.putting.proofs.KeepingLaws.{Keeping}
use Rattle.putting.proofs.shapes.put_entries.Given as goal

abbrev pub invariant-loop-i : goal.invariant-loop-i
invariant-loop-i l = Keeping l.initial.sheet l.body l.change l.i l.sheet
