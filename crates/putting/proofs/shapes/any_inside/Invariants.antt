use Rattle.putting.proofs.KeepingLaws.{Scanning}
use Rattle.putting.proofs.shapes.any_inside.Given as goal

abbrev pub invariant-loop-i : goal.invariant-loop-i
invariant-loop-i l = Scanning l.body l.change.a.0 l.change.b.0 l.from l.i
