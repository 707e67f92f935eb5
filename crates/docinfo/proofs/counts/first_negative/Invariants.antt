use Rattle.docinfo.proofs.CountLaws.{Negating}
use Rattle.docinfo.proofs.counts.first_negative.Given as goal

abbrev pub invariant-loop-i : goal.invariant-loop-i
invariant-loop-i g l = Negating g.row.N l.body 16 l.i
