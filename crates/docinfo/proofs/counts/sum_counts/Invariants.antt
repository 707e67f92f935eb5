use Rattle.docinfo.proofs.CountLaws.{Summing}
use Rattle.docinfo.proofs.counts.sum_counts.Given as goal

abbrev pub invariant-loop-i : goal.invariant-loop-i
invariant-loop-i g l = Summing g.row.N l.body 4294967296 l.fn.g.first l.fn.g.many l.sum l.i
