use Rattle.docinfo.proofs.SeekLaws.{Seeking}
use Rattle.docinfo.proofs.seek.seek.Given as goal

abbrev pub invariant-loop-r : goal.invariant-loop-r
invariant-loop-r l = Seeking l.s l.fn.from.0 l.most l.tag l.r-iterator
