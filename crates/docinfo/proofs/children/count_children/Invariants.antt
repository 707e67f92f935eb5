use Rattle.docinfo.proofs.ChildLaws.{Counting}
use Rattle.docinfo.proofs.children.count_children.Given as goal

abbrev pub invariant-loop-r : goal.invariant-loop-r
invariant-loop-r l = Counting l.s l.fn.from.0 l.n l.tag l.r-iterator l.met
