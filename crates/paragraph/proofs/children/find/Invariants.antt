use Rattle.std.proofs.Common.{◌≡◌}
use Rattle.paragraph.proofs.FindLaws.{Seeking}
use Rattle.paragraph.proofs.children.find.Given as goal

abbrev pub invariant-loop-r : goal.invariant-loop-r
invariant-loop-r l = (l.r-iterator.stream.now ≡ l.s) × Seeking l.s l.n l.tag l.nth l.fn.from.0 l.left l.r-iterator.at.0
