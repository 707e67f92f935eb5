use Rattle.std.proofs.Common.{◌≡◌}
use Rattle.section.proofs.StrayLaws.{Placing}
use Rattle.section.proofs.parents.sweep.Given as goal

abbrev pub invariant-loop-item : goal.invariant-loop-item
invariant-loop-item l = (l.item-iterator.stream.now ≡ l.s) × Placing l.s l.lo l.table l.item-iterator.at.0 l.item-iterator.cap
