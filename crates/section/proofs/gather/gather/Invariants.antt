use Rattle.std.proofs.Common.{◌≡◌, length}
use Rattle.section.specs.Slots.{place_or, Known}
use Rattle.section.proofs.GatherLaws.{Gathers}
use Rattle.section.proofs.gather.gather.Given as goal

abbrev pub invariant-loop-r : goal.invariant-loop-r
invariant-loop-r l =
    (l.r-iterator.stream.now ≡ l.whole.stream.now)
    × Gathers l.whole.stream.now l.lo l.slots l.r-iterator.at.0 (place_or (length l.whole.stream.now) l.first)
    × Known l.whole.stream.now l.first
