use Rattle.std.proofs.Common.{◌-◌, ◌≡◌, length}
use Rattle.section.specs.Slots.{fault_in, place_or, Known}
use Rattle.section.proofs.gather.first_at_fault.Given as goal

abbrev pub invariant-loop-lo : goal.invariant-loop-lo
invariant-loop-lo l =
    (place_or (length l.whole.stream.now) l.first ≡ fault_in 0 l.lo l.whole.stream.now) × Known l.whole.stream.now l.first

abbrev pub decreases-loop-lo : goal.decreases-loop-lo
decreases-loop-lo l = 1040 - l.lo
