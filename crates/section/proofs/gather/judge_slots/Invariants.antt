use Rattle.std.proofs.Common.{◌≡◌, length}
use Rattle.section.specs.Slots.{slots_fault, place_or, Known}
use Rattle.section.proofs.gather.judge_slots.Given as goal

abbrev pub invariant-loop-slot : goal.invariant-loop-slot
invariant-loop-slot l = (place_or (length l.s) l.first ≡ slots_fault l.s l.slots l.slot-index) × Known l.s l.first
