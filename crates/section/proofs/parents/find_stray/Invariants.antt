use Rattle.std.proofs.Common.{◌-◌, ◌≡◌}
use Rattle.section.specs.Sweeps.{stray_at}
use Rattle.section.proofs.parents.find_stray.Given as goal

abbrev pub invariant-loop-lo : goal.invariant-loop-lo
invariant-loop-lo l = l.first ≡ stray_at 0 l.lo l.whole.stream.now

abbrev pub decreases-loop-lo : goal.decreases-loop-lo
decreases-loop-lo l = 1224 - l.lo
