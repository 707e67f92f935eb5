use Rattle.std.proofs.Common.{◌-◌, ◌≡◌, ◌+◌, ◌/◌, length, drop}
use Rattle.text.specs.Units.{units}
use Rattle.text.specs.Walk.{run}
use Rattle.text.proofs.Cursor.past_ordinary.Given as goal

-- from p on the run ends where it ends from the start on
abbrev pub invariant-loop-p : goal.invariant-loop-p
invariant-loop-p l = l.initial.p + run (drop l.initial.p (units l.text)) ≡ l.p + run (drop l.p (units l.text))

abbrev pub decreases-loop-p : goal.decreases-loop-p
decreases-loop-p l = length l.text / 2 - l.p
