-- What a step answers at the end and at a unit. Assumes nothing.
use Prim.Native.Nat.{ℕ, ◌≤◌, ◌<◌}
use mathlib.Core.Path.{◌≡◌, ap}
use mathlib.Core.List.{List}
use lib.ListN.{length, drop_of_length-le}
use Rattle.text.specs.Walk.{front_of, front}
use Rattle.text.specs.Answers.{step_of, step_at}
use Rattle.text.specs.declared.Step.TheVariants.{End}
use Rattle.text.proofs.UnitLaws.{length-units}
use Rattle.text.proofs.WalkLaws.{sight_at, front_at}

pub at_end : (us : List ℕ) (p : ℕ) → length us ≤ p → End ≡ step_at us p
unfolding step_at front
at_end us p h = rw (drop_of_length-le us h)

pub at_unit : (us : List ℕ) (p : ℕ) → p < length us → step_at us p ≡ step_of p (front_of (sight_at us p))
unfolding step_at
at_unit us p h = ap (step_of p) (front_at us p h)

-- for attributes, over as many units as half the bytes
pub ruleset step_exits = (at_end, at_unit, length-units)
