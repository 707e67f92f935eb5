-- The list of parents is compared with the parents that are climbed to. Assumes nothing.
use Rattle.records.proofs.ClimbLaws.{Agrees}
use Rattle.records.proofs.parents.right_parents.Given as goal

abbrev pub invariant-loop-i : goal.invariant-loop-i
invariant-loop-i l = Agrees l.count l.levels l.parents l.i
