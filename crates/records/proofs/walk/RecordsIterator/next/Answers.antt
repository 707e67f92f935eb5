-- A step comes nearer to the end, and the level that may follow fits. Assumes nothing.
use Rattle.std.proofs.Common.{arith, sym}
use Rattle.records.proofs.StepLaws.{moves, fault_left}
use Rattle.records.proofs.walk.RecordsIterator.next.Goals as goal

pub overflow_add-self : goal.overflow_add-self
overflow_add-self c = omega (arith, (moves _ _ _ _ (sym (rw c.in-Ok.is at c.in_ok-ahead.ensures))).level_low)

pub returns-in-Ok-clause-goes : goal.returns-in-Ok-clause-goes
returns-in-Ok-clause-goes c =
    record { on = λ _. (tt, tt, (moves _ _ _ _ (sym (rw c.in-Ok.is at c.in_ok-ahead.ensures))).nearer); keeps = tt; rests = λ _. tt }

pub returns-in-Err-clause-goes : goal.returns-in-Err-clause-goes
returns-in-Err-clause-goes c =
    record { on = λ _. (tt, tt, fault_left _ _ _ _ (sym (rw c.in-Err.is at c.in_ok-ahead.ensures))); keeps = tt; rests = λ _. tt }
