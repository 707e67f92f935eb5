use Rattle.std.proofs.Common.{refl, sym, ◌∙◌}
use Rattle.paragraph.proofs.StepLaws.{nearer, told_end, told_fault, told_record}
use Rattle.paragraph.proofs.stream.RecordsFromIterator.next.Goals as goal

pub returns-in_err-record_at-clause-steps : goal.returns-in_err-record_at-clause-steps
returns-in_err-record_at-clause-steps c = rw c.from_residual.ensures (told_end _ _ _ c.record_at.ensures c.in_err-record_at.was, refl)

pub returns-in_err-r-clause-steps : goal.returns-in_err-r-clause-steps
returns-in_err-r-clause-steps c =
    rw c.from_residual-in_err-r.ensures
    (told_fault _ _ _ c.record_at.ensures _ c.in_ok-record_at.was (sym c.ok.ensures.value ∙ c.in_err-r.was), refl)

pub returns-clause-goes : goal.returns-clause-goes
returns-clause-goes c =
    let d = told_record _ _ _ c.record_at.ensures _ _ c.in_ok-record_at.was (sym c.ok.ensures.value ∙ c.in_ok-r.was) in
    record { on = λ _. (tt, tt, nearer _ _ _ d); keeps = tt; rests = λ _. tt }
