use Rattle.std.proofs.Common.{◌∙◌, arith}
use Rattle.numbers.proofs.LittleLaws.{slice_bytes}
use Rattle.paragraph.proofs.StepLaws.{first_read, first_none}
use Rattle.judgement.proofs.JudgeLaws.{front-child, child_none}
use Rattle.judgement.proofs.judge.child_of.Goals as goal

pub returns-in_err-r : goal.returns-in_err-r
returns-in_err-r c =
    c.from_residual.ensures ∙ child_none _ _ _ _ (first_none c.records_from.ensures.0 c.records_from.ensures.1 c.in_err-r.ensures.steps)

pub overflow_add-r : goal.overflow_add-r
overflow_add-r c =
    let d = first_read c.records_from.ensures.0 c.records_from.ensures.1 (slice_bytes c.args.s.now c.type_inv.s) c.in_ok-r.ensures.steps in
    omega (arith, d.level_is, d.stands.level_high)

pub returns : goal.returns
returns c =
    let d = first_read c.records_from.ensures.0 c.records_from.ensures.1 (slice_bytes c.args.s.now c.type_inv.s) c.in_ok-r.ensures.steps in
    front-child _ _ d _ _ _ c.find.ensures
