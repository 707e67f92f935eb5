use Rattle.std.proofs.Common.{arith}
use Rattle.std.proofs.lemmas.Result.{err_from_is_err_and}
use Rattle.numbers.proofs.LittleLaws.{slice_bytes}
use Rattle.section.proofs.SectionLaws.{answer_rules, answer_refused, answer_crowded}
use Rattle.section.proofs.rules.answer_within.Goals as goal

pub returns-in_err-n : goal.returns-in_err-n
returns-in_err-n c =
    let p = err_from_is_err_and c.from_residual.result c.from_residual.ensures.1 in
    rw (p.1, p.2) (answer_refused c.args.s.now _ _ (c.in_err-n.ensures _))

pub returns-then-room-n : goal.returns-then-room-n
returns-then-room-n c = answer_crowded c.args.s.now _ _ _ (c.in_ok-n.ensures.0 _ (omega arith)) c.if-room-n.true c.scan.ensures

pub returns : goal.returns
returns c =
    let o = c.in_ok-n.ensures in
    answer_rules c.args.s.now _ _ _ (slice_bytes c.args.s.now c.type_inv.s) (o.0 _ (omega arith)) (rw o.2 at c.judge_section.ensures)
