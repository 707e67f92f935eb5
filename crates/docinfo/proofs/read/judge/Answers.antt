use Rattle.std.proofs.Common.{◌∙◌}
use Rattle.std.proofs.lemmas.Result.{err_from_is_err_and}
use Rattle.numbers.proofs.LittleLaws.{slice_bytes}
use Rattle.docinfo.proofs.AnswerLaws.{required_alone, judge_16, judge_17, judge_both}
use Rattle.docinfo.proofs.read.judge.Goals as goal

pub returns-in_err-properties : goal.returns-in_err-properties
returns-in_err-properties c =
    let p = err_from_is_err_and c.from_residual.result c.from_residual.ensures.1 in
    rw (p.1, p.2) (judge_16 _ _ _ c.in_err-properties.ensures)

pub returns-in_err-mappings : goal.returns-in_err-mappings
returns-in_err-mappings c =
    let bytes = slice_bytes c.args.s.now c.type_inv.s in
    let p = err_from_is_err_and c.from_residual-in_err-mappings.result c.from_residual-in_err-mappings.ensures.1 in
    rw (p.1, p.2) (judge_17 _ _ _ (required_alone _ bytes 16 _ c.in_ok-properties.ensures) _ c.in_err-mappings.ensures)

pub judge_bodies-requires : goal.judge_bodies-requires
judge_bodies-requires c =
    let bytes = slice_bytes c.args.s.now c.type_inv.s in
    let first = required_alone _ bytes 16 _ c.in_ok-properties.ensures in
    let second = required_alone _ bytes 17 _ c.in_ok-mappings.ensures in
    (first.inside, second.inside, second.level)

pub returns : goal.returns
returns c =
    let bytes = slice_bytes c.args.s.now c.type_inv.s in
    let first = required_alone _ bytes 16 _ c.in_ok-properties.ensures in
    let second = required_alone _ bytes 17 _ c.in_ok-mappings.ensures in
    c.judge_bodies.ensures ∙ judge_both _ _ _ first _ second
