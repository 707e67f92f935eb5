-- Fill answers and writes as document 01 has it. Assumes nothing.
use Rattle.std.proofs.Common.{refl, sym, ◌∙◌}
use Rattle.std.proofs.lemmas.Result.{err_from_is_err_and}
use Rattle.numbers.proofs.LittleLaws.{slice_bytes}
use Rattle.search.proofs.AcceptLaws.{behind, refused_before}
use Rattle.fields.proofs.FillLaws.{fillable_met, fill_refused, fill_one, hit_sheet_lem, call_accepted, call_refused}
use Rattle.fields.proofs.sheets.fill.Goals as goal

pub returns-in_err-met : goal.returns-in_err-met
returns-in_err-met c =
    let p = err_from_is_err_and c.from_residual.result c.from_residual.ensures.1 in
    rw (p.1, p.2) (call_refused _ _ _ _ _ (refused_before _ _ _ (sym c.in_err-met.ensures)) _ refl)

pub returns-in_err-h : goal.returns-in_err-h
returns-in_err-h c =
    let bs = slice_bytes c.args.s.now c.type_inv.s in
    let its = behind c.args.s.now c.args.id _ bs (sym c.in_ok-met.ensures) in
    let p = err_from_is_err_and c.from_residual-in_err-h.result c.from_residual-in_err-h.ensures.1 in
    rw (p.1, p.2)
    (call_accepted _ _ _ c.args.out.now _ its.accepted _ _ _ bs refl (fill_refused _ _ _ _ _ (c.in_err-h.ensures ∙ fillable_met _ _ _ its.met_is) _ refl))

pub returns : goal.returns
returns c =
    let bs = slice_bytes c.args.s.now c.type_inv.s in
    let its = behind c.args.s.now c.args.id _ bs (sym c.in_ok-met.ensures) in
    call_accepted _ _ _ c.args.out.now _ its.accepted _ _ _ bs refl
    (fill_one _ _ _ _ _ (c.in_ok-h.ensures ∙ fillable_met _ _ _ its.met_is) _ _ _ _ refl
    (λ k q. hit_sheet_lem _ _ _ its.section.sound its.section.small bs k q) c.put_sheet.ensures)
