-- Field text behind the search, where `text_answer` has it. Assumes nothing.
use Rattle.std.proofs.Common.{arith, refl, sym}
use Rattle.std.proofs.lemmas.Result.{err_from_is_err_and}
use Rattle.numbers.proofs.LittleLaws.{slice_bytes}
use Rattle.search.proofs.AcceptLaws.{refused_before}
use Rattle.fields.proofs.AcceptLaws.{text_not, field_refused, field_bounds, field_found}
use Rattle.fields.proofs.outcome.field_text.Goals as goal

pub returns-in_err-search_section : goal.returns-in_err-search_section
returns-in_err-search_section c =
    let p = err_from_is_err_and c.from_residual.result c.from_residual.ensures.1 in
    rw (p.1, p.2) (text_not _ _ _ (refused_before _ _ _ (sym c.in_err-search_section.ensures)) _ refl)

pub returns-in_err-h : goal.returns-in_err-h
returns-in_err-h c =
    let p = err_from_is_err_and c.from_residual-in_err-h.result c.from_residual-in_err-h.ensures.1 in
    rw (p.1, p.2) (field_refused _ _ _ (slice_bytes c.args.s.now c.type_inv.s) c.in_ok-search_section.ensures _ c.in_err-h.ensures)

pub overflow_sub-result : goal.overflow_sub-result
overflow_sub-result c = (field_bounds _ _ _ (slice_bytes c.args.s.now c.type_inv.s) c.in_ok-search_section.ensures _ c.in_ok-h.ensures).0

pub overflow_mul-result : goal.overflow_mul-result
overflow_mul-result c =
    let b = field_bounds _ _ _ (slice_bytes c.args.s.now c.type_inv.s) c.in_ok-search_section.ensures _ c.in_ok-h.ensures in
    omega (arith, b.1)

pub returns : goal.returns
returns c = field_found _ _ _ (slice_bytes c.args.s.now c.type_inv.s) c.in_ok-search_section.ensures _ c.in_ok-h.ensures c.unit_place.ensures
