-- The search of a section stands behind check. Assumes nothing.
use Rattle.std.proofs.Common.{refl, sym}
use Rattle.std.proofs.lemmas.Result.{err_from_is_err_and}
use Rattle.numbers.proofs.LittleLaws.{slice_bytes}
use Rattle.search.proofs.AcceptLaws.{sectioned, search_met, search_not}
use Rattle.search.proofs.seek.search_section.Goals as goal

pub returns-in_err-check : goal.returns-in_err-check
returns-in_err-check c =
    let p = err_from_is_err_and c.from_residual.result c.from_residual.ensures.1 in
    rw (p.1, p.2) (search_not _ _ _ c.in_err-check.ensures _ refl)

pub search-requires : goal.search-requires
search-requires c = (sectioned _ (slice_bytes c.args.s.now c.type_inv.s) _ (sym c.in_ok-check.ensures)).sound.keep

pub returns : goal.returns
returns c = search_met _ _ _ c.in_ok-check.ensures _ (slice_bytes c.args.s.now c.type_inv.s) refl c.search.ensures
