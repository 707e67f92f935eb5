use Rattle.std.proofs.Common.{arith, sym, ◌∙◌, ◌≡◌, None}
use Rattle.std.proofs.lemmas.Result.{err_from_is_err_and}
use Rattle.numbers.proofs.LittleLaws.{slice_bytes}
use Rattle.docinfo.proofs.OnlyLaws.{only-absent, only_low, only-doubled, only_one}
use Rattle.docinfo.proofs.seek.only.Goals as goal

pub returns-in_err-r : goal.returns-in_err-r
returns-in_err-r c =
    let p = err_from_is_err_and c.from_residual.result c.from_residual.ensures.1 in
    let none : c.seek.result ≡ None = grind arith in
    rw (p.1, p.2) ((rw none at c.in_err-r.ensures.value) ∙ only-absent _ _ (sym c.seek.ensures ∙ none))

pub returns-then-r-ne0 : goal.returns-then-r-ne0
returns-then-r-ne0 c =
    only_low _ _ (slice_bytes c.args.s.now c.type_inv.s) _ (sym c.seek.ensures ∙ c.in_ok-r.ensures.ok_part) (λ q. omega arith)

pub returns-in-Some : goal.returns-in-Some
returns-in-Some c =
    only-doubled _ _ (slice_bytes c.args.s.now c.type_inv.s) _ (sym c.seek.ensures ∙ c.in_ok-r.ensures.ok_part) c.if-r-ne0.false _ (sym c.in-Some.ensures)

pub returns-in-None : goal.returns-in-None
returns-in-None c =
    only_one _ _ (slice_bytes c.args.s.now c.type_inv.s) _ (sym c.seek.ensures ∙ c.in_ok-r.ensures.ok_part) c.if-r-ne0.false (sym c.in-None.ensures)
