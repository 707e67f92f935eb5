-- Where the records 67 to 70 end is what `bare_in` has. Assumes nothing.
use Rattle.std.proofs.Common.{sym, ap, ◌∙◌}
use Rattle.std.specs.Prelude.{Some}
use Rattle.numbers.proofs.LittleLaws.{slice_bytes}
use Rattle.paragraph.specs.declared.stream.RecordsFrom.{RecordsFrom}
use Rattle.paragraph.proofs.StepLaws.{stepped}
use Rattle.search.proofs.BareLaws.{part_is, baring_end, baring_other, baring_on, baring_none}
use Rattle.search.proofs.passing.bare_until.Goals as goal

pub loop-r-preserved : goal.loop-r-preserved
loop-r-preserved c =
    let d = stepped (slice_bytes c.args.s.now c.type_inv.s) c.loop-r.invariant.0 c.in-Some.ensures.steps in
    let z = sym (ap (λ (p : RecordsFrom). p.at) c.in-Some.ensures.steps.1) in
    (d.stream-is, z, rw d.at-is (baring_on c.loop-r.invariant.2 d.read (part_is _ _ _ c.stands_to.ensures c.in-Owned.ensures)))

pub returns-in-Passed : goal.returns-in-Passed
returns-in-Passed c =
    let d = stepped (slice_bytes c.args.s.now c.type_inv.s) c.loop-r.invariant.0 c.in-Some.ensures.steps in
    baring_other c.loop-r.invariant.2 d.read (part_is _ _ _ c.stands_to.ensures c.in-Passed.ensures)

pub returns-in-Beyond : goal.returns-in-Beyond
returns-in-Beyond c =
    let d = stepped (slice_bytes c.args.s.now c.type_inv.s) c.loop-r.invariant.0 c.in-Some.ensures.steps in
    ap Some c.loop-r.invariant.1 ∙ baring_end c.loop-r.invariant.2 d.read (part_is _ _ _ c.stands_to.ensures c.in-Beyond.ensures)

pub returns-in-None : goal.returns-in-None
returns-in-None c =
    ap Some c.loop-r.invariant.1 ∙ baring_none c.loop-r.invariant.2 (rw c.loop-r.invariant.0 at c.in-None.ensures.steps.0)
