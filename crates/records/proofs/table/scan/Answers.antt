-- The first pass answers as `read_answer` has it. Assumes nothing.
use Rattle.std.proofs.Common.{sym, ◌∙◌}
use Rattle.std.proofs.lemmas.Result.{err_from_is_err_and}
use Rattle.numbers.proofs.LittleLaws.{slice_bytes}
use Rattle.records.proofs.ScanLaws.{answer_too_long, scans_start, scans_first, scans_next, scans_stop, scans_fits, scans_over}
use Rattle.records.proofs.table.scan.Goals as goal
use Rattle.records.proofs.table.scan.Goals.{then-n-room, else-n-room}

pub returns-then-s-gt-LIMIT : goal.returns-then-s-gt-LIMIT
returns-then-s-gt-LIMIT c = c.refused.ensures ∙ sym (answer_too_long _ _ c.if-s-gt-LIMIT.true)

pub loop-item-init : goal.loop-item-init
loop-item-init c = rw c.into_iter-item-iterator.ensures.into_iter_gives (scans_start _ c.records_of-item-items.ensures c.if-s-gt-LIMIT.false)

pub loop-item-preserved : goal.loop-item-preserved
loop-item-preserved c =
    let bs = slice_bytes c.args.s.now c.type_inv.s in
    let g = rw c.in_ok-r.was at c.in-Some.ensures.steps in
    elim c.if-n-room.branch [
      | then-n-room w ↦ rw w.over-is (scans_first c.loop-item.invariant bs g w.if-n-room.true)
      | else-n-room w ↦ rw w.over-is (scans_next c.loop-item.invariant bs g w.if-n-room.false)
    ]

pub returns-in_err-r : goal.returns-in_err-r
returns-in_err-r c =
    let p = err_from_is_err_and c.from_residual.result c.from_residual.ensures.1 in
    rw (p.1, p.2) (scans_stop c.loop-item.invariant (rw c.in_err-r.was at c.in-Some.ensures.steps))

pub returns-in-None-over : goal.returns-in-None-over
returns-in-None-over c = scans_fits c.loop-item.invariant c.in-None.ensures.steps c.in-None-over.is

pub returns-in-Some-over : goal.returns-in-Some-over
returns-in-Some-over c = c.refused-in-Some-over.ensures ∙ scans_over c.loop-item.invariant c.in-None.ensures.steps c.in-Some-over.is
