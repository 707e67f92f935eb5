use Rattle.std.proofs.Common.{ap, arith, refl, sym, ◌∙◌}
use lib.ListN.{replicate}
use Rattle.numbers.proofs.LittleLaws.{slice_bytes}
use Rattle.records.proofs.StepLaws.{stepped, none_stopped, none_ended}
use Rattle.records.specs.declared.fault.Offset.{Offset}
use Rattle.section.proofs.StrayLaws.{placing_start, placing_stray, placing_next, placing_far, placing_end}
use Rattle.section.proofs.parents.sweep.Goals as goal
use Rattle.section.proofs.parents.sweep.Goals.{else-inside-via-then-inside+else-strays, else-inside-via-else-inside}

pub loop-item-init : goal.loop-item-init
loop-item-init c =
    let e = c.records_of-item-items.ensures in
    rw c.into_iter-item-iterator.ensures.into_iter_gives (e.0, placing_start _ _ (replicate 200 16) (ap (λ (p : Offset). p.0) e.1) e.2 refl refl)

pub returns-in_default : goal.returns-in_default
returns-in_default c =
    let k = c.loop-item.invariant in
    placing_end k.1 (none_stopped c.loop-item.item-iterator k.0 (rw c.in_default.is at c.in-Some.ensures.steps))

pub overflow_add-r : goal.overflow_add-r
overflow_add-r c =
    let d = stepped _ c.loop-item.invariant.0 (slice_bytes c.args.s.now c.type_inv.s) (rw c.in-Ok.is at c.in-Some.ensures.steps) in
    omega (arith, d.here.level_is, d.here.obeys.level_high)

pub strays-requires-clause-low : goal.strays-requires-clause-low
strays-requires-clause-low c =
    let d = stepped _ c.loop-item.invariant.0 (slice_bytes c.args.s.now c.type_inv.s) (rw c.in-Ok.is at c.in-Some.ensures.steps) in
    omega (arith, d.here.level_is, d.here.obeys.level_high)

pub returns-then-strays : goal.returns-then-strays
returns-then-strays c =
    let d = stepped _ c.loop-item.invariant.0 (slice_bytes c.args.s.now c.type_inv.s) (rw c.in-Ok.is at c.in-Some.ensures.steps) in
    placing_stray c.loop-item.invariant.1 d.here _ c.strays.ensures.0 c.if-strays.true _ d.at_r

pub loop-item-preserved : goal.loop-item-preserved
loop-item-preserved c =
    let d = stepped _ c.loop-item.invariant.0 (slice_bytes c.args.s.now c.type_inv.s) (rw c.in-Ok.is at c.in-Some.ensures.steps) in
    let k = c.loop-item.invariant.1 in (
      d.stream-is,
      rw (d.at-is, d.cap-is)
          (elim c.else-inside.branch [
            | else-inside-via-then-inside+else-strays w ↦
                rw w.table-is (placing_next k d.here _ w.strays.ensures.0 _ w.strays.ensures.1 w.if-strays.false)
            | else-inside-via-else-inside w ↦ rw w.table-is (placing_far k d.here (sym c.inside.ensures ∙ w.if-inside.false))
          ]),
    )

pub returns : goal.returns
returns c =
    let k = c.loop-item.invariant in
    placing_end k.1 (none_ended c.loop-item.item-iterator k.0 c.in-None.ensures.steps)
