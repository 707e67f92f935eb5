use Rattle.std.proofs.Common.{ap, arith, refl, sym, ◌∙◌}
use Rattle.std.proofs.lemmas.Result.{err_from_is_err_and}
use Rattle.numbers.proofs.LittleLaws.{slice_bytes}
use Rattle.records.proofs.ScanLaws.{answer_too_long}
use Rattle.records.proofs.StepLaws.{stepped, stopped_at, ended_at}
use Rattle.records.specs.declared.fault.Offset.{Offset}
use Rattle.section.proofs.OpeningLaws.{opening_start, opening_few, opening_seated, opening_stray, opening_stop, opening_read, opening_first, opening_small, opening_ends, opening_depth}
use Rattle.section.proofs.ParagraphLaws.{read_deepest}
use Rattle.section.proofs.opening.first_pass.Goals as goal
use Rattle.section.proofs.opening.first_pass.Goals.{then-strays, else-strays}

pub returns-then-s-gt-LIMIT : goal.returns-then-s-gt-LIMIT
returns-then-s-gt-LIMIT c = rw c.refused.ensures (λ room. answer_too_long _ room c.if-s-gt-LIMIT.true)

pub loop-item-init : goal.loop-item-init
loop-item-init c =
    let e = c.records_of-item-items.ensures in
    rw c.into_iter-item-iterator.ensures.into_iter_gives
    (e.0, opening_start _ _ (ap (λ (p : Offset). p.0) e.1) e.2 c.if-s-gt-LIMIT.false refl refl)

pub returns-in_err-r : goal.returns-in_err-r
returns-in_err-r c =
    let k = c.loop-item.invariant in
    let p = err_from_is_err_and c.from_residual.result c.from_residual.ensures.1 in
    rw (p.1, p.2) (opening_stop k.1 _ (stopped_at c.loop-item.item-iterator k.0 (rw c.in_err-r.was at c.in-Some.ensures.steps)))

pub strays-requires-clause-low : goal.strays-requires-clause-low
strays-requires-clause-low c =
    let d = stepped _ c.loop-item.invariant.0 (slice_bytes c.args.s.now c.type_inv.s) (rw c.in_ok-r.was at c.in-Some.ensures.steps) in
    omega (arith, d.here.level_is, d.here.obeys.level_high)

pub overflow_add-n : goal.overflow_add-n
overflow_add-n c = omega (arith, opening_few c.loop-item.invariant.1)

pub loop-item-preserved : goal.loop-item-preserved
loop-item-preserved c =
    let d = stepped _ c.loop-item.invariant.0 (slice_bytes c.args.s.now c.type_inv.s) (rw c.in_ok-r.was at c.in-Some.ensures.steps) in
    let k = c.loop-item.invariant.1 in
    let m = c.max-deepest.ensures in
    let w = c.strays.ensures in (
      d.stream-is,
      rw (d.at-is, d.cap-is)
          (elim c.if-strays.branch [
            | then-strays v ↦ rw (v.stray-is, v.or-stray.ensures) (opening_stray k d.here d.at_r _ _ m w.1 (sym v.if-strays.true ∙ w.0))
            | else-strays v ↦ rw v.stray-is (opening_seated k d.here d.at_r _ _ m w.1 (sym v.if-strays.false ∙ w.0))
          ]),
    )

pub invariant_of-result : goal.invariant_of-result
invariant_of-result c =
    let k = c.loop-item.invariant in
    let e = ended_at c.loop-item.item-iterator k.0 c.in-None.ensures.steps in
    let bs = slice_bytes c.args.s.now c.type_inv.s in
    record {
      bytes = bs;
      small = opening_small k.1 e;
      ends = opening_ends k.1 e;
      depth = opening_depth k.1 e;
      low = read_deepest c.args.s.now bs (opening_ends k.1 e) _ (opening_depth k.1 e);
    }

pub returns : goal.returns
returns c =
    let k = c.loop-item.invariant in
    let e = ended_at c.loop-item.item-iterator k.0 c.in-None.ensures.steps in
    (opening_read k.1 e, opening_first k.1 e, refl)
