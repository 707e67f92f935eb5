use Rattle.std.proofs.Common.{refl, sym, ap, ◌∙◌, arith}
use Rattle.numbers.proofs.LittleLaws.{slice_bytes}
use Rattle.text.proofs.UnitLaws.{length-units}
use Rattle.text.proofs.ControlLaws.{control_stands, none_stands, not_control}
use Rattle.paragraph.specs.Rules.{field_short}
use Rattle.paragraph.specs.declared.fields.Owned.TheVariants as K
use Rattle.paragraph.proofs.FieldLaws.{outcome, walking_start, walking_to, walking_nobody, walking_other, walking_header, walking_short, walking_lacking, walking_end}
use Rattle.judgement.proofs.RuleLaws.{exit_is, guard_breach, guard_broken, guard_kept}
use Rattle.judgement.proofs.judge.field_fault.Goals as goal

pub loop-what-init : goal.loop-what-init
loop-what-init c = walking_start _ _ _ _ c.requires

pub returns : goal.returns
returns c =
    walking_end c.loop-what.invariant (none_stands _ _ _ c.next_control.ensures (not_control _ c.in_default.not-Stands) c.loop-what.invariant.sound)

pub loop-what-smaller-in-Nobody : goal.loop-what-smaller-in-Nobody
loop-what-smaller-in-Nobody c =
    let d = control_stands _ _ _ _ _ (sym c.in-Stands.ensures) in
    omega (arith, d.from, d.onward.rises, d.onward.fits)

pub loop-what-preserved-in-Nobody : goal.loop-what-preserved-in-Nobody
loop-what-preserved-in-Nobody c =
    let d = control_stands _ _ _ _ _ (sym c.in-Stands.ensures) in
    walking_nobody (walking_to c.loop-what.invariant d) d.onward
    (outcome c.args.s.now (slice_bytes c.args.s.now c.type_inv.s) _ _ _ _ _ K.Nobody c.owned_header.ensures c.in-Nobody.is)

pub returns-in-Lacking : goal.returns-in-Lacking
returns-in-Lacking c =
    let d = control_stands _ _ _ _ _ (sym c.in-Stands.ensures) in
    walking_lacking (walking_to c.loop-what.invariant d) d.onward
    (outcome c.args.s.now (slice_bytes c.args.s.now c.type_inv.s) _ _ _ _ _ K.Lacking c.owned_header.ensures c.in-Lacking.is)

pub overflow_add-skipped : goal.overflow_add-skipped
overflow_add-skipped c =
    let d = control_stands _ _ _ _ _ (sym c.in-Stands.ensures) in
    let w = walking_to c.loop-what.invariant d in
    omega (arith, w.few, w.fewer, d.onward.rises, d.onward.fits, length-units c.args.text.now)

pub overflow_add-nth : goal.overflow_add-nth
overflow_add-nth c =
    let d = control_stands _ _ _ _ _ (sym c.in-Stands.ensures) in
    let w = walking_to c.loop-what.invariant d in
    omega (arith, w.few, d.onward.rises, d.onward.fits, length-units c.args.text.now)

pub loop-what-smaller-in-Other : goal.loop-what-smaller-in-Other
loop-what-smaller-in-Other c =
    let d = control_stands _ _ _ _ _ (sym c.in-Stands.ensures) in
    omega (arith, d.from, d.onward.rises, d.onward.fits)

pub loop-what-preserved-in-Other : goal.loop-what-preserved-in-Other
loop-what-preserved-in-Other c =
    let d = control_stands _ _ _ _ _ (sym c.in-Stands.ensures) in
    walking_other (walking_to c.loop-what.invariant d) d.onward
    (outcome c.args.s.now (slice_bytes c.args.s.now c.type_inv.s) _ _ _ _ _ K.Other c.owned_header.ensures c.in-Other.is)

pub returns-in_err-broken_if-in-Header : goal.returns-in_err-broken_if-in-Header
returns-in_err-broken_if-in-Header c =
    let d = control_stands _ _ _ _ _ (sym c.in-Stands.ensures) in
    exit_is _ _ c.from_residual.ensures.1
    ∙ guard_breach _ c.broken_if.ensures refl _ c.in_err-broken_if-in-Header.was
    ∙ walking_short (walking_to c.loop-what.invariant d) d.onward c.in-Header.r
    (outcome c.args.s.now (slice_bytes c.args.s.now c.type_inv.s) _ _ _ _ _ (K.Header c.in-Header.r) c.owned_header.ensures c.in-Header.is)
    (guard_broken _ c.broken_if.ensures (c.field_short.ensures ∙ ap field_short c.body.ensures) _ c.in_err-broken_if-in-Header.was)

pub overflow_add-nth-in-Header : goal.overflow_add-nth-in-Header
overflow_add-nth-in-Header c =
    let d = control_stands _ _ _ _ _ (sym c.in-Stands.ensures) in
    let w = walking_to c.loop-what.invariant d in
    omega (arith, w.few, d.onward.rises, d.onward.fits, length-units c.args.text.now)

pub loop-what-smaller : goal.loop-what-smaller
loop-what-smaller c =
    let d = control_stands _ _ _ _ _ (sym c.in-Stands.ensures) in
    omega (arith, d.from, d.onward.rises, d.onward.fits)

pub loop-what-preserved : goal.loop-what-preserved
loop-what-preserved c =
    let d = control_stands _ _ _ _ _ (sym c.in-Stands.ensures) in
    walking_header (walking_to c.loop-what.invariant d) d.onward c.in-Header.r
    (outcome c.args.s.now (slice_bytes c.args.s.now c.type_inv.s) _ _ _ _ _ (K.Header c.in-Header.r) c.owned_header.ensures c.in-Header.is)
    (guard_kept _ c.broken_if.ensures (c.field_short.ensures ∙ ap field_short c.body.ensures) c.in_ok-broken_if-in-Header.was)
