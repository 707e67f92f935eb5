-- The search meets what `hits` has. Assumes nothing.
use Rattle.std.proofs.Common.{arith, refl, sym}
use Rattle.numbers.proofs.LittleLaws.{slice_bytes}
use Rattle.text.proofs.ControlLaws.{control_stands, none_stands, not_control}
use Rattle.search.proofs.SearchLaws.{look_none, look_past, look_in, walking_to, walking_on, walking_twice, walking_end, walking_few, walking_sound}
use Rattle.search.proofs.seek.search.Goals as goal
use Rattle.search.proofs.seek.search.Goals.{in-Twice, in_default-matches}

pub overflow_add-number : goal.overflow_add-number
overflow_add-number c =
    let p = look_past (slice_bytes c.args.s.now c.type_inv.s) c.search.invariant _ c.in-Passed.ensures _ _ refl in
    omega (arith, p.1.1.1)

pub search-smaller-in-Passed : goal.search-smaller-in-Passed
search-smaller-in-Passed c =
    let p = look_past (slice_bytes c.args.s.now c.type_inv.s) c.search.invariant _ c.in-Passed.ensures _ _ refl in
    omega (arith, p.1.0, p.1.1.0)

pub search-preserved-in-Passed : goal.search-preserved-in-Passed
search-preserved-in-Passed c = (look_past (slice_bytes c.args.s.now c.type_inv.s) c.search.invariant _ c.in-Passed.ensures _ _ refl).0

pub loop-what-init : goal.loop-what-init
loop-what-init c =
    let e = look_in (slice_bytes c.args.s.now c.type_inv.s) c.search.invariant _ c.in-Paragraph.ensures _ refl in
    rw c.part-text.ensures e.begins

pub pass-seen-requires : goal.pass-seen-requires
pass-seen-requires c =
    let r = control_stands _ _ _ _ _ (sym c.in-Stands.ensures) in
    let k = walking_to c.loop-what.invariant r in
    (walking_few k r.onward, k.fewer)

pub new-requires : goal.new-requires
new-requires c =
    let r = control_stands _ _ _ _ _ (sym c.in-Stands.ensures) in
    walking_sound (walking_to c.loop-what.invariant r) r.onward

pub loop-what-smaller : goal.loop-what-smaller
loop-what-smaller c =
    let r = control_stands _ _ _ _ _ (sym c.in-Stands.ensures) in
    omega (arith, r.from, r.onward.rises, r.onward.fits)

pub loop-what-preserved : goal.loop-what-preserved
loop-what-preserved c =
    let r = control_stands _ _ _ _ _ (sym c.in-Stands.ensures) in
    walking_on (slice_bytes c.args.s.now c.type_inv.s) (walking_to c.loop-what.invariant r) r.onward _ c.pass-seen.ensures _ c.new.ensures c.meet-met.ensures

pub overflow_add-number-in-Paragraph : goal.overflow_add-number-in-Paragraph
overflow_add-number-in-Paragraph c =
    let e = look_in (slice_bytes c.args.s.now c.type_inv.s) c.search.invariant _ c.in-Paragraph.ensures _ refl in
    omega (arith, c.search.invariant.few, e.rises, e.inside)

pub search-smaller : goal.search-smaller
search-smaller c =
    let e = look_in (slice_bytes c.args.s.now c.type_inv.s) c.search.invariant _ c.in-Paragraph.ensures _ refl in
    omega (arith, e.rises, e.inside)

pub search-preserved : goal.search-preserved
search-preserved c =
    let e = look_in (slice_bytes c.args.s.now c.type_inv.s) c.search.invariant _ c.in-Paragraph.ensures _ refl in
    walking_end c.loop-what.invariant e.number_is
    (none_stands _ _ _ c.next_control.ensures (not_control _ c.in_default.not-Stands) c.loop-what.invariant.sound)

pub returns-in-Nothing : goal.returns-in-Nothing
returns-in-Nothing c = look_none (slice_bytes c.args.s.now c.type_inv.s) c.search.invariant _ c.in-Nothing.ensures refl

pub returns-then-matches : goal.returns-then-matches
returns-then-matches c =
    let r = control_stands _ _ _ _ _ (sym c.in-Stands.ensures) in
    let k = walking_on (slice_bytes c.args.s.now c.type_inv.s) (walking_to c.loop-what.invariant r) r.onward _ c.pass-seen.ensures _ c.new.ensures c.meet-met.ensures in
    elim c.match-matches.branch [ in-Twice w ↦ walking_twice k w.in-Twice.is | in_default-matches w ↦ cc (w.matches-is, c.if-matches.true) ]
