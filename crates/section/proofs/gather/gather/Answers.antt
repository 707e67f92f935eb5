use Rattle.std.proofs.Common.{arith, refl, sym, ◌∙◌}
use Rattle.paragraph.proofs.StepLaws.{stepped}
use Rattle.section.proofs.SlotLaws.{sooner_known}
use Rattle.section.proofs.GatherLaws.{empty_slots, given, gathers_start, gathers_ready, gathers_held, gathers_unheld, gathers_far, gathers_place, gathers_level, gathers_last, gathers_first}
use Rattle.section.proofs.gather.gather.Goals as goal
use Rattle.section.proofs.gather.gather.Goals.{in-Some-held, in_default}

pub loop-r-init : goal.loop-r-init
loop-r-init c =
    let w = c.args.whole in
    let e = c.records_from-r-items.ensures in
    rw (c.into_iter-r-iterator.ensures.into_iter_gives, e.0, e.1)
    (refl, gathers_start _ _ _ w.bytes w.small w.ends refl (empty_slots 16 _ c.of-slots.ensures), tt)

pub overflow_add-below : goal.overflow_add-below
overflow_add-below c =
    let k = c.loop-r.invariant in
    omega (arith, gathers_level k.1 (given c.args.whole.bytes k.0 c.in-Some.ensures.steps))

pub overflow_add-place : goal.overflow_add-place
overflow_add-place c =
    let k = c.loop-r.invariant in
    omega (arith, gathers_place k.1 (given c.args.whole.bytes k.0 c.in-Some.ensures.steps))

pub overflow_cast-place : goal.overflow_cast-place
overflow_cast-place c =
    let k = c.loop-r.invariant in
    omega (arith, gathers_place k.1 (given c.args.whole.bytes k.0 c.in-Some.ensures.steps))

pub bounds-slots-i : goal.bounds-slots-i
bounds-slots-i c =
    let k = c.loop-r.invariant in
    (gathers_ready k.1 (given c.args.whole.bytes k.0 c.in-Some.ensures.steps) c.note_child.ensures c.in-Some-held.ensures).0

pub judge-requires : goal.judge-requires
judge-requires c =
    let k = c.loop-r.invariant in
    (gathers_ready k.1 (given c.args.whole.bytes k.0 c.in-Some.ensures.steps) c.note_child.ensures c.in-Some-held.ensures).1

pub loop-r-preserved-then-inside : goal.loop-r-preserved-then-inside
loop-r-preserved-then-inside c =
    let k = c.loop-r.invariant in
    let g = given c.args.whole.bytes k.0 c.in-Some.ensures.steps in
    let d = stepped c.args.whole.bytes k.0 c.in-Some.ensures.steps in
    elim c.match-held.branch [
      | in-Some-held w ↦
          let b = sooner_known _ _ _ (refl, k.2) w.judge.ensures w.sooner-first.ensures in
          rw (w.first-is, d.at-is) (d.stream-is, gathers_held k.1 g c.note_child.ensures c.take_own.ensures w.in-Some-held.ensures refl b.0, b.1)
      | in_default w ↦
          rw (w.first-is, d.at-is) (d.stream-is, gathers_unheld k.1 g c.note_child.ensures c.take_own.ensures w.in_default.ensures, k.2)
    ]

pub loop-r-preserved : goal.loop-r-preserved
loop-r-preserved c =
    let k = c.loop-r.invariant in
    let d = stepped c.args.whole.bytes k.0 c.in-Some.ensures.steps in (
      d.stream-is,
      rw d.at-is (gathers_far k.1 (given c.args.whole.bytes k.0 c.in-Some.ensures.steps) (sym c.inside.ensures ∙ c.if-inside.false)),
      k.2,
    )

pub judge_slots-requires : goal.judge_slots-requires
judge_slots-requires c = let k = c.loop-r.invariant in gathers_last k.1 (rw k.0 at c.in-None.ensures.steps.0)

pub returns : goal.returns
returns c =
    let k = c.loop-r.invariant in
    let b = sooner_known _ _ _ (refl, k.2) c.judge_slots.ensures c.sooner.ensures in
    (b.0 ∙ gathers_first k.1 (rw k.0 at c.in-None.ensures.steps.0) _ refl, b.1)
