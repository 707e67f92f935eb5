use Rattle.std.proofs.Common.{◌∙◌}
use Rattle.section.proofs.SlotLaws.{slots_next, slots_end, sooner_known}
use Rattle.section.proofs.gather.judge_slots.Goals as goal

pub loop-slot-init : goal.loop-slot-init
loop-slot-init c = (slots_end _ _, tt)

pub loop-slot-preserved : goal.loop-slot-preserved
loop-slot-preserved c =
    let k = sooner_known _ _ _ c.loop-slot.invariant c.judge.ensures c.sooner-first.ensures in
    (k.0 ∙ slots_next _ _ _, k.1)
