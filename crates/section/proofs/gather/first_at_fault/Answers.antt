use Rattle.std.proofs.Common.{arith}
use Rattle.section.proofs.ParagraphLaws.{windows_none, windows_next, windows_all}
use Rattle.section.proofs.gather.first_at_fault.Goals as goal

pub loop-lo-init : goal.loop-lo-init
loop-lo-init c = (windows_none _, tt)

pub loop-lo-preserved : goal.loop-lo-preserved
loop-lo-preserved c = windows_next _ _ _ _ c.loop-lo.invariant c.gather.ensures c.sooner-first.ensures

pub returns : goal.returns
returns c =
    let w = c.args.whole in
    let k = c.loop-lo.invariant in
    (windows_all _ _ _ _ w.bytes w.ends k.0 w.depth w.low (omega arith), k.1)

pub returns-2 : goal.returns-2
returns-2 c =
    let w = c.args.whole in
    let k = windows_next _ _ _ _ c.loop-lo.invariant c.gather.ensures c.sooner-first.ensures in
    (windows_all _ _ _ _ w.bytes w.ends k.0 w.depth w.low (omega arith), k.1)
