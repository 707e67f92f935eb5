use Rattle.std.proofs.Common.{arith}
use Rattle.section.proofs.SweepLaws.{sweeps_next, sweeps_all}
use Rattle.section.proofs.parents.find_stray.Goals as goal

pub loop-lo-preserved : goal.loop-lo-preserved
loop-lo-preserved c = sweeps_next _ _ c.loop-lo.invariant c.sweep.ensures c.sooner-first.ensures

pub returns : goal.returns
returns c = let w = c.args.whole in sweeps_all _ _ _ w.bytes c.loop-lo.invariant w.depth (omega arith)

pub returns-2 : goal.returns-2
returns-2 c =
    let w = c.args.whole in
    sweeps_all _ _ _ w.bytes (sweeps_next _ _ c.loop-lo.invariant c.sweep.ensures c.sooner-first.ensures) w.depth (omega arith)
