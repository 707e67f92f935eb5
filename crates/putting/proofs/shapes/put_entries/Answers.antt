use Rattle.putting.proofs.KeepingLaws.{keeping_start, keeping_next, keeping_end}
use Rattle.putting.proofs.shapes.put_entries.Goals as goal

pub loop-i-init : goal.loop-i-init
loop-i-init c = keeping_start c.args.sheet.now c.args.body.now c.args.change

pub loop-i-preserved : goal.loop-i-preserved
loop-i-preserved c = keeping_next c.args.body.now c.args.change c.loop-i.invariant c.loop-i-test.true c.put_kept.ensures

pub returns : goal.returns
returns c = keeping_end c.args.body.now c.args.change c.loop-i.invariant c.loop-i-test.false
