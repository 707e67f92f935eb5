use Rattle.putting.proofs.KeepingLaws.{start_is}
use Rattle.putting.proofs.shapes.start_of.Goals as goal

pub returns : goal.returns
returns c = (start_is c.args.body.now c.args.i c.little.ensures c.wide.ensures.0, c.wide.ensures.1)
