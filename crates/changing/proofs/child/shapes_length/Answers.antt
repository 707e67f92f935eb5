use Rattle.std.proofs.Common.{arith}
use Rattle.changing.proofs.ChildLaws.{shapes_measured}
use Rattle.changing.proofs.child.shapes_length.Goals as goal

pub returns : goal.returns
returns c = shapes_measured c.args.change.a.0 c.args.change.b.0 c.args.change.v _ (omega arith) c.put_entries.ensures.puts
