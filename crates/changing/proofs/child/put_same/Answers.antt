use Rattle.std.proofs.Common.{refl}
use Rattle.changing.proofs.ChildLaws.{put_record}
use Rattle.changing.proofs.child.put_same.Goals as goal

pub returns : goal.returns
returns c = put_record c.args.tag c.args.level refl c.put_head.ensures c.put_run.ensures
