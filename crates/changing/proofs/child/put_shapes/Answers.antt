use Rattle.changing.proofs.ChildLaws.{put_record}
use Rattle.changing.proofs.child.put_shapes.Goals as goal

pub returns : goal.returns
returns c = put_record c.args.piece.tag c.args.piece.level c.shapes_length.ensures c.put_head.ensures c.put_entries.ensures
