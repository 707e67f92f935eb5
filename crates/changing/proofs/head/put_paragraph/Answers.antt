use Rattle.putting.proofs.PuttingLaws.{put_as, put_then}
use Rattle.changing.proofs.ChildLaws.{put_record}
use Rattle.changing.proofs.HeadLaws.{head_length, head_bytes}
use Rattle.changing.proofs.head.put_paragraph.Goals as goal

pub returns : goal.returns
returns c =
    put_record c.args.tag c.args.level (head_length c.args.change.a.0 c.args.change.b.0 c.args.change.v c.args.shapes c.args.body.now c.requires) c.put_head.ensures
    (put_as
    (head_bytes c.args.change.a.0 c.args.change.b.0 c.args.change.v c.args.shapes c.args.body.now c.requires c.little.ensures c.wide.ensures.0 c.recount.ensures)
    (put_then c.put_low.ensures
    (put_then c.put_part.ensures (put_then c.put_low-2.ensures (put_then c.put_part-2.ensures (put_then c.put_low-3.ensures c.put_rest.ensures))))))
