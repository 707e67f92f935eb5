use Rattle.putting.proofs.PuttingLaws.{put_as, put_then}
use Rattle.changing.proofs.ChildLaws.{put_record, text-length, text-bytes}
use Rattle.changing.proofs.child.put_text.Goals as goal

pub returns : goal.returns
returns c =
    put_record c.args.piece.tag c.args.piece.level (text-length c.args.fill.spot.a.0 c.args.fill.spot.b.0 _ _ c.byte_of-from.ensures c.byte_of-to.ensures) c.put_head.ensures
    (put_as (text-bytes c.args.fill.spot.a.0 c.args.fill.spot.b.0 _ _ c.byte_of-from.ensures c.byte_of-to.ensures)
    (put_then c.put_part.ensures (put_then c.put_run.ensures c.put_rest.ensures)))
