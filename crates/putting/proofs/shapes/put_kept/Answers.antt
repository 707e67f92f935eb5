use Rattle.std.proofs.Common.{sym}
use Rattle.numbers.proofs.LittleLaws.{slice_bytes}
use Rattle.putting.proofs.PuttingLaws.{put_as, put_then, put_none}
use Rattle.putting.proofs.KeepingLaws.{kept_not, kept_outside, kept_latest}
use Rattle.putting.proofs.shapes.put_kept.Goals as goal
use Rattle.putting.proofs.shapes.put_kept.Goals.{else-meets-via-then-meets+else-any_inside, else-meets-via-else-meets}

pub returns-then-any_inside : goal.returns-then-any_inside
returns-then-any_inside c =
    put_as
    (sym
    (kept_not c.args.change.a.0 c.args.change.b.0 c.args.change.v c.args.body.now c.args.i c.start_of-start.ensures.0 c.meets.ensures c.if-meets.true c.any_inside.ensures c.if-any_inside.true))
    (put_none c.args.sheet.now)

pub returns : goal.returns
returns c =
    let bs = slice_bytes c.args.body.now c.type_inv.body in
    put_as
    (elim c.else-meets.branch [
      | else-meets-via-then-meets+else-any_inside w ↦
          kept_latest c.args.change.a.0 c.args.change.b.0 c.args.change.v c.args.body.now c.args.i c.start_of-start.ensures.0 c.meets.ensures bs c.requires c.new_start.ensures w.any_inside.ensures w.if-any_inside.false
      | else-meets-via-else-meets w ↦
          kept_outside c.args.change.a.0 c.args.change.b.0 c.args.change.v c.args.body.now c.args.i c.start_of-start.ensures.0 c.meets.ensures bs c.requires c.new_start.ensures w.if-meets.false
    ])
    (put_then c.put_low.ensures c.put_part.ensures)
