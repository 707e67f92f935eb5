use Rattle.std.proofs.Common.{arith}
use Rattle.pack.proofs.LayLaws.{body_inside, laying_room, laying_next, laying_end}
use Rattle.pack.proofs.lay.lay.Goals as goal

pub body-requires : goal.body-requires
body-requires c = body_inside _ _ c.loop-i.invariant c.loop-i-test.true c.row-row.ensures.is

pub overflow_add-at : goal.overflow_add-at
overflow_add-at c =
    omega (
      arith,
      laying_room _ _ c.loop-i.invariant c.loop-i-test.true c.row-row.ensures.is _ c.body.ensures c.put_record-at.ensures.0,
    )

pub loop-i-preserved : goal.loop-i-preserved
loop-i-preserved c =
    laying_next _ _ c.loop-i.invariant c.loop-i-test.true c.row-row.ensures.is _ c.body.ensures c.put_record-at.ensures.0
    c.put_record-at.ensures.1

pub returns : goal.returns
returns c = laying_end _ _ c.loop-i.invariant c.loop-i-test.false c.requires.lengths_in_bounds
