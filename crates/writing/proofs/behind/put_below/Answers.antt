use Rattle.std.proofs.Common.{inl, inr}
use Rattle.changing.specs.Child.{field_at, record_of}
use Rattle.putting.proofs.PuttingLaws.{put_as}
use Rattle.writing.proofs.BehindLaws.{below_owned, below_beyond, below_passed}
use Rattle.writing.proofs.behind.put_below.Goals as goal

pub returns-in-Owned : goal.returns-in-Owned
returns-in-Owned c =
    put_as
    (below_owned (field_at c.args.fill.spot) c.args.fill.value.bytes.now c.args.children.n c.args.children.nth (record_of c.args.piece) c.stands_to.ensures c.in-Owned.is)
    c.put_child.ensures

pub returns-in-Beyond : goal.returns-in-Beyond
returns-in-Beyond c =
    put_as
    (elim c.in-Beyond.is [
      | inl e ↦ below_beyond (field_at c.args.fill.spot) c.args.fill.value.bytes.now c.args.children.n c.args.children.nth (record_of c.args.piece) c.stands_to.ensures e
      | inr e ↦ below_passed (field_at c.args.fill.spot) c.args.fill.value.bytes.now c.args.children.n c.args.children.nth (record_of c.args.piece) c.stands_to.ensures e
    ])
    c.put_same.ensures
