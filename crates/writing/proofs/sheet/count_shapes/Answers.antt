use Rattle.numbers.proofs.LittleLaws.{slice_bytes}
use Rattle.writing.proofs.SheetLaws.{shapes_counted}
use Rattle.writing.proofs.sheet.count_shapes.Goals as goal

pub returns : goal.returns
returns c =
    shapes_counted c.args.s.now (slice_bytes c.args.s.now c.type_inv.s) c.args.n c.args.behind.0 c.args.change.a.0 c.args.change.b.0 c.args.change.v
    c.find.ensures c.bytes.ensures c.shapes_length.ensures
