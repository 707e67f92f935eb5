use Rattle.std.specs.Prelude.{Some, Ok}
use Rattle.std.proofs.Common.{arith, refl, ◌≡◌}
use Rattle.records.specs.Reading.{ahead_of}
use Rattle.paragraph.proofs.StreamLaws.{Read, read_at, none_at}
use Rattle.changing.specs.Child.{field_at}
use Rattle.writing.proofs.SheetLaws.{sheet_none, sheet-short, sheet-long, body_long}
use Rattle.writing.proofs.sheet.put_sheet.Goals as goal
use Rattle.writing.proofs.sheet.put_sheet.Goals.{in_default-via-in-Some+in_default, in_default-via-in_default}

pub returns-in_default : goal.returns-in_default
returns-in_default c =
    sheet_none (field_at c.args.fill.spot) c.args.fill.value.bytes.now c.args.s.bytes.now c.args.header.0 c.put_part.ensures
    (none_at c.args.s.bytes.now c.args.header.0 _ c.record_at.ensures
    (elim c.in_default.branch [
      | in_default-via-in-Some+in_default w ↦ λ r e. cc
      | in_default-via-in_default w ↦ λ r e. cc
    ]))
    c.put_rest.ensures

pub returns-then-r-lt22 : goal.returns-then-r-lt22
returns-then-r-lt22 c =
    let e : ahead_of 1023 c.args.s.bytes.now c.args.header.0 ≡ Some (Ok c.in-Some-Ok.r) = cc in
    let d : Read c.args.s.bytes.now c.args.header.0 c.in-Some-Ok.r = read_at _ _ c.args.s.each _ e in
    sheet-short (field_at c.args.fill.spot) c.args.fill.value.bytes.now c.args.s.bytes.now c.args.header.0 c.put_part.ensures d c.if-r-lt22.true c.put_rest-then-r-lt22.ensures

pub overflow_add-n : goal.overflow_add-n
overflow_add-n c =
    let e : ahead_of 1023 c.args.s.bytes.now c.args.header.0 ≡ Some (Ok c.in-Some-Ok.r) = cc in
    let d : Read c.args.s.bytes.now c.args.header.0 c.in-Some-Ok.r = read_at _ _ c.args.s.each _ e in
    omega (arith, d.level_is, d.stands.level_high)

pub put_paragraph-requires : goal.put_paragraph-requires
put_paragraph-requires c =
    let e : ahead_of 1023 c.args.s.bytes.now c.args.header.0 ≡ Some (Ok c.in-Some-Ok.r) = cc in
    let d : Read c.args.s.bytes.now c.args.header.0 c.in-Some-Ok.r = read_at _ _ c.args.s.each _ e in
    body_long d c.piece_of-tag.result c.piece_of-tag.ensures c.if-r-lt22.false

pub returns : goal.returns
returns c =
    let e : ahead_of 1023 c.args.s.bytes.now c.args.header.0 ≡ Some (Ok c.in-Some-Ok.r) = cc in
    let d : Read c.args.s.bytes.now c.args.header.0 c.in-Some-Ok.r = read_at _ _ c.args.s.each _ e in
    sheet-long (field_at c.args.fill.spot) c.args.fill.value.bytes.now c.args.s.bytes.now c.args.header.0 c.put_part.ensures d c.piece_of-tag.result c.if-r-lt22.false refl c.piece_of-tag.ensures
    (rw c.change-change.ensures at c.count_shapes-shapes.ensures) (rw c.change-change.ensures at c.put_paragraph.ensures) c.put_behind.ensures
