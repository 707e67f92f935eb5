use Rattle.std.proofs.Common.{arith, rules}
use Rattle.putting.proofs.PuttingLaws.{puts_none}
use Rattle.changing.specs.Child.{field_at}
use Rattle.writing.proofs.SheetLaws.{over_stream, over_value, sheet_of_lem}
use Rattle.writing.proofs.sheet.write.Goals as goal

pub returns-in_default : goal.returns-in_default
returns-in_default c =
    rw (← over_stream (field_at c.args.spot) c.args.value.now c.args.s.now c.args.header.0 c.in_default.ensures) (puts_none _ _ (omega arith) (omega arith))

pub returns-in_default-of : goal.returns-in_default-of
returns-in_default-of c =
    rw (← over_value (field_at c.args.spot) c.args.value.now c.args.s.now c.args.header.0 (rw c.in-Some.ensures at c.in-Some.s.narrow) c.in_default-of.ensures)
    (puts_none _ _ (omega arith) (omega arith))

pub returns : goal.returns
returns c =
    let p =
    rw (sheet_of_lem (field_at c.args.spot) c.in-Some-of.value.bytes.now c.in-Some.s.bytes.now c.args.header.0 c.in-Some.s.narrow c.in-Some-of.value.narrow, c.in-Some.ensures, c.in-Some-of.ensures)
    at c.put_sheet.ensures.puts in
    search (rules, p)
