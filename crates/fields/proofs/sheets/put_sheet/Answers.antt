-- The sheet is measured, judged and written. Assumes nothing.
use Rattle.std.proofs.Common.{arith}
use Rattle.fields.proofs.FillLaws.{sheet-put}
use Rattle.fields.proofs.sheets.put_sheet.Goals as goal

pub returns : goal.returns
returns c = sheet-put _ _ _ c.measure-n.ensures _ _ (omega arith) (omega arith) c.write.ensures
