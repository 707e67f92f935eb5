-- Field text in the host's form. Assumes nothing.
use Rattle.numbers.proofs.LittleLaws.{slice_bytes}
use Rattle.host.proofs.ToldLaws.{text-sum}
use Rattle.host.proofs.hwp_field_text.Goals as goal

pub returns : goal.returns
returns c = text-sum c.args.section.now (slice_bytes c.args.section.now c.type_inv.section) _ c.told.ensures c.field_text.ensures
