-- Fill in the host's form. Assumes nothing.
use Rattle.numbers.proofs.LittleLaws.{slice_bytes}
use Rattle.host.proofs.ToldLaws.{fill_sum}
use Rattle.host.proofs.hwp_fill.Goals as goal

pub returns : goal.returns
returns c = fill_sum c.args.section.now (slice_bytes c.args.section.now c.type_inv.section) c.host.ensures c.fill.ensures
