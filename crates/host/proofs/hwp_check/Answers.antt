-- Check in the host's form. Assumes nothing.
use Rattle.numbers.proofs.LittleLaws.{slice_bytes}
use Rattle.host.proofs.ToldLaws.{check_sum}
use Rattle.host.proofs.hwp_check.Goals as goal

pub returns : goal.returns
returns c = check_sum c.args.section.now (slice_bytes c.args.section.now c.type_inv.section) c.host.ensures c.check.ensures
