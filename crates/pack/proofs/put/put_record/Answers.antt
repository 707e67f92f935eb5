use Rattle.std.proofs.Common.{arith}
use Rattle.records.specs.Records.{size}
use Rattle.pack.proofs.PutLaws.{put_whole, put_nothing}
use Rattle.pack.proofs.put.put_record.Goals as goal

pub returns-then-taken-out : goal.returns-then-taken-out
unfolding size
returns-then-taken-out c =
    (omega (arith, c.lead-start.ensures.0), put_whole _ _ _ _ _ c.lead-start.ensures.0 c.if-taken-out.true c.put_header.ensures c.put_all.ensures)

pub returns-else-taken-out : goal.returns-else-taken-out
unfolding size
returns-else-taken-out c = (omega (arith, c.lead-start.ensures.0), put_nothing _ _ (omega arith))
