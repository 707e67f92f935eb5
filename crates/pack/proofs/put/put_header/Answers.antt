use Rattle.std.proofs.Common.{arith}
use Rattle.pack.proofs.PutLaws.{put-long, put_no_header}
use Rattle.pack.proofs.put.put_header.Goals as goal

pub returns-then-out-ge8 : goal.returns-then-out-ge8
returns-then-out-ge8 c =
    put-long _ _ _ _ _ _ _ (omega arith) c.if-out-ge8.true c.word-then-out-ge8.ensures c.put_little-then-out-ge8.ensures
    c.put_little-then-out-ge8-2.ensures

pub returns-else-out-ge8 : goal.returns-else-out-ge8
returns-else-out-ge8 c = put_no_header _ _ _ _ (omega arith) c.if-out-ge8.false
