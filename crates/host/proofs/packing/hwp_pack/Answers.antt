-- Pack in the host's form. Assumes nothing.
use Rattle.host.proofs.ToldPackLaws.{tells_pack}
use Rattle.host.proofs.packing.hwp_pack.Goals as goal

pub returns : goal.returns
returns c = tells_pack c.pack.ensures c.host.ensures
