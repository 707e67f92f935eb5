use Rattle.changing.proofs.HeadLaws.{recount_is}
use Rattle.changing.proofs.head.recount.Goals as goal

pub returns : goal.returns
returns c = recount_is _ _ _ _ c.requires c.wide.ensures.0 c.gone.ensures.0 c.saturating_sub.ensures
