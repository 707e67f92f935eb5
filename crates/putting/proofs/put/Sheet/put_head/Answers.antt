use Rattle.std.proofs.Common.{refl}
use Rattle.putting.proofs.PuttingLaws.{put_as, head_of_lem}
use Rattle.putting.proofs.put.Sheet.put_head.Goals as goal

pub returns : goal.returns
returns c = put_as (head_of_lem _ _ _ _ _ _ refl c.lead.ensures.0 c.put_header.ensures) c.put_part.ensures
