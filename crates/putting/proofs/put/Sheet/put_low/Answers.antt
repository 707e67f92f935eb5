use Rattle.std.proofs.Common.{refl, ap, take}
use Rattle.putting.proofs.PuttingLaws.{put_as, low_of}
use Rattle.putting.proofs.put.Sheet.put_low.Goals as goal

pub returns : goal.returns
returns c = put_as (ap (take c.args.n) (low_of c.args.w _ _ refl c.put_little.ensures)) c.put_part.ensures
