use Rattle.std.proofs.Common.{ap, ◌∙◌}
use Rattle.numbers.specs.Little.{little}
use Rattle.putting.proofs.PuttingLaws.{put_as, put_then}
use Rattle.changing.proofs.ChildLaws.{put_record, altered-length, altered-bytes}
use Rattle.changing.proofs.child.put_altered.Goals as goal

pub returns : goal.returns
returns c =
    put_record c.args.piece.tag c.args.piece.level (altered-length c.args.piece.body.bytes.now c.min-front.ensures c.saturating_sub-rest.ensures) c.put_head.ensures
    (put_as (altered-bytes _ (c.little-properties.ensures ∙ ap (little 4) c.part.ensures) (c.wide.ensures.0 ∙ c.with_bit_15.ensures))
    (put_then c.put_part.ensures (put_then c.put_low.ensures c.put_rest.ensures)))
