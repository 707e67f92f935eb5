use Rattle.std.proofs.Common.{◌∙◌}
use Rattle.search.proofs.ClosingLaws.{closing_step}
use Rattle.search.proofs.seek.closed_by.Goals as goal

pub returns : goal.returns
returns c = c.closing_at.ensures ∙ closing_step _ _ _ c.next_control.ensures c.args.from.sound
