-- The walk of a value meets a unit below 32 where there is one. Assumes nothing.
use Rattle.std.proofs.Common.{sym, ◌∙◌}
use Rattle.fields.proofs.ValueLaws.{value_none, value_some}
use Rattle.fields.proofs.value.any_control.Goals as goal
use Rattle.fields.proofs.value.any_control.Goals.{in-End, in_default}

pub returns : goal.returns
returns c =
    elim c.match-matches.branch [
      | in-End w ↦ rw w.matches-is (value_none _ (sym c.next_control.ensures ∙ w.in-End.is))
      | in_default w ↦ rw w.matches-is (value_some _ _ c.next_control.ensures w.in_default.not-End)
    ]
