use Rattle.std.proofs.Common.{arith, ◌∙◌}
use Rattle.docinfo.specs.Widths.{count_bytes}
use Rattle.docinfo.specs.declared.widths.Width.TheVariants as N
use Rattle.docinfo.proofs.AnswerLaws.{bodies_17, bodies_18}
use Rattle.docinfo.proofs.read.judge_bodies.Goals as goal

pub returns-in-Some-Bits16 : goal.returns-in-Some-Bits16
unfolding count_bytes
returns-in-Some-Bits16 c =
    c.judge_mappings.ensures
    ∙ bodies_18 _ _ _ _ c.requires (omega arith) N.Bits16 (rw c.in-Some-Bits16.field-0-is at c.in-Some-Bits16.ensures)

pub returns-in-Some-Bits32 : goal.returns-in-Some-Bits32
unfolding count_bytes
returns-in-Some-Bits32 c =
    c.judge_mappings-in-Some-Bits32.ensures
    ∙ bodies_18 _ _ _ _ c.requires (omega arith) N.Bits32 (rw c.in-Some-Bits32.field-0-is at c.in-Some-Bits32.ensures)

pub returns-in-None : goal.returns-in-None
returns-in-None c = c.refused-in-None.ensures ∙ bodies_17 _ _ _ _ c.requires (omega arith) c.in-None.ensures
