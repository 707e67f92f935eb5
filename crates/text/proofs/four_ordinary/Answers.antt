-- Where the first three tests hold, the last one decides.
use Rattle.std.proofs.Common.{arith, ◌∙◌, sym}
use borrow.Author.Tests.{lt-leb}
use Rattle.text.proofs.UnitLaws.{apart, four_last}
use Rattle.text.proofs.four_ordinary.Goals as goal
use Rattle.text.proofs.four_ordinary.Goals.{then-little-ge32, else-little-ge32, then-little-ge32-2, else-little-ge32-2}

pub returns-then-little-ge32-3 : goal.returns-then-little-ge32-3
returns-then-little-ge32-3 c =
    elim c.if-little-ge32-2.branch [
      | then-little-ge32-2 w ↦
          elim c.if-little-ge32.branch [
            | then-little-ge32 v ↦
                four_last _ _ (omega arith) c.little.ensures v.little-then-little-ge32.ensures w.little-then-little-ge32-2.ensures
                c.little-then-little-ge32-3.ensures v.if-little-ge32.true (sym v.value-is ∙ w.if-little-ge32-2.true) (sym w.value-is ∙ c.if-little-ge32-3.true)
            | else-little-ge32 v ↦ absurd (apart _ w.if-little-ge32-2.true (v.value-is ∙ lt-leb 32 _ v.if-little-ge32.false))
          ]
      | else-little-ge32-2 w ↦ absurd (apart _ c.if-little-ge32-3.true (w.value-is ∙ w.if-little-ge32-2.false))
    ]
