-- What check promises leaves no choice: two answers that it allows are equal. (Of the section read `determined` in records says it.)
-- Assumes nothing.
use Rattle.records.specs.Answers.{Answer}
use Rattle.std.specs.Prelude.{◌≡◌, List, ℕ}
use Rattle.std.proofs.Common.{sym, ◌∙◌}
use Rattle.section.specs.Section.{check_answer}

pub check_determined : (s : List ℕ) {r₁ r₂ : Answer} → r₁ ≡ check_answer s → r₂ ≡ check_answer s → r₁ ≡ r₂
check_determined s a b = a ∙ sym b
