-- What field text and fill promise, and that it leaves no choice: two outcomes that it allows are equal. Assumes nothing.
use Rattle.filling.specs.Filling.{TextAnswer}
use Rattle.records.specs.Answers.{Answer}
use Rattle.std.specs.Prelude.{ℕ, ◌≡◌, List, length}
use Rattle.std.proofs.Common.{sym, ◌∙◌}
use Rattle.records.specs.Table.{written}
use Rattle.orders.specs.Calls.{field_text_of, fill_of, sheet_of}

-- the promise of field text is its answer
pub text_determined : (s : List ℕ) (id : ℕ) {r₁ r₂ : TextAnswer} → r₁ ≡ field_text_of s id → r₂ ≡ field_text_of s id → r₁ ≡ r₂
text_determined s id a b = a ∙ sym b

module _ (s : List ℕ) (id : ℕ) (value out : List ℕ) where
  -- the promise of fill, at an answer and the buffer afterwards
  pub record Filled (r : Answer) (out' : List ℕ) : Type 0 where
    pub answer : r ≡ fill_of s id value (length out)
    pub sheet : out' ≡ written (sheet_of s id value (length out)) out

  pub fill_determined : {r₁ r₂ : Answer} {o₁ o₂ : List ℕ} → Filled r₁ o₁ → Filled r₂ o₂ → (r₁ ≡ r₂) × (o₁ ≡ o₂)
  fill_determined a b = (a.answer ∙ sym b.answer, a.sheet ∙ sym b.sheet)
