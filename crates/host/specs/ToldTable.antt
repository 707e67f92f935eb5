-- What a read tells: an answer and lists that the read promises, and the answer's sum; and that it leaves no choice. Said once, over what the
-- read answers. Assumes nothing.
use Rattle.records.specs.Answers.{Answer, sum_of}
use Rattle.std.specs.Prelude.{ℕ, ◌≡◌, List}
use Rattle.std.proofs.Common.{sym, ap, ◌∙◌}
use Rattle.records.specs.Table.{Lists}
use Rattle.records.specs.Promise.{Promised, determined}

module _ (answers : List ℕ → ℕ → Answer) (s : List ℕ) (k : Lists) where
  pub record ToldTable (told : ℕ) (k' : Lists) : Type 0 where
    pub answer : Answer
    pub promised : Promised answers s k answer k'
    pub sum : told ≡ sum_of answer

  pub table_told : {m₁ m₂ : ℕ} {k₁ k₂ : Lists} → ToldTable m₁ k₁ → ToldTable m₂ k₂ → (m₁ ≡ m₂) × (k₁ ≡ k₂)
  table_told a b = let d = determined answers s k a.promised b.promised in (a.sum ∙ ap sum_of d.0 ∙ sym b.sum, d.1)
