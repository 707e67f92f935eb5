-- What a read promises, and that it leaves no choice: two outcomes that it allows are equal. Read, the section read and the DocInfo read
-- promise the same of their lists, each by its own answer. Assumes nothing.
use Rattle.records.specs.Answers.{Answer}
use Rattle.std.specs.Prelude.{◌≡◌, List, ℕ}
use Rattle.std.proofs.Common.{sym, ap, ◌∙◌}
use Rattle.records.specs.Reading.{read_all}
use Rattle.records.specs.Table.{Lists, room_in, entered, tabled}

-- a read of the stream s over the lists k, which `answers` by the stream and the room
module _ (answers : List ℕ → ℕ → Answer) (s : List ℕ) (k : Lists) where
  -- its promise, at an answer and the lists afterwards
  pub record Promised (r : Answer) (k' : Lists) : Type 0 where
    pub answer : r ≡ answers s (room_in k)
    pub table : k' ≡ tabled (entered r (read_all s).recs) k

  pub determined : {r₁ r₂ : Answer} {k₁ k₂ : Lists} → Promised r₁ k₁ → Promised r₂ k₂ → (r₁ ≡ r₂) × (k₁ ≡ k₂)
  determined a b =
      let e = a.answer ∙ sym b.answer in
      (e, a.table ∙ ap (λ (r : Answer). tabled (entered r (read_all s).recs) k) e ∙ sym b.table)
