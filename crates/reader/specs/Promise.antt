-- What the reader's calls promise leaves no choice: two results that a promise allows are equal. Assumes nothing.
use Rattle.std.specs.Prelude.{ℕ, ◌≡◌, List}
use Rattle.std.specs.Borrow.{Bor}
use Rattle.text.specs.Promise.{only}
use Rattle.text.specs.Units.{units}
use Rattle.text.specs.Answers.{control_at, judged, Judged}
use Rattle.text.specs.declared.Position.{Position}
use Rattle.text.specs.declared.Step.{Step}
use Rattle.reader.specs.Reading.{reader, ahead, standing}
use Rattle.reader.specs.declared.Reader.{Reader}

module _ (text : Bor (List ℕ)) where
  pub walk_determined : (at : Position) {r₁ r₂ : Reader} → r₁ ≡ reader text at → r₂ ≡ reader text at → r₁ ≡ r₂
  walk_determined at = only

  pub next_determined : (from : Position) {s₁ s₂ : Step} → s₁ ≡ control_at (units text.now) from.0 → s₂ ≡ control_at (units text.now) from.0 → s₁ ≡ s₂
  next_determined from = only

  pub judge_determined : {r₁ r₂ : Judged} → r₁ ≡ judged (units text.now) → r₂ ≡ judged (units text.now) → r₁ ≡ r₂
  judge_determined = only

module _ (r : Reader) where
  pub past_determined : {q₁ q₂ : Reader} → q₁ ≡ ahead r → q₂ ≡ ahead r → q₁ ≡ q₂
  past_determined = only

  pub stands_determined : {s₁ s₂ : Step} → s₁ ≡ standing r → s₂ ≡ standing r → s₁ ≡ s₂
  stands_determined = only
