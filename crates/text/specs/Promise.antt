-- What the walk's calls promise leaves no choice: two results that a promise allows are equal. Assumes nothing.
use Rattle.std.specs.Prelude.{ℕ, ◌+◌, ◌≡◌, List, drop}
use Rattle.std.proofs.Common.{sym, ◌∙◌}
use Rattle.text.specs.Units.{units}
use Rattle.text.specs.Walk.{run}
use Rattle.text.specs.Answers.{cursor, step_at}
use Rattle.text.specs.declared.Cursor.{Cursor}
use Rattle.text.specs.declared.Step.{Step}

-- of a result that is promised to be one value there is one
pub only {ℓ} : {A : Type ℓ} {value r₁ r₂ : A} → r₁ ≡ value → r₂ ≡ value → r₁ ≡ r₂
only e₁ e₂ = e₁ ∙ sym e₂

module _ (text : List ℕ) where
  pub step_determined : (self : Cursor) {r₁ r₂ : Step} → r₁ ≡ step_at (units text) self.at.0 → r₂ ≡ step_at (units text) self.at.0 → r₁ ≡ r₂
  step_determined self = only

  pub past_determined : (self : Cursor) {r₁ r₂ : Cursor}
      → r₁ ≡ cursor (self.at.0 + run (drop self.at.0 (units text))) → r₂ ≡ cursor (self.at.0 + run (drop self.at.0 (units text))) → r₁ ≡ r₂
  past_determined self = only
