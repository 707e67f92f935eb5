-- Number 20, unit by unit. Assumes nothing.
use Prim.Native.Nat.{ℕ, ◌≤◌}
use native.Mathlib.Omega.{arith}
use mathlib.Core.Path.{◌≡◌, refl, sym, ◌∙◌}
use mathlib.Core.Bool.{Bool, true, false, ◌||◌}
use mathlib.Core.List.{List, [], ◌∷◌}
use lib.Dec.{ltb}
use borrow.Author.Tests.{le-ltb, ltb-false}
use Rattle.text.specs.Walk.{AllOrdinary}
use Rattle.text.specs.Answers.{control_at}
use Rattle.text.specs.declared.Step.{Step}
use Rattle.text.specs.declared.Step.TheVariants.{End}
use Rattle.text.proofs.ControlLaws.{control_end}
use Rattle.filling.specs.Filling.{any_below}

-- all units are from 32 up where none is below
ordinary_none : (us : List ℕ) → AllOrdinary us → any_below 32 us ≡ false
unfolding any_below
ordinary_none [] o = refl
ordinary_none (u ∷ us) o = rw (le-ltb u 32 o.0) (ordinary_none us o.1)

none_ordinary : (us : List ℕ) → any_below 32 us ≡ false → AllOrdinary us
unfolding any_below
none_ordinary [] e = tt
none_ordinary (u ∷ us) e = go (none_ordinary us) (ltb u 32) refl e
  where
    go : (any_below 32 us ≡ false → AllOrdinary us) → (b : Bool) → ltb u 32 ≡ b → (b || any_below 32 us) ≡ false → (32 ≤ u) × AllOrdinary us
    go rest true h q = absurd (let z : ◌≡◌ {A = ℕ} 0 1 = cc in omega arith)
    go rest false h q = (ltb-false u 32 h, rest q)

-- what the walk of a value meets
pub value_none : (us : List ℕ) → control_at us 0 ≡ End → false ≡ any_below 32 us
value_none us e = sym (ordinary_none us ((control_end us 0).0 e))

pub value_some : (us : List ℕ) (x : Step) → x ≡ control_at us 0 → (x ≡ End → ⊥) → true ≡ any_below 32 us
value_some us x e n = go (any_below 32 us) refl
  where
    go : (b : Bool) → any_below 32 us ≡ b → true ≡ b
    go true q = refl
    go false q = absurd (n (e ∙ (control_end us 0).1 (none_ordinary us q)))
