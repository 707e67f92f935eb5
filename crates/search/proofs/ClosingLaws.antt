-- The unit that closes a field is the next below 32. Assumes nothing.
use Rattle.std.specs.Prelude.{None}
use Prim.Native.Nat.{ℕ, ◌+◌}
use native.Mathlib.Omega.{arith}
use mathlib.Core.Path.{◌≡◌, refl, sym, ap, ◌∙◌}
use mathlib.Core.Logic.{inl, inr}
use mathlib.Core.List.{List, [], ◌∷◌, ◌++◌}
use lib.ListN.{take, drop}
use Rattle.text.specs.Walk.{Token, tokens_at, fault_at, run}
use Rattle.text.specs.Answers.{control_at}
use Rattle.text.specs.declared.Standing.TheVariants.{Ordinary, Control}
use Rattle.text.specs.declared.Step.{Step}
use Rattle.text.specs.declared.Step.TheVariants.{Stands, Broken, End}
use Rattle.text.proofs.PartLaws.{singles}
use Rattle.text.proofs.ControlLaws.{control_stands, none_stands}
use Rattle.filling.specs.Fields.{next}
use Rattle.search.specs.Steps.{closing_of, closing_by}

-- ordinary units close nothing
next_singles : (p : ℕ) (x : List ℕ) (ts : List Token) → next (singles p x ++ ts) ≡ next ts
unfolding next singles
next_singles p [] ts = refl
next_singles p (u ∷ x) ts = next_singles (p + 1) x ts

-- the step there decides
pub closing_step : (us : List ℕ) (a : ℕ) (x : Step) → x ≡ control_at us a → fault_at us a ≡ None → closing_by x ≡ closing_of (next (tokens_at us a))
unfolding next
closing_step us a (Stands b (Ordinary u) c) e s =
    let d = control_stands us a b (Ordinary u) c (sym e) in
    absurd (let y : Ordinary u ≡ Control _ = d.begins in let z : ◌≡◌ {A = ℕ} 0 1 = cc in omega arith)
closing_step us a (Stands b (Control k) c) e s =
    let d = control_stands us a b (Control k) c (sym e) in
    ap closing_of
    (sym
    (ap next d.tokens
    ∙ next_singles a (take (run (drop a us)) (drop a us)) (tokens_at us b.0)
    ∙ ap next d.onward.tokens))
closing_step us a (Broken q) e s = ap closing_of (sym (ap next (none_stands us a (Broken q) e (inl refl) s).tokens))
closing_step us a End e s = ap closing_of (sym (ap next (none_stands us a End e (inr refl) s).tokens))
