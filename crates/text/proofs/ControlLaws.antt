-- The step at the next unit below 32. Assumes nothing.
use Rattle.std.specs.Prelude.{None, Option, Some}
use Prim.Native.Nat.{ℕ, ◌+◌, ◌≤◌, ◌<◌}
use native.Mathlib.Omega.{arith}
use mathlib.Core.Path.{◌≡◌, refl, sym, ap, ◌∙◌}
use mathlib.Core.Logic.{◌↔◌, inl, inr}
use mathlib.Core.List.{List, [], ◌∷◌, ◌++◌}
use lib.ListN.{length, get_or, take, drop, length-drop}
use Rattle.text.specs.Asked.{control}
use Rattle.text.specs.Walk.{tokens_at, AllOrdinary, fault_at, run, extended_in}
use Rattle.text.specs.Answers.{control_at}
use Rattle.text.specs.declared.Position.{Position}
use Rattle.text.specs.declared.Cursor.{Cursor}
use Rattle.text.specs.declared.Standing.{Standing}
use Rattle.text.specs.declared.Standing.TheVariants.{Control}
use Rattle.text.specs.declared.Step.{Step}
use Rattle.text.specs.declared.Step.TheVariants.{Stands, Broken, End}
use denote.Enum.Declared.{tag_of}
use types.Run.{OneOf}
use Rattle.text.specs.contracts.Step as step
use Rattle.text.proofs.Cases.{lt_or}
use Rattle.text.proofs.TableLaws.{what-control}
use Rattle.text.proofs.WalkLaws.{Onward, step_stands, step_broken, step_past, Ended, past_ended}
use Rattle.text.proofs.StepLaws.{at_end}
use Rattle.text.proofs.PartLaws.{singles, walk_ordinary}
use Rattle.text.proofs.RunLaws.{run_all, run-within, run_low, run-fault, run_lacking, run-tokens, run_extended}

-- from p on, the control s at q is the next unit below 32, and the walk goes on at r
pub record Reached (us : List ℕ) (p q : ℕ) (s : Standing) (r : ℕ) : Type 0 where
  pub is : q ≡ p + run (drop p us)
  pub from : p ≤ q
  pub low : get_or us q 0 < 32
  pub begins : s ≡ Control (control (get_or us q 0))
  pub tokens : tokens_at us p ≡ singles p (take (run (drop p us)) (drop p us)) ++ tokens_at us q
  pub extended : extended_in (tokens_at us p) ≡ extended_in (tokens_at us q)
  pub fault : fault_at us p ≡ fault_at us q
  pub onward : Onward us q s r

module _ (us : List ℕ) (p : ℕ) where
  reached : (q : ℕ) (s : Standing) (r : ℕ) → q ≡ p + run (drop p us) → Onward us q s r → Reached us p q s r
  reached q s r e o =
      let inside : p + run (drop p us) < length us = omega (arith, e, o.rises, o.fits) in
      let low : get_or us q 0 < 32 = rw e (run_low us p inside) in
      record {
        is = e;
        from = omega arith;
        low = low;
        begins = o.begins ∙ what-control (get_or us q 0) low;
        tokens = rw e (run-tokens us p);
        extended = rw e (run_extended us p);
        fault = rw e (run-fault us p inside);
        onward = o;
      }

  pub control_stands : (a : Position) (s : Standing) (c : Cursor) → control_at us p ≡ Stands a s c → Reached us p a.0 s c.at.0
  unfolding control_at
  control_stands a s c e =
      let t = step_stands us (p + run (drop p us)) a s c e in
      let z : a.0 ≡ p + run (drop p us) = ap (λ (a : Position). a.0) t.0 in
      reached a.0 s c.at.0 z (rw (← z) at t.1)

  pub control_broken : (q : Position) → control_at us p ≡ Broken q → fault_at us p ≡ Some q.0
  unfolding control_at
  control_broken q e = elim (lt_or (p + run (drop p us)) (length us)) [
    | inl h ↦ run-fault us p h ∙ step_broken us (p + run (drop p us)) q e
    | inr h ↦ absurd (let x : End ≡ Broken q = at_end us (p + run (drop p us)) h ∙ e in let z : ◌≡◌ {A = ℕ} 0 1 = cc in omega arith)
  ]

  -- a text that breaks no rule from p on has none broken at the control either
  pub control_sound : (q : Position) → fault_at us p ≡ None → control_at us p ≡ Broken q → ⊥
  control_sound q n e = let x : ◌≡◌ {A = Option ℕ} None (Some q.0) = sym n ∙ control_broken q e in let z : ◌≡◌ {A = ℕ} 0 1 = cc in omega arith

  pub control_end : (control_at us p ≡ End) ↔ AllOrdinary (drop p us)
  unfolding control_at
  control_end = (
    λ e.
        (run_all (drop p us)).0
        (simp length-drop (omega (arith, step_past us (p + run (drop p us)) e, run-within us p))),
    λ o. sym (at_end us (p + run (drop p us)) (rw ((run_all (drop p us)).1 o) (simp length-drop (omega arith)))),
  )

  -- the units one by one, up to the end
  pub control_rest : control_at us p ≡ End → tokens_at us p ≡ singles p (drop p us)
  control_rest e = walk_ordinary p (drop p us) (control_end.0 e)

  pub control_lacking : control_at us p ≡ End → p < length us → fault_at us p ≡ Some (length us)
  control_lacking e h = run_lacking us p h (control_end.0 e)

  pub control_over : control_at us p ≡ End → fault_at us p ≡ None → length us ≤ p
  control_over e n = elim (lt_or p (length us)) [
    | inl h ↦ absurd (let x : ◌≡◌ {A = Option ℕ} None (Some (length us)) = sym n ∙ control_lacking e h in let z : ◌≡◌ {A = ℕ} 0 1 = cc in omega arith)
    | inr h ↦ h
  ]

  pub control_ended : control_at us p ≡ End → fault_at us p ≡ None → Ended us p
  control_ended e n = past_ended us p (control_over e n)

-- a step that met no control, whichever way: as `let .. else` leaves it
abbrev pub NoControl : Step → Type 0
NoControl x = OneOf (1 ∷ 2 ∷ []) (tag_of step.the_type x)

-- and as an arm for the rest tells it
pub not_control : (x : Step) → ((a : Position) (w : Standing) (k : Cursor) → x ≡ Stands a w k → ⊥) → NoControl x
not_control (Stands a w k) n = absurd (n a w k refl)
not_control (Broken q) n = inl refl
not_control End n = inr refl

pub none_stands : (us : List ℕ) (p : ℕ) (x : Step) → x ≡ control_at us p → NoControl x → fault_at us p ≡ None → Ended us p
none_stands us p (Stands a s c) e (inl z) n = absurd (let y : ◌≡◌ {A = ℕ} 0 1 = z in omega arith)
none_stands us p (Stands a s c) e (inr z) n = absurd (let y : ◌≡◌ {A = ℕ} 0 2 = z in omega arith)
none_stands us p (Broken q) e w n = absurd (control_sound us p q n (sym e))
none_stands us p End e w n = control_ended us p (sym e) n
