-- The chain of rules: how a rule that is broken, and one that is not, leads on. Assumes nothing.
use Rattle.std.specs.Prelude.{Err, None, Ok, Option, Some}
use Rattle.std.specs.Result.{IsErrAnd}
use Prim.Native.Nat.{ℕ, ◌*◌, ◌/◌, ◌<◌}
use native.Mathlib.Omega.{arith}
use mathlib.Core.Path.{◌≡◌, refl, sym, ap, ◌∙◌, subst}
use mathlib.Core.Bool.{Bool, true, false}
use mathlib.Core.List.{List}
use lib.ListN.{length}
use Rattle.paragraph.specs.Rules.{guard, guard_at, or_else, Finding, breach}
use Rattle.paragraph.specs.declared.finding.Breach.{Breach}
use Rattle.paragraph.specs.declared.finding.Which.{Which}
use Rattle.entries.specs.Entries.{shapes_fault, marks_fault}
use Rattle.entries.proofs.EntryLaws.{Under, shapes_under, marks_under}
use Rattle.records.specs.declared.fault.Fault.{Fault}

-- the way out of a `?`: the breach that was found is passed on
pub exit_is : (r : Finding) (w : Breach) → IsErrAnd r (λ y. y ≡ w) → r ≡ Err w
exit_is (Ok x) w h = absurd h
exit_is (Err y) w h = ap Err h

-- a rule that is broken where a test holds
module _ {t b : Bool} (v : Breach) {f : Finding} (e : f ≡ guard t (Err v) (Ok tt)) (is : t ≡ b) where
  guard_by : (a : Bool) → b ≡ a → f ≡ guard a (Err v) (Ok tt)
  guard_by a q = e ∙ ap (λ (k : Bool). guard k (Err v) (Ok tt)) (is ∙ q)

  -- where it is broken, and where it is not
  pub guard_broken : (w : Breach) → f ≡ Err w → b ≡ true
  unfolding guard
  guard_broken w q = by b refl
    where
      by : (a : Bool) → b ≡ a → b ≡ true
      by true h = h
      by false h = absurd (let z : ◌≡◌ {A = Finding} (Ok tt) (Err w) = sym (guard_by false h) ∙ q in let y : ◌≡◌ {A = ℕ} 0 1 = cc in omega arith)

  pub guard_kept : f ≡ Ok tt → b ≡ false
  unfolding guard
  guard_kept q = by b refl
    where
      by : (a : Bool) → b ≡ a → b ≡ false
      by false h = h
      by true h = absurd (let z : ◌≡◌ {A = Finding} (Err v) (Ok tt) = sym (guard_by true h) ∙ q in let y : ◌≡◌ {A = ℕ} 0 1 = cc in omega arith)

  -- the breach is the rule's
  pub guard_breach : (w : Breach) → f ≡ Err w → ◌≡◌ {A = Finding} (Err w) (Err v)
  unfolding guard
  guard_breach w q = sym q ∙ guard_by true (guard_broken w q)

  pub guard_breaks : (w : Breach) (rest : Finding) → f ≡ Err w → Err w ≡ guard b (Err v) rest
  unfolding guard
  guard_breaks w rest q = rw (guard_broken w q) (guard_breach w q)

  pub guard_passes : {rest y : Finding} → f ≡ Ok tt → y ≡ rest → y ≡ guard b (Err v) rest
  unfolding guard
  guard_passes q z = rw (guard_kept q) z

-- a rule that has found a breach, and one that has not
module _ {f a : Finding} (e : f ≡ a) where
  pub else_breaks : (w : Breach) (rest : Finding) → f ≡ Err w → Err w ≡ or_else a rest
  unfolding or_else
  else_breaks w rest q = rw (sym e ∙ q)

  pub else_passes : {rest y : Finding} → f ≡ Ok tt → y ≡ rest → y ≡ or_else a rest
  unfolding or_else
  else_passes q z = rw (sym e ∙ q) z

pub at_taken : {o : Option ℕ} (f : Fault) (names : ℕ → Which) (rest : Finding) (i : ℕ) → o ≡ Some i → Err (breach f (names i)) ≡ guard_at o f names rest
unfolding guard_at
at_taken f names rest i e = rw e

pub at_left : {o : Option ℕ} {rest y : Finding} (f : Fault) (names : ℕ → Which) → o ≡ None → y ≡ rest → y ≡ guard_at o f names rest
unfolding guard_at
at_left f names e q = rw e q

-- ---- 13: the entry at fault is one of its body's: w bytes each, and n of them

index_within : (n i : ℕ) (o : Option ℕ) → Under n o → Some i ≡ o → i < n
index_within n i o u e = subst (Under n) (sym e) u

pub shape_low : (count i : ℕ) (b : List ℕ) → Some i ≡ shapes_fault count b → 8 * i < length b
shape_low count i b e = let h = index_within (length b / 8) i (shapes_fault count b) (shapes_under count b) e in omega arith

pub mark_low : (count i : ℕ) (b : List ℕ) → Some i ≡ marks_fault count b → 12 * i < length b
mark_low count i b e = let h = index_within (length b / 12) i (marks_fault count b) (marks_under count b) e in omega arith

pub ruleset entry_laws = (shape_low, mark_low)
