-- The judgement of a whole text, step by step. Assumes nothing.
use Rattle.std.specs.Prelude.{Err, Ok, Some}
use Prim.Native.Nat.{ℕ, ◌+◌, ◌≤◌, ◌<◌}
use native.Mathlib.Omega.{arith}
use native.Mathlib.Nat.{add_assoc}
use mathlib.Core.Path.{◌≡◌, refl, sym, ◌∙◌}
use mathlib.Core.List.{List, [], ◌∷◌}
use lib.ListN.{length}
use Rattle.text.specs.Walk.{Token, tokens, tokens_at, is_extended, extended_in, extended_count, fault_at, text_fault}
use Rattle.text.specs.Answers.{position, verdict, judged}
use Rattle.text.specs.declared.Class.TheVariants.{Character, Inline, Extended}
use Rattle.text.specs.declared.Standing.{Standing}
use Rattle.text.specs.declared.Standing.TheVariants.{Ordinary, Control}
use Rattle.text.proofs.UnitLaws.{length-units}
use Rattle.text.proofs.WalkLaws.{Ended, past_ended}
use Rattle.text.proofs.ControlLaws.{Reached, control_stands, control_broken, control_lacking}

-- up to p no fault was met, and k extended controls were
pub record Walked (us : List ℕ) (p k : ℕ) : Type 0 where
  pub whole : judged us ≡ verdict (fault_at us p) (k + extended_in (tokens_at us p))
  pub within : p ≤ length us
  pub few : k ≤ p

pub walked_start : (us : List ℕ) → 0 < length us → Walked us 0 0
unfolding judged text_fault extended_count tokens
walked_start [] h = absurd (omega arith)
walked_start (u ∷ us) h =
    let z : (n : ℕ) → 0 + n ≡ n = λ n. omega arith in
    record { whole = rw (z (extended_in (tokens_at (u ∷ us) 0))); within = omega arith; few = omega arith }

at_most_one : (s : Standing) → is_extended s ≤ 1
at_most_one (Ordinary u) = omega arith
at_most_one (Control c) = elim c.class as (λ k. (elim k [ Character ↦ 0 | Inline ↦ 0 | Extended ↦ 1 ]) ≤ 1) [ Character ↦ omega arith | Inline ↦ omega arith | Extended ↦ omega arith ]

-- the controls met so far, and those from the next token on
met : (k : ℕ) (t : Token) (ts : List Token) → k + extended_in (t ∷ ts) ≡ k + is_extended t.what + extended_in ts
unfolding extended_in
met k t ts = sym (add_assoc k (is_extended t.what) (extended_in ts))

-- n is what the next control counts
pub walked_on : {us : List ℕ} {p k q r n : ℕ} {s : Standing} → Walked us p k → Reached us p q s r → n ≡ is_extended s → Walked us r (k + n)
walked_on {us} {p} {k} {q} {r} {n} {s} w h is =
    rw is
    (record {
      whole =
          w.whole
          ∙ rw (h.fault, h.extended, h.onward.fault, h.onward.tokens, met k (record { at = q; what = s }) (tokens_at us r));
      within = h.onward.fits;
      few = omega (arith, at_most_one s, w.few, h.from, h.onward.rises);
    })

pub walked_broken : {us : List ℕ} {p k q : ℕ} → Walked us p k → fault_at us p ≡ Some q → Err (position q) ≡ judged us
walked_broken w e = sym (rw e at w.whole)

pub walked_end : {us : List ℕ} {p k : ℕ} → Walked us p k → Ended us p → Ok k ≡ judged us
unfolding extended_in
walked_end {us} {p} {k} w e =
    let z : k + 0 ≡ k = omega arith in
    sym (rw (e.fault, e.tokens, z) at w.whole)

pub judged_none : (us : List ℕ) → length us ≡ 0 → Err (position 0) ≡ judged us
unfolding judged text_fault
judged_none [] h = refl
judged_none (u ∷ us) h = absurd (omega arith)

-- for attributes: the ways a control is met, and how the judgement goes on at each
pub ruleset met_ways = (control_stands, control_broken, control_lacking, past_ended, length-units)

pub ruleset judge_steps = (judged_none, walked_start, walked_on, walked_broken, walked_end)
