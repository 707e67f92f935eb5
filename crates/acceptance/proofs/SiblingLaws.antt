-- Where levels rise by one at most, `doubled` says that an earlier record with the same parent has the tag. Assumes nothing.
use Prim.Native.Nat.{ℕ, suc, ◌+◌, ◌≤◌, ◌<◌}
use native.Mathlib.Omega.{arith}
use mathlib.Core.Path.{◌≡◌, refl, sym, ap, ◌∙◌, subst}
use mathlib.Core.Logic.{◌⊎◌, inl, inr}
use mathlib.Core.Bool.{Bool, true, false, ◌&&◌, ◌||◌, or-true}
use mathlib.Core.List.{List, [], ◌∷◌}
use lib.Dec.{eqb}
use lib.ListN.{length}
use borrow.Author.Tests.{lt-ltb, le-ltb, eq-eqb, eqb-true}
use Rattle.records.specs.Records.{Rec}
use Rattle.records.specs.Parents.{parent_of}
use Rattle.records.proofs.ParentLaws.{parent_skip, parent_here, parent_short}
use Rattle.text.proofs.Cases.{lt_or, eq_or}
use Rattle.section.specs.Parents.{doubled}
use Rattle.acceptance.proofs.PlaceLaws.{Sibling, beside, past}

-- the highest level that may stand behind some records, and that the records keep to it themselves
abbrev pub cap_of : List Rec → ℕ
cap_of [] = 0
cap_of (p ∷ e) = p.level + 1

abbrev pub Stepped : List Rec → Type 0
Stepped [] = Unit {0}
Stepped (p ∷ e) = (p.level ≤ cap_of e) × Stepped e

-- the parent of a deeper level is nearer
nearer : (deep level : ℕ) (e : List Rec) → deep ≤ cap_of e → Stepped e → level < deep → length (parent_of level e) < length (parent_of deep e)
nearer deep level [] h k d = absurd (omega arith)
nearer deep level (p ∷ e) h k d =
    elim (lt_or p.level deep) [
      | inl a ↦
          subst (λ (l : List Rec). length (parent_of level (p ∷ e)) < length l) (sym (parent_here deep p e a))
          (subst (λ (l : List Rec). length l < suc (length e)) (sym (parent_skip level p e (omega arith))) (omega (arith, parent_short level e)))
      | inr a ↦
          subst (λ (l : List Rec). length (parent_of level (p ∷ e)) < length l) (sym (parent_skip deep p e a))
          (subst (λ (l : List Rec). length l < length (parent_of deep e)) (sym (parent_skip level p e (omega arith)))
          (nearer deep level e (omega (arith, k.0)) k.1 d))
    ]

pub sibling_short : {tag : ℕ} {up e : List Rec} → Sibling tag up e → length up < length e
sibling_short (beside {q} {earlier} t p) = omega (arith, parent_short q.level earlier, ap length p)
sibling_short (past w) = omega (arith, sibling_short w)

-- records of one parent stand at one level
pub same_level : (level : ℕ) (q : Rec) (e : List Rec) → Stepped (q ∷ e) → level ≤ q.level → parent_of q.level e ≡ parent_of level e → q.level ≡ level
same_level level q e k a p =
    elim (eq_or q.level level) [
      | inl b ↦ b
      | inr b ↦ absurd (omega (arith, nearer q.level level e k.0 k.1 (omega arith), ap length p))
    ]

-- ---- the clauses of doubled

module _ (tag level : ℕ) (q : Rec) (e : List Rec) where
  doubled_stop : q.level < level → doubled tag level (q ∷ e) ≡ false
  unfolding doubled
  doubled_stop h = rw (lt-ltb q.level level h)

  doubled_on : level ≤ q.level → doubled tag level (q ∷ e) ≡ ((eqb q.level level && eqb q.tag tag) || doubled tag level e)
  unfolding doubled
  doubled_on h = rw (le-ltb q.level level h)

either : (a b c : Bool) → ((a && b) || c) ≡ true → ((a ≡ true) × (b ≡ true)) ⊎ (c ≡ true)
either true true c e = inl (refl, refl)
either true false c e = inr e
either false b c e = inr e

pub doubled_sibling : (tag level : ℕ) (e : List Rec) → doubled tag level e ≡ true → Sibling tag (parent_of level e) e
unfolding doubled
doubled_sibling tag level [] d = absurd (let z : ◌≡◌ {A = ℕ} 0 1 = cc in omega arith)
doubled_sibling tag level (q ∷ e) d =
    elim (lt_or q.level level) [
      | inl a ↦ absurd (let y : false ≡ true = sym (doubled_stop tag level q e a) ∙ d in let z : ◌≡◌ {A = ℕ} 0 1 = cc in omega arith)
      | inr a ↦
          subst (λ (up : List Rec). Sibling tag up (q ∷ e)) (sym (parent_skip level q e a))
          (elim (either (eqb q.level level) (eqb q.tag tag) (doubled tag level e) (sym (doubled_on tag level q e a) ∙ d)) [
            | inl b ↦ beside (eqb-true q.tag tag b.1) (ap (λ (l : ℕ). parent_of l e) (eqb-true q.level level b.0))
            | inr b ↦ past (doubled_sibling tag level e b)
          ])
    ]

-- at a record of the same level or deeper
sibling_here : (tag level : ℕ) (q : Rec) (e : List Rec) → Stepped (q ∷ e) → level ≤ q.level → q.tag ≡ tag → parent_of q.level e ≡ parent_of level e
    → doubled tag level (q ∷ e) ≡ true
sibling_here tag level q e k a t p = doubled_on tag level q e a ∙ rw (eq-eqb q.level level (same_level level q e k a p), eq-eqb q.tag tag t)

pub sibling_doubled : (tag level : ℕ) (e : List Rec) → Stepped e → Sibling tag (parent_of level e) e → doubled tag level e ≡ true
sibling_doubled tag level [] k w = absurd (omega (arith, sibling_short w))
sibling_doubled tag level (q ∷ e) k w =
    elim (lt_or q.level level) [
      | inl a ↦ absurd (omega (arith, sibling_short (subst (λ (up : List Rec). Sibling tag up (q ∷ e)) (parent_here level q e a) w)))
      | inr a ↦ by a (subst (λ (up : List Rec). Sibling tag up (q ∷ e)) (parent_skip level q e a) w) (sibling_doubled tag level e k.1)
    ]
  where
    by : level ≤ q.level → Sibling tag (parent_of level e) (q ∷ e) → (Sibling tag (parent_of level e) e → doubled tag level e ≡ true) → doubled tag level (q ∷ e) ≡ true
    by a (beside t p) rest = sibling_here tag level q e k a t p
    by a (past v) rest = doubled_on tag level q e a ∙ rw (rest v, or-true (eqb q.level level && eqb q.tag tag))
