-- The fifth column says what document 02 (A6) asks of it. Assumes nothing.
use Prim.Native.Nat.{ℕ, ◌+◌, ◌≤◌, ◌<◌}
use native.Mathlib.Omega.{arith}
use native.Mathlib.Decide.{dec_le}
use native.Mathlib.Nat.{lt_of_not-le}
use mathlib.Core.Path.{◌≡◌, refl, sym, ap, ap₂, ◌∙◌, subst}
use mathlib.Core.Logic.{◌↔◌}
use mathlib.Core.List.{List, [], ◌∷◌}
use lib.ListN.{length}
use Rattle.records.specs.Records.{Rec, Lawful}
use Rattle.records.specs.Parents.{NoneBelow, parent_of, parent_index}
use Rattle.records.specs.Table.{parents_from, Carries, own, parent's, Carried}
use Rattle.records.proofs.ParentLaws.{parent_skip, parent_here, parent_exactly, parent_none}
use Rattle.records.proofs.ClimbLaws.{index_is}

-- behind records that keep the level rule every level from 1 to cap has a parent
abbrev Deep : List Rec → ℕ → Type 0
Deep earlier cap = (level : ℕ) → 0 < level → level ≤ cap → parent_of level earlier ≡ [] → ⊥

deep_next : (r : Rec) (earlier : List Rec) (cap : ℕ) → Deep earlier cap → r.level ≤ cap → Deep (r ∷ earlier) (r.level + 1)
deep_next r earlier cap d h level a b q =
    elim (dec_le level r.level) [
      | yes g ↦ d level a (omega arith) (sym (parent_skip level r earlier g) ∙ q)
      | no g ↦ let z : ◌≡◌ {A = ℕ} (length (r ∷ earlier)) 0 = ap length (sym (parent_here level r earlier (lt_of_not-le g)) ∙ q) in omega arith
    ]

none_at_0 : (earlier : List Rec) → NoneBelow 0 earlier
none_at_0 [] = tt
none_at_0 (r ∷ earlier) = (omega arith, none_at_0 earlier)

module _ (level : ℕ) (earlier : List Rec) where
  carries : (cap : ℕ) → Deep earlier cap → level ≤ cap → Carries level earlier (parent_index level earlier)
  carries cap d h = by (parent_of level earlier) refl
    where
      by : (found : List Rec) → parent_of level earlier ≡ found → Carries level earlier (parent_index level earlier)
      by [] q =
          subst (Carries level earlier) (sym (index_is level earlier [] q))
          (own (elim (dec_le level 0) [ yes z ↦ omega arith | no z ↦ absurd (d level (lt_of_not-le z) h q) ]))
      by (p ∷ before) q = subst (Carries level earlier) (sym (index_is level earlier (p ∷ before) q)) (parent's p before ((parent_exactly level earlier).0 q))

  carried_one : {n : ℕ} → Carries level earlier n → n ≡ parent_index level earlier
  carried_one (own z) =
      sym (index_is level earlier [] (ap (λ (l : ℕ). parent_of l earlier) z ∙ (parent_none 0 earlier).1 (none_at_0 earlier)))
  carried_one (parent's p before k) = sym (index_is level earlier (p ∷ before) ((parent_exactly level earlier).1 k))

column : (earlier : List Rec) (cap : ℕ) (rs : List Rec) → Deep earlier cap → Lawful cap rs → Carried earlier rs (parents_from earlier rs)
unfolding parents_from
column earlier cap [] d l = tt
column earlier cap (r ∷ rs) d l =
    (carries r.level earlier cap d l.0.level_cap, column (r ∷ earlier) (r.level + 1) rs (deep_next r earlier cap d l.0.level_cap) l.1)

carried_is : (earlier rs : List Rec) (ns : List ℕ) → Carried earlier rs ns → ns ≡ parents_from earlier rs
unfolding parents_from
carried_is earlier [] [] k = refl
carried_is earlier [] (n ∷ ns) k = absurd k
carried_is earlier (r ∷ rs) [] k = absurd k
carried_is earlier (r ∷ rs) (n ∷ ns) k =
    ap₂ (λ (m : ℕ) (ms : List ℕ). m ∷ ms) (carried_one r.level earlier k.0) (carried_is (r ∷ earlier) rs ns k.1)

-- of records that keep the level rule, a list is the fifth column exactly where each entry is the record's own index at level 0, and else its
-- parent's
pub parents_exactly : (rs : List Rec) (ns : List ℕ) → Lawful 0 rs → (ns ≡ parents_from [] rs) ↔ Carried [] rs ns
parents_exactly rs ns l =
    ((λ q. subst (Carried [] rs) (sym q) (column [] 0 rs (λ level a b q. omega arith) l)), carried_is [] rs ns)
