-- Where records 67 to 70 stand, by `Parent` as document 01 says it and by what `parent_of` answers, is the same. Assumes nothing.
use Prim.Native.Nat.{ℕ, ◌≤◌}
use native.Mathlib.Omega.{arith}
use mathlib.Core.Path.{◌≡◌, refl, sym, ap, ◌∙◌, subst}
use mathlib.Core.Logic.{◌↔◌}
use mathlib.Core.Bool.{Bool, true, false}
use mathlib.Core.List.{List, [], ◌∷◌}
use lib.Dec.{leb}
use borrow.Author.Tests.{le-leb, eq-eqb, ne_eqb, eqb-true, leb-true}
use Rattle.records.specs.Records.{Rec}
use Rattle.records.specs.Parents.{parent_of}
use Rattle.records.proofs.ParentLaws.{parent_exactly}
use Rattle.section.specs.Parents.{leaf, header, parent_is}
use Rattle.acceptance.specs.Section.{IsLeaf, ChildOf, Twin, here, further, Placed, AllPlaced}
use Rattle.acceptance.proofs.ChainLaws.{both_true}

-- ---- tags

pub never : {b : Bool} → b ≡ true → b ≡ false → ⊥
never h e = let z : ◌≡◌ {A = ℕ} 0 1 = cc in omega arith

pub leaf_yes : (t : ℕ) → 67 ≤ t → t ≤ 70 → leaf t ≡ true
unfolding leaf
leaf_yes t h k = rw (le-leb 67 t h, le-leb t 70 k)

pub leaf-is : (t : ℕ) → leaf t ≡ true → IsLeaf t
unfolding leaf
leaf-is t e = let p = both_true (leb 67 t) (leb t 70) e in (leb-true 67 t p.0, leb-true t 70 p.1)

pub header_yes : (t : ℕ) → t ≡ 66 → header t ≡ true
unfolding header
header_yes t h = eq-eqb t 66 h

pub header_is : (t : ℕ) → header t ≡ true → t ≡ 66
unfolding header
header_is t e = eqb-true t 66 e

pub header_no : (t : ℕ) → (t ≡ 66 → ⊥) → header t ≡ false
unfolding header
header_no t h = ne_eqb t 66 h

pub header_not : (t : ℕ) → header t ≡ false → t ≡ 66 → ⊥
header_not t e h = never (header_yes t h) e

-- ---- by what parent_of answers: the parent with the records before it, or nothing

-- among earlier records, the nearest first: one with a tag and a parent
pub data Sibling (tag : ℕ) (up : List Rec) : List Rec → Type 0 where
  beside : {q : Rec} {earlier : List Rec} → q.tag ≡ tag → parent_of q.level earlier ≡ up → Sibling tag up (q ∷ earlier)
  past : {q : Rec} {earlier : List Rec} → Sibling tag up earlier → Sibling tag up (q ∷ earlier)

pub record PlacedBy (r : Rec) (earlier : List Rec) : Type 0 where
  pub below-header : leaf r.tag ≡ true → parent_is header (parent_of r.level earlier) ≡ true
  pub single : leaf r.tag ≡ true → Sibling r.tag (parent_of r.level earlier) earlier → ⊥
  pub no_leaf_above : parent_is leaf (parent_of r.level earlier) ≡ false

abbrev pub AllPlacedBy : List Rec → List Rec → Type 0
AllPlacedBy earlier [] = Unit {0}
AllPlacedBy earlier (r ∷ rs) = PlacedBy r earlier × AllPlacedBy (r ∷ earlier) rs

-- ---- the same

twin_sibling : {tag : ℕ} {p : Rec} {before e : List Rec} → Twin tag p before e → Sibling tag (p ∷ before) e
twin_sibling (here {q} {earlier} t k) = beside t ((parent_exactly q.level earlier).1 k)
twin_sibling (further w) = past (twin_sibling w)

sibling_twin : {tag : ℕ} {p : Rec} {before e : List Rec} → Sibling tag (p ∷ before) e → Twin tag p before e
sibling_twin (beside {q} {earlier} t k) = here t ((parent_exactly q.level earlier).0 k)
sibling_twin (past w) = further (sibling_twin w)

module _ (r : Rec) (e : List Rec) where
  abbrev up : List Rec
  up = parent_of r.level e

  placed_by : Placed r e → PlacedBy r e
  placed_by k =
      record {
        below-header = λ l. let c = k.below-header (leaf-is r.tag l) in ap (parent_is header) (is c) ∙ header_yes c.parent.tag c.tag_is;
        single = λ l w.
            let c = k.below-header (leaf-is r.tag l) in
            k.single (leaf-is r.tag l) c.parent c.before c.is_parent
            (sibling_twin (subst (λ (u : List Rec). Sibling r.tag u e) (is c) w));
        no_leaf_above = none up refl;
      }
    where
      is : (c : ChildOf 66 r.level e) → up ≡ c.parent ∷ c.before
      is c = (parent_exactly r.level e).1 c.is_parent

      no : (p : Rec) (before : List Rec) → up ≡ p ∷ before → (b : Bool) → leaf p.tag ≡ b → leaf p.tag ≡ false
      no p before q true l = absurd (k.no_leaf_above p before ((parent_exactly r.level e).0 q) (leaf-is p.tag l))
      no p before q false l = l

      none : (u : List Rec) → up ≡ u → parent_is leaf up ≡ false
      none [] q = ap (parent_is leaf) q
      none (p ∷ before) q = ap (parent_is leaf) q ∙ no p before q (leaf p.tag) refl

  by_placed : PlacedBy r e → Placed r e
  by_placed k =
      record {
        below-header = λ l. above up refl (k.below-header (leaf_yes r.tag l.0 l.1));
        single = λ l p before h w.
            k.single (leaf_yes r.tag l.0 l.1)
            (subst (λ (u : List Rec). Sibling r.tag u e) (sym ((parent_exactly r.level e).1 h)) (twin_sibling w));
        no_leaf_above = λ p before h l.
            never (ap (parent_is leaf) ((parent_exactly r.level e).1 h) ∙ leaf_yes p.tag l.0 l.1) k.no_leaf_above;
      }
    where
      above : (u : List Rec) → up ≡ u → parent_is header up ≡ true → ChildOf 66 r.level e
      above [] q h = absurd (never h (ap (parent_is header) q))
      above (p ∷ before) q h =
          record {
            parent = p;
            before = before;
            is_parent = (parent_exactly r.level e).0 q;
            tag_is = header_is p.tag (sym (ap (parent_is header) q) ∙ h);
          }

  pub by_parent : Placed r e ↔ PlacedBy r e
  by_parent = (placed_by, by_placed)

pub all_by_parent : (e rs : List Rec) → AllPlaced e rs ↔ AllPlacedBy e rs
all_by_parent e [] = ((λ k. tt), λ k. tt)
all_by_parent e (r ∷ rs) =
    let one = by_parent r e in
    let rest = all_by_parent (r ∷ e) rs in
    ((λ k. (one.0 k.0, rest.0 k.1)), λ k. (one.1 k.0, rest.1 k.1))
