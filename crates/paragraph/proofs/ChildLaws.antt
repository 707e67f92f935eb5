-- A view owns children of its header as every record has them: those records, with tags 67 to 71, whose parent it is. Assumes nothing.
use Prim.Native.Nat.{ℕ, suc, ◌+◌}
use native.Mathlib.Omega.{arith}
use mathlib.Core.Path.{◌≡◌, refl, ap, ◌∙◌}
use mathlib.Core.Bool.{Bool, true, false, cond, ◌&&◌}
use mathlib.Core.List.{List, [], ◌∷◌}
use lib.Dec.{ltb, leb, eqb}
use Rattle.records.specs.Kinds as kind
use Rattle.records.specs.Records.{Rec, Lawful}
use Rattle.records.specs.Parents.{WithParent, keep_if, children}
use Rattle.records.proofs.ParentLaws.{children_exactly}
use Rattle.paragraph.specs.View.{side, keep, kids, owned_of, view}
use Rattle.paragraph.specs.declared.view.Side.TheVariants as S

step : (beyond direct tagged : Bool) (r : Rec) (k c : List Rec) → (leb kind.text r.tag && leb r.tag kind.control_header) ≡ tagged → k ≡ owned_of c
    → keep (cond beyond S.Beyond (cond (direct && tagged) S.Owned S.Passed)) r k ≡ owned_of (cond beyond [] (keep_if direct r c))
unfolding keep owned_of keep_if
step true direct tagged r k c e q = refl
step false false tagged r k c e q = q
step false true true r k c e q = rw e (ap (λ (l : List Rec). r ∷ l) q)
step false true false r k c e q = rw e q

-- the view's children are those of the children that it owns
pub kids_are : (n : ℕ) (rs : List Rec) → kids n rs ≡ owned_of (children n rs)
unfolding kids side owned_of children
kids_are n [] = refl
kids_are n (r ∷ rs) =
    step (ltb r.level n) (eqb r.level n) (leb kind.text r.tag && leb r.tag kind.control_header) r (kids n rs) (children n rs) refl
    (kids_are n rs)

-- the view of r, by the records behind it whose parent is r
pub view_exactly : (r : Rec) (before rs ks : List Rec) → Lawful (r.level + 1) rs → WithParent r before (r ∷ before) rs ks
    → view r rs ≡ record { head = r.body; own = owned_of ks }
unfolding view
view_exactly r before rs ks l w =
    let up : suc r.level ≡ r.level + 1 = omega arith in
    ap (λ (k : List Rec). record { head = r.body; own = k })
    (kids_are (suc r.level) rs ∙ ap (λ (n : ℕ). owned_of (children n rs)) up ∙ ap owned_of ((children_exactly r before rs ks l).1 w))
