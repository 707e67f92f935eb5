-- Rule 9 by what stands before a record (`acceptance`, AllPlaced) and by what follows it (Followed) say the same. Assumes nothing.
use mathlib.Core.Path.{◌≡◌, refl, sym, ap, ◌∙◌, subst}
use mathlib.Core.Logic.{inl, inr}
use Prim.Native.Nat.{ℕ, zero, suc, ◌+◌, ◌≤◌, ◌<◌}
use native.Mathlib.Omega.{arith}
use mathlib.Core.Bool.{Bool, true, false}
use mathlib.Core.List.{List, [], ◌∷◌}
use lib.ListN.{length}
use Rattle.records.specs.Records.{Rec, Lawful}
use Rattle.records.specs.Parents.{Lacks, parent_of}
use Rattle.records.proofs.ParentLaws.{parent_skip, parent_here}
use Rattle.text.proofs.Cases.{lt_or, eq_or}
use Rattle.paragraph.specs.View.{kids}
use Rattle.paragraph.proofs.ViewLaws.{side_beyond, side_owned}
use Rattle.paragraph.proofs.BodyLaws.{kids_beyond, kids_owned, kids_passed}
use Rattle.section.specs.Parents.{leaf, header, parent_is}
use Rattle.acceptance.specs.Section.{AllPlaced}
use Rattle.acceptance.proofs.PlaceLaws.{never, leaf_yes, leaf-is, header_is, header_no, header_not, Sibling, beside, past, PlacedBy, AllPlacedBy, all_by_parent}
use Rattle.acceptance.proofs.SiblingLaws.{cap_of, Stepped, same_level, sibling_short}
use Rattle.filling.specs.Placing.{Stops, Once, Free, Rule, Each, Followed}
use Rattle.filling.proofs.EditLaws.{is_beyond, is_owned, is_passed, which}

-- ---- from what stands before to what follows

-- a tag that stood before does not stand again
lacks_from : (n t : ℕ) (e rs : List Rec) → leaf t ≡ true → Sibling t (parent_of n e) e → AllPlacedBy e rs → Lacks t (kids n rs)
lacks_from n t e [] l w p = unfold kids in tt
lacks_from n t e (r ∷ rs) l w p = elim (which n r.tag r.level) [
  | is_beyond h q ↦ rw (kids_beyond n r rs q) tt
  | is_owned h u q ↦ rw (kids_owned n r rs q) ((λ z. again h z), lacks_from n t (r ∷ e) rs l (later (omega arith)) p.1)
  | is_passed h q ↦ rw (kids_passed n r rs q) (lacks_from n t (r ∷ e) rs l (later h) p.1)
]
  where
    later : n ≤ r.level → Sibling t (parent_of n (r ∷ e)) (r ∷ e)
    later h = subst (λ (up : List Rec). Sibling t up (r ∷ e)) (sym (parent_skip n r e h)) (past w)

    again : r.level ≡ n → r.tag ≡ t → ⊥
    again h z = p.0.single (rw z l) (rw (h, z) w)

free_from : (n : ℕ) (e rs : List Rec) → parent_is header (parent_of n e) ≡ false → AllPlacedBy e rs → Free (kids n rs)
free_from n e [] h p = unfold kids in tt
free_from n e (r ∷ rs) h p = elim (which n r.tag r.level) [
  | is_beyond l q ↦ rw (kids_beyond n r rs q) tt
  | is_owned l u q ↦ rw (kids_owned n r rs q) (high l u, free_from n (r ∷ e) rs (later (omega arith)) p.1)
  | is_passed l q ↦ rw (kids_passed n r rs q) (free_from n (r ∷ e) rs (later l) p.1)
]
  where
    later : n ≤ r.level → parent_is header (parent_of n (r ∷ e)) ≡ false
    later l = ap (parent_is header) (parent_skip n r e l) ∙ h

    high : r.level ≡ n → 67 ≤ r.tag → 70 < r.tag
    high l u = elim (lt_or 70 r.tag) [
      | inl g ↦ g
      | inr g ↦ absurd (never (p.0.below-header (leaf_yes r.tag u g)) (ap (λ (k : ℕ). parent_is header (parent_of k e)) l ∙ h))
    ]

once_from : (n : ℕ) (e rs : List Rec) → AllPlacedBy e rs → Once (kids n rs)
once_from n e [] p = unfold kids in tt
once_from n e (r ∷ rs) p = elim (which n r.tag r.level) [
  | is_beyond l q ↦ rw (kids_beyond n r rs q) tt
  | is_owned l u q ↦ rw (kids_owned n r rs q)
      ((λ k. lacks_from n r.tag (r ∷ e) rs (leaf_yes r.tag u k) (itself l) p.1), once_from n (r ∷ e) rs p.1)
  | is_passed l q ↦ rw (kids_passed n r rs q) (once_from n (r ∷ e) rs p.1)
]
  where
    itself : r.level ≡ n → Sibling r.tag (parent_of n (r ∷ e)) (r ∷ e)
    itself l =
        subst (λ (up : List Rec). Sibling r.tag up (r ∷ e)) (sym (parent_skip n r e (omega arith)))
        (beside refl (ap (λ (k : ℕ). parent_of k e) l))

stops_from : (r : Rec) (e rs : List Rec) → leaf r.tag ≡ true → AllPlacedBy (r ∷ e) rs → Stops r.level rs
stops_from r e [] h p = tt
stops_from r e (q ∷ rs) h p = elim (lt_or r.level q.level) [
  | inl l ↦ absurd (never (ap (parent_is leaf) (parent_here q.level r e l) ∙ h) p.0.no_leaf_above)
  | inr l ↦ l
]

each_from : (e rs : List Rec) → AllPlacedBy e rs → Each rs
each_from e [] p = tt
each_from e (r ∷ rs) p = (
  record {
    leaf = λ h k. stops_from r e rs (leaf_yes r.tag h k) p.1;
    paragraph = λ h. once_from (suc r.level) (r ∷ e) rs p.1;
    other = λ h. free_from (suc r.level) (r ∷ e) rs
        (ap (parent_is header) (parent_here (suc r.level) r e (omega arith)) ∙ header_no r.tag h) p.1;
  },
  each_from (r ∷ e) rs p.1,
)

pub followed : (rs : List Rec) → AllPlaced [] rs → Followed rs
unfolding parent_of
followed rs k = let p = (all_by_parent [] rs).0 k in record { roots = free_from 0 [] rs refl p; each = each_from [] rs p }

-- ---- from what follows to what stands before

abbrev Under : ℕ → List Rec → Type 0
Under n [] = Unit {0}
Under n (r ∷ rs) = r.level < n

under_kids : (n : ℕ) (rs : List Rec) → Under n rs → kids n rs ≡ []
under_kids n [] h = unfold kids in refl
under_kids n (r ∷ rs) h = kids_beyond n r rs (side_beyond n r.tag r.level h)

lawful_under : (cap n : ℕ) (rs : List Rec) → Lawful cap rs → cap < n → Under n rs
lawful_under cap n [] l h = tt
lawful_under cap n (r ∷ rs) l h = omega (arith, l.0.level_cap)

stops_under : (n : ℕ) (rs : List Rec) → Stops n rs → Under (suc n) rs
stops_under n [] h = tt
stops_under n (r ∷ rs) h = omega arith

-- what the earlier records say of the children at level n that are still to come
record Ahead (n : ℕ) (e rs : List Rec) : Type 0 where
  free : parent_is header (parent_of n e) ≡ false → Free (kids n rs)
  once : parent_is header (parent_of n e) ≡ true → Once (kids n rs)
  lacks : (t : ℕ) → 67 ≤ t → t ≤ 70 → Sibling t (parent_of n e) e → Lacks t (kids n rs)
  bare : parent_is leaf (parent_of n e) ≡ true → Under n rs

-- where no child is still to come
ahead_none : (n : ℕ) (e rs : List Rec) → Under n rs → Ahead n e rs
ahead_none n e rs u =
    let k = under_kids n rs u in
    record { free = λ h. rw k tt; once = λ h. rw k tt; lacks = λ t p q d. rw k tt; bare = λ h. u }

free_tail : (n : ℕ) (r : Rec) (rs : List Rec) → n ≤ r.level → Free (kids n (r ∷ rs)) → Free (kids n rs)
free_tail n r rs h f = elim (which n r.tag r.level) [
  | is_beyond l q ↦ absurd (omega arith)
  | is_owned l u q ↦ (rw (kids_owned n r rs q) at f).1
  | is_passed l q ↦ rw (kids_passed n r rs q) at f
]

once_tail : (n : ℕ) (r : Rec) (rs : List Rec) → n ≤ r.level → Once (kids n (r ∷ rs)) → Once (kids n rs)
once_tail n r rs h f = elim (which n r.tag r.level) [
  | is_beyond l q ↦ absurd (omega arith)
  | is_owned l u q ↦ (rw (kids_owned n r rs q) at f).1
  | is_passed l q ↦ rw (kids_passed n r rs q) at f
]

lacks_tail : (n t : ℕ) (r : Rec) (rs : List Rec) → n ≤ r.level → Lacks t (kids n (r ∷ rs)) → Lacks t (kids n rs)
lacks_tail n t r rs h f = elim (which n r.tag r.level) [
  | is_beyond l q ↦ absurd (omega arith)
  | is_owned l u q ↦ (rw (kids_owned n r rs q) at f).1
  | is_passed l q ↦ rw (kids_passed n r rs q) at f
]

-- a child 67 to 70 has a paragraph header for its parent, and its tag does not come again
leaf-child : (n : ℕ) (e : List Rec) (r : Rec) (rs : List Rec) → Ahead n e (r ∷ rs) → r.level ≡ n → 67 ≤ r.tag → r.tag ≤ 70
    → (parent_is header (parent_of n e) ≡ true) × Lacks r.tag (kids n rs)
leaf-child n e r rs a l h k = go (parent_is header (parent_of n e)) refl
  where
    own : kids n (r ∷ rs) ≡ r ∷ kids n rs
    own = kids_owned n r rs (side_owned n r.tag r.level l h (omega arith))

    go : (b : Bool) → parent_is header (parent_of n e) ≡ b → (parent_is header (parent_of n e) ≡ true) × Lacks r.tag (kids n rs)
    go true q = (q, (rw own at (a.once q)).0 k)
    go false q = absurd (let f = (rw own at (a.free q)).0 in omega (arith, f))

ahead_up : (n : ℕ) (e : List Rec) (r : Rec) (rs : List Rec) → Stepped (r ∷ e) → n ≤ r.level → Ahead n e (r ∷ rs) → Ahead n (r ∷ e) rs
ahead_up n e r rs st h a =
    record {
      free = λ q. free_tail n r rs h (a.free (sym (ap (parent_is header) (parent_skip n r e h)) ∙ q));
      once = λ q. once_tail n r rs h (a.once (sym (ap (parent_is header) (parent_skip n r e h)) ∙ q));
      lacks = λ t p k w. lacks t p k (subst (λ (up : List Rec). Sibling t up (r ∷ e)) (parent_skip n r e h) w);
      bare = λ q. absurd (let u = a.bare (sym (ap (parent_is leaf) (parent_skip n r e h)) ∙ q) in omega (arith, u));
    }
  where
    lacks : (t : ℕ) → 67 ≤ t → t ≤ 70 → Sibling t (parent_of n e) (r ∷ e) → Lacks t (kids n rs)
    lacks t p k (beside g q) = let x = leaf-child n e r rs a (same_level n r e st h q) (omega (arith, g)) (omega (arith, g)) in rw g at x.1
    lacks t p k (past w) = lacks_tail n t r rs h (a.lacks t p k w)

ahead_own : (e : List Rec) (r : Rec) (rs : List Rec) → Rule r rs → Ahead (suc r.level) (r ∷ e) rs
ahead_own e r rs u =
    let p : parent_of (suc r.level) (r ∷ e) ≡ r ∷ e = parent_here (suc r.level) r e (omega arith) in
    record {
      free = λ q. u.other (header_not r.tag (sym (ap (parent_is header) p) ∙ q));
      once = λ q. u.paragraph (header_is r.tag (sym (ap (parent_is header) p) ∙ q));
      lacks = λ t h k w. absurd (omega (arith, sibling_short w, ap length p));
      bare = λ q. let l = leaf-is r.tag (sym (ap (parent_is leaf) p) ∙ q) in stops_under r.level rs (u.leaf l.0 l.1);
    }

ahead-next : (e : List Rec) (r : Rec) (rs : List Rec) → Stepped (r ∷ e) → Rule r rs → Lawful (r.level + 1) rs → ((n : ℕ) → Ahead n e (r ∷ rs)) → (n : ℕ)
    → Ahead n (r ∷ e) rs
ahead-next e r rs st u l a n = elim (lt_or r.level n) [
  | inl h ↦ elim (eq_or n (suc r.level)) [
    | inl q ↦ rw q (ahead_own e r rs u)
    | inr q ↦ ahead_none n (r ∷ e) rs (lawful_under (r.level + 1) n rs l (omega arith))
  ]
  | inr h ↦ ahead_up n e r rs st h (a n)
]

placed_by : (e : List Rec) (r : Rec) (rs : List Rec) → Ahead r.level e (r ∷ rs) → PlacedBy r e
placed_by e r rs a =
    record {
      below-header = λ h. let l = leaf-is r.tag h in (leaf-child r.level e r rs a refl l.0 l.1).0;
      single = λ h w. single (leaf-is r.tag h) w;
      no_leaf_above = above (parent_is leaf (parent_of r.level e)) refl;
    }
  where
    above : (b : Bool) → parent_is leaf (parent_of r.level e) ≡ b → parent_is leaf (parent_of r.level e) ≡ false
    above true q = absurd (let u = a.bare q in omega (arith, u))
    above false q = q

    single : (67 ≤ r.tag) × (r.tag ≤ 70) → Sibling r.tag (parent_of r.level e) e → ⊥
    single l w =
        let own = kids_owned r.level r rs (side_owned r.level r.tag r.level refl l.0 (omega (arith, l.1))) in
        (rw own at (a.lacks r.tag l.0 l.1 w)).0 refl

all_placed : (e rs : List Rec) → Stepped e → ((n : ℕ) → Ahead n e rs) → Each rs → Lawful (cap_of e) rs → AllPlacedBy e rs
all_placed e [] st a u l = tt
all_placed e (r ∷ rs) st a u l = (
  placed_by e r rs (a r.level),
  all_placed (r ∷ e) rs (l.0.level_cap, st) (ahead-next e r rs (l.0.level_cap, st) u.0 l.1 a) u.1 l.1,
)

ahead_start : (rs : List Rec) → Free (kids 0 rs) → Lawful 0 rs → (n : ℕ) → Ahead n [] rs
unfolding parent_of
ahead_start rs f l zero =
    record { free = λ h. f; once = λ h. absurd (never h refl); lacks = λ t p q w. absurd (omega (arith, sibling_short w)); bare = λ h. absurd (never h refl) }
ahead_start rs f l (suc n) = ahead_none (suc n) [] rs (lawful_under 0 (suc n) rs l (omega arith))

pub placed : (rs : List Rec) → Followed rs → Lawful 0 rs → AllPlaced [] rs
placed rs p l = (all_by_parent [] rs).1 (all_placed [] rs tt (ahead_start rs p.roots l) p.each l)
