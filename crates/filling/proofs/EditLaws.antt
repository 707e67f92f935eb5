-- The frame: an edit of one paragraph makes its view the edited one and leaves every other; edits of two paragraphs commute; two edits
-- of one paragraph are one edit. Assumes nothing.
use Rattle.std.specs.Prelude.{None, Option, Some, slice_get}
use mathlib.Core.Path.{◌≡◌, refl, sym, ap, ◌∙◌}
use mathlib.Core.Logic.{◌⊎◌, inl, inr}
use Prim.Native.Nat.{ℕ, zero, suc, ◌≤◌, ◌<◌}
use native.Mathlib.Omega.{arith}
use mathlib.Core.Bool.{Bool, true, false, ◌&&◌}
use mathlib.Core.List.{List, [], ◌∷◌}
use lib.Dec.{leb, eqb}
use borrow.Author.Tests.{eqb-true, leb-true, le-ltb, eq-eqb, ne_eqb}
use Rattle.records.specs.Records.{Rec}
use Rattle.text.proofs.Cases.{lt_or, eq_or}
use Rattle.paragraph.specs.View.{side, keep, kids, View, view, views}
use Rattle.paragraph.specs.declared.view.Side.TheVariants as S
use Rattle.paragraph.proofs.ViewLaws.{side_beyond, side_deeper}
use Rattle.filling.specs.Editing.{Change, Edit, with_body, put, count_control, changed, edit_view, edit_behind, edit_here, edit_at, modified, TakesLayout, then_body, then_change, then_edit, as_child}
use Rattle.filling.specs.Placing.{Stops, Leaves}

-- ---- sides

-- the three sides, each with what it tells
pub data Is (n t l : ℕ) : Type 0 where
  is_beyond : l < n → side n t l ≡ S.Beyond → Is n t l
  is_owned : l ≡ n → 67 ≤ t → side n t l ≡ S.Owned → Is n t l
  is_passed : n ≤ l → side n t l ≡ S.Passed → Is n t l

and_true : (a b : Bool) → a && b ≡ true → (a ≡ true) × (b ≡ true)
and_true true b e = (refl, e)
and_true false b e = (e, cc)

pub which : (n t l : ℕ) → Is n t l
unfolding side
which n t l = elim (lt_or l n) [
  | inl h ↦ is_beyond h (side_beyond n t l h)
  | inr h ↦ go h (eqb l n && (leb 67 t && leb t 71)) refl
]
  where
    go : n ≤ l → (b : Bool) → eqb l n && (leb 67 t && leb t 71) ≡ b → Is n t l
    go h true e =
        let q = and_true _ _ e in
        is_owned (eqb-true l n q.0) (leb-true 67 t (and_true _ _ q.1).0) (rw (le-ltb l n h, e))
    go h false e = is_passed h (rw (le-ltb l n h, e))

-- ---- the clauses of `edit_behind` and `edit_at`

module _ (n j : ℕ) (f : Change) (r : Rec) (rs : List Rec) where
  pub behind_beyond : side n r.tag r.level ≡ S.Beyond → edit_behind n j f (r ∷ rs) ≡ r ∷ rs
  unfolding edit_behind
  behind_beyond e = rw (e, edit_behind)

  pub behind_owned : side n r.tag r.level ≡ S.Owned
      → edit_behind n j f (r ∷ rs) ≡ put (f (as_child j r)) r (edit_behind n (count_control r.tag j) f rs)
  unfolding edit_behind
  behind_owned e = rw (e, edit_behind)

  pub behind_passed : side n r.tag r.level ≡ S.Passed → edit_behind n j f (r ∷ rs) ≡ r ∷ edit_behind n j f rs
  unfolding edit_behind
  behind_passed e = rw (e, edit_behind)

-- ---- the children after a change of the children at another level, and at the same

pub kids_stop : (m n : ℕ) (rs : List Rec) → n < m → Stops n rs → kids m rs ≡ []
unfolding kids keep
kids_stop m n [] h s = refl
kids_stop m n (r ∷ rs) h s = rw (side_beyond m r.tag r.level (omega arith))

module _ (n : ℕ) (r : Rec) (x : List Rec) where
  kids-put_passed : (o : Option (List ℕ)) → side n r.tag r.level ≡ S.Passed → kids n (put o r x) ≡ kids n x
  unfolding kids keep put with_body
  kids-put_passed None e = refl
  kids-put_passed (Some b) e = rw e

  kids-put_owned : (o : Option (List ℕ)) → side n r.tag r.level ≡ S.Owned → kids n (put o r x) ≡ put o r (kids n x)
  unfolding kids keep put with_body
  kids-put_owned None e = refl
  kids-put_owned (Some b) e = rw e

  -- a record that ends the run does so with a new body; where it goes, what comes after it has to
  kids-put_beyond : (o : Option (List ℕ)) → side n r.tag r.level ≡ S.Beyond → (o ≡ None → kids n x ≡ []) → kids n (put o r x) ≡ []
  unfolding kids keep put with_body
  kids-put_beyond None e h = h refl
  kids-put_beyond (Some b) e h = rw e

pub kids_above : (m n j : ℕ) (f : Change) (rs : List Rec) → m < n → kids m (edit_behind n j f rs) ≡ kids m rs
unfolding kids keep edit_behind
kids_above m n j f [] h = refl
kids_above m n j f (r ∷ rs) h = elim (which n r.tag r.level) [
  | is_beyond l e ↦ rw (behind_beyond n j f r rs e)
  | is_owned l t e ↦
      let d : side m r.tag r.level ≡ S.Passed = side_deeper m r.tag r.level (omega arith) in
      rw (behind_owned n j f r rs e, d, kids-put_passed m r (edit_behind n (count_control r.tag j) f rs) (f (as_child j r)) d) (kids_above m n (count_control r.tag j) f rs h)
  | is_passed l e ↦ rw (behind_passed n j f r rs e, kids_above m n j f rs h)
]

pub kids-same : (n j : ℕ) (f : Change) (rs : List Rec) → kids n (edit_behind n j f rs) ≡ changed j f (kids n rs)
unfolding kids keep edit_behind changed
kids-same n j f [] = refl
kids-same n j f (r ∷ rs) = elim (which n r.tag r.level) [
  | is_beyond l e ↦ rw (behind_beyond n j f r rs e, e)
  | is_owned l t e ↦ rw (behind_owned n j f r rs e, kids-put_owned n r (edit_behind n (count_control r.tag j) f rs) (f (as_child j r)) e, e, kids-same n (count_control r.tag j) f rs)
  | is_passed l e ↦ rw (behind_passed n j f r rs e, e) (kids-same n j f rs)
]

pub kids-below : (m n j : ℕ) (f : Change) (rs : List Rec) → n < m → TakesLayout f → Leaves rs → kids m (edit_behind n j f rs) ≡ kids m rs
unfolding kids keep edit_behind
kids-below m n j f [] h q v = refl
kids-below m n j f (r ∷ rs) h q v = elim (which n r.tag r.level) [
  | is_beyond l e ↦ rw (behind_beyond n j f r rs e)
  | is_owned l t e ↦
      let d : side m r.tag r.level ≡ S.Beyond = side_beyond m r.tag r.level (omega arith) in
      let ih = kids-below m n (count_control r.tag j) f rs h q v.1 in
      rw (behind_owned n j f r rs e, d) (kids-put_beyond m r (edit_behind n (count_control r.tag j) f rs) (f (as_child j r)) d
      (λ o. ih ∙ kids_stop m r.level rs (omega arith) (v.0 (q (as_child j r) o))))
  | is_passed l e ↦ rw (behind_passed n j f r rs e, kids-below m n j f rs h q v.1)
]

-- ---- the paragraphs after a change of some children

views-put : (o : Option (List ℕ)) (r : Rec) (x : List Rec) → 67 ≤ r.tag → views (put o r x) ≡ views x
unfolding views put with_body
views-put None r x h = refl
views-put (Some b) r x h = rw (ne_eqb r.tag 66 (λ e. omega arith))

pub views-behind : (n j : ℕ) (f : Change) (rs : List Rec) → TakesLayout f → Leaves rs → views (edit_behind n j f rs) ≡ views rs
unfolding views edit_behind view
views-behind n j f [] q v = refl
views-behind n j f (r ∷ rs) q v = elim (which n r.tag r.level) [
  | is_beyond l e ↦ rw (behind_beyond n j f r rs e)
  | is_owned l t e ↦ rw (behind_owned n j f r rs e, views-put (f (as_child j r)) r (edit_behind n (count_control r.tag j) f rs) t, ne_eqb r.tag 66 (λ z. omega arith)) (views-behind n (count_control r.tag j) f rs q v.1)
  | is_passed l e ↦ rw (behind_passed n j f r rs e, kids-below (suc r.level) n j f rs (omega arith) q v.1, views-behind n j f rs q v.1)
]

-- ---- the clauses of `edit_at`

module _ (e : Edit) (r : Rec) (rs : List Rec) where
  pub at_here : r.tag ≡ 66 → edit_at 0 e (r ∷ rs) ≡ edit_here e r rs
  unfolding edit_at
  at_here h = rw (eq-eqb r.tag 66 h, edit_at)

  pub at_next : (i : ℕ) → r.tag ≡ 66 → edit_at (suc i) e (r ∷ rs) ≡ r ∷ edit_at i e rs
  unfolding edit_at
  at_next i h = rw (eq-eqb r.tag 66 h, edit_at)

  pub at_past : (i : ℕ) → (r.tag ≡ 66 → ⊥) → edit_at i e (r ∷ rs) ≡ r ∷ edit_at i e rs
  unfolding edit_at
  at_past zero h = rw (ne_eqb r.tag 66 h, edit_at)
  at_past (suc i) h = rw (ne_eqb r.tag 66 h, edit_at)

-- a paragraph header is no owned child
pub side-header : (n t l : ℕ) → t ≡ 66 → (side n t l ≡ S.Beyond) ⊎ ((n ≤ l) × (side n t l ≡ S.Passed))
side-header n t l h = elim (which n t l) [
  | is_beyond k e ↦ inl e
  | is_owned k q e ↦ absurd (omega arith)
  | is_passed k e ↦ inr (k, e)
]

-- ---- the frame: what a change of paragraph i leaves, and what it makes

pub kids-edit_at : (m i : ℕ) (e : Edit) (rs : List Rec) → kids m (edit_at i e rs) ≡ kids m rs
unfolding kids keep edit_at edit_here with_body
kids-edit_at m i e [] = refl
kids-edit_at m zero e (r ∷ rs) = elim (eq_or r.tag 66) [
  | inl h ↦ rw (at_here e r rs h) (go (side-header m r.tag r.level h))
  | inr h ↦ rw (at_past e r rs zero h, kids-edit_at m zero e rs)
]
  where
    go : (side m r.tag r.level ≡ S.Beyond) ⊎ ((m ≤ r.level) × (side m r.tag r.level ≡ S.Passed))
        → kids m (edit_here e r rs) ≡ kids m (r ∷ rs)
    go (inl s) = rw s
    go (inr s) = rw s.1 (kids_above m (suc r.level) 0 e.child rs (omega arith))
kids-edit_at m (suc i) e (r ∷ rs) = elim (eq_or r.tag 66) [
  | inl h ↦ rw (at_next e r rs i h, kids-edit_at m i e rs)
  | inr h ↦ rw (at_past e r rs (suc i) h, kids-edit_at m (suc i) e rs)
]

module _ (e : Edit) (q : TakesLayout e.child) where
  pub views-edit_at : (i : ℕ) (rs : List Rec) → Leaves rs → views (edit_at i e rs) ≡ modified i (edit_view e) (views rs)
  unfolding views view edit_at edit_here with_body modified edit_view
  views-edit_at i [] v = refl
  views-edit_at zero (r ∷ rs) v = elim (eq_or r.tag 66) [
    | inl h ↦ rw (at_here e r rs h, eq-eqb r.tag 66 h, kids-same (suc r.level) 0 e.child rs, views-behind (suc r.level) 0 e.child rs q v.1)
    | inr h ↦ rw (at_past e r rs zero h, ne_eqb r.tag 66 h) (views-edit_at zero rs v.1)
  ]
  views-edit_at (suc i) (r ∷ rs) v = elim (eq_or r.tag 66) [
    | inl h ↦ rw (at_next e r rs i h, eq-eqb r.tag 66 h, kids-edit_at (suc r.level) i e rs, views-edit_at i rs v.1)
    | inr h ↦ rw (at_past e r rs (suc i) h, ne_eqb r.tag 66 h) (views-edit_at (suc i) rs v.1)
  ]

-- ---- two changes at different levels, one inside the other

behind_stop : (m n i : ℕ) (g : Change) (rs : List Rec) → n < m → Stops n rs → edit_behind m i g rs ≡ rs
unfolding edit_behind
behind_stop m n i g [] h s = refl
behind_stop m n i g (r ∷ rs) h s = behind_beyond m i g r rs (side_beyond m r.tag r.level (omega arith))

module _ (n j : ℕ) (f : Change) (r : Rec) (x : List Rec) where
  behind-put_beyond : (o : Option (List ℕ)) → side n r.tag r.level ≡ S.Beyond → (o ≡ None → edit_behind n j f x ≡ x)
      → edit_behind n j f (put o r x) ≡ put o r x
  unfolding put with_body
  behind-put_beyond None e h = h refl
  behind-put_beyond (Some b) e h = behind_beyond n j f (with_body b r) x e

  behind-put_passed : (o : Option (List ℕ)) → side n r.tag r.level ≡ S.Passed → edit_behind n j f (put o r x) ≡ put o r (edit_behind n j f x)
  unfolding put with_body
  behind-put_passed None e = refl
  behind-put_passed (Some b) e = behind_passed n j f (with_body b r) x e

pub behind_nil : (n j : ℕ) (f : Change) → edit_behind n j f [] ≡ []
unfolding edit_behind
behind_nil n j f = refl

behind-behind : (n m : ℕ) (f g : Change) → n < m → TakesLayout f → (j i : ℕ) (rs : List Rec) → Leaves rs
    → edit_behind n j f (edit_behind m i g rs) ≡ edit_behind m i g (edit_behind n j f rs)
behind-behind n m f g h q j i [] v = cc (behind_nil n j f, behind_nil m i g)
behind-behind n m f g h q j i (r ∷ rs) v = elim (which n r.tag r.level) [
  | is_beyond l e ↦ cc (behind_beyond n j f r rs e, behind_beyond m i g r rs (side_beyond m r.tag r.level (omega arith)))
  | is_owned l t e ↦
      let d : side m r.tag r.level ≡ S.Beyond = side_beyond m r.tag r.level (omega arith) in
      let ih = behind-behind n m f g h q (count_control r.tag j) i rs v.1 in
      cc (
        behind_beyond m i g r rs d,
        behind_owned n j f r rs e,
        behind-put_beyond m i g r (edit_behind n (count_control r.tag j) f rs) (f (as_child j r)) d
            (λ o. sym ih ∙ ap (edit_behind n (count_control r.tag j) f) (behind_stop m r.level i g rs (omega arith) (v.0 (q (as_child j r) o)))),
      )
  | is_passed l e ↦ elim (which m r.tag r.level) [
    | is_beyond l' e' ↦ cc (behind_beyond m i g r rs e', behind_passed n j f r rs e, behind_beyond m i g r (edit_behind n j f rs) e')
    | is_owned l' t' e' ↦
        cc (
          behind_owned m i g r rs e',
          behind_passed n j f r rs e,
          behind_owned m i g r (edit_behind n j f rs) e',
          behind-put_passed n j f r (edit_behind m (count_control r.tag i) g rs) (g (as_child i r)) e,
          behind-behind n m f g h q j (count_control r.tag i) rs v.1,
        )
    | is_passed l' e' ↦
        cc (
          behind_passed m i g r rs e',
          behind_passed n j f r rs e,
          behind_passed m i g r (edit_behind n j f rs) e',
          behind_passed n j f r (edit_behind m i g rs) e,
          behind-behind n m f g h q j i rs v.1,
        )
  ]
]

-- ---- a change of one paragraph's children, and a change of another paragraph

pub at_nil : (i : ℕ) (e : Edit) → edit_at i e [] ≡ []
unfolding edit_at
at_nil i e = refl

-- with the view by another name
pub at_view : (e : Edit) (r : Rec) (rs : List Rec) (w : View) → r.tag ≡ 66 → view r rs ≡ w
    → edit_at 0 e (r ∷ rs) ≡ with_body (e.head w) r ∷ edit_behind (suc r.level) 0 e.child rs
unfolding edit_here
at_view e r rs w h q = rw (← q) (at_here e r rs h)

view-behind : (n j : ℕ) (f : Change) (r : Rec) (rs : List Rec) → n ≤ r.level → TakesLayout f → Leaves rs → view r (edit_behind n j f rs) ≡ view r rs
unfolding view
view-behind n j f r rs l q v = rw (kids-below (suc r.level) n j f rs (omega arith) q v)

view-edit_at : (i : ℕ) (e : Edit) (r : Rec) (rs : List Rec) → view r (edit_at i e rs) ≡ view r rs
unfolding view
view-edit_at i e r rs = rw (kids-edit_at (suc r.level) i e rs)

at_put : (k : ℕ) (e : Edit) (o : Option (List ℕ)) (r : Rec) (x : List Rec) → (r.tag ≡ 66 → ⊥) → edit_at k e (put o r x) ≡ put o r (edit_at k e x)
unfolding put with_body
at_put k e None r x h = refl
at_put k e (Some b) r x h = at_past e (with_body b r) x k h

module _ (e : Edit) (n : ℕ) (f : Change) (q : TakesLayout f) where
  behind_at : (j k : ℕ) (rs : List Rec) → Leaves rs → edit_behind n j f (edit_at k e rs) ≡ edit_at k e (edit_behind n j f rs)
  unfolding with_body
  behind_at j k [] v = cc (behind_nil n j f, at_nil k e)
  behind_at j k (r ∷ rs) v = elim (eq_or r.tag 66) [
    | inl h ↦ elim (side-header n r.tag r.level h) [
      | inl s ↦ ended k h s
      | inr s ↦ inside k h s.0 s.1 (λ k'. behind_at j k' rs v.1)
    ]
    | inr h ↦ elim (which n r.tag r.level) [
      | is_beyond l s ↦ cc (at_past e r rs k h, behind_beyond n j f r (edit_at k e rs) s, behind_beyond n j f r rs s)
      | is_owned l t s ↦ cc (
        at_past e r rs k h,
        behind_owned n j f r (edit_at k e rs) s,
        behind_owned n j f r rs s,
        at_put k e (f (as_child j r)) r (edit_behind n (count_control r.tag j) f rs) h,
        behind_at (count_control r.tag j) k rs v.1,
      )
      | is_passed l s ↦ cc (at_past e r rs k h, behind_passed n j f r (edit_at k e rs) s, behind_passed n j f r rs s, at_past e r (edit_behind n j f rs) k h, behind_at j k rs v.1)
    ]
  ]
    where
      ended : (k : ℕ) → r.tag ≡ 66 → side n r.tag r.level ≡ S.Beyond
          → edit_behind n j f (edit_at k e (r ∷ rs)) ≡ edit_at k e (edit_behind n j f (r ∷ rs))
      ended zero h s =
          cc (
            at_view e r rs (view r rs) h refl,
            behind_beyond n j f r rs s,
            behind_beyond n j f (with_body (e.head (view r rs)) r) (edit_behind (suc r.level) 0 e.child rs) s,
          )
      ended (suc k) h s = cc (at_next e r rs k h, behind_beyond n j f r (edit_at k e rs) s, behind_beyond n j f r rs s)

      inside : (k : ℕ) → r.tag ≡ 66 → n ≤ r.level → side n r.tag r.level ≡ S.Passed
          → ((k : ℕ) → edit_behind n j f (edit_at k e rs) ≡ edit_at k e (edit_behind n j f rs))
          → edit_behind n j f (edit_at k e (r ∷ rs)) ≡ edit_at k e (edit_behind n j f (r ∷ rs))
      inside zero h l s ih =
          cc (
            at_view e r rs (view r rs) h refl,
            behind_passed n j f r rs s,
            behind_passed n j f (with_body (e.head (view r rs)) r) (edit_behind (suc r.level) 0 e.child rs) s,
            at_view e r (edit_behind n j f rs) (view r rs) h (view-behind n j f r rs l q v.1),
            behind-behind n (suc r.level) f e.child (omega arith) q j 0 rs v.1,
          )
      inside (suc k) h l s ih = let ihk = ih k in cc (at_next e r rs k h, behind_passed n j f r (edit_at k e rs) s, behind_passed n j f r rs s, at_next e r (edit_behind n j f rs) k h)

-- changes of two paragraphs commute
module _ (d e : Edit) (q : TakesLayout d.child) where
  pub at_at : (i k : ℕ) (rs : List Rec) → i < k → Leaves rs → edit_at i d (edit_at k e rs) ≡ edit_at k e (edit_at i d rs)
  unfolding with_body
  at_at i k [] h v = cc (at_nil i d, at_nil k e)
  at_at i zero (r ∷ rs) h v = absurd (omega arith)
  at_at zero (suc k) (r ∷ rs) h v = elim (eq_or r.tag 66) [
    | inl t ↦ cc (
      at_next e r rs k t,
      at_view d r (edit_at k e rs) (view r rs) t (view-edit_at k e r rs),
      at_view d r rs (view r rs) t refl,
      at_next e (with_body (d.head (view r rs)) r) (edit_behind (suc r.level) 0 d.child rs) k t,
      behind_at e (suc r.level) d.child q 0 k rs v.1,
    )
    | inr t ↦ cc (
      at_past e r rs (suc k) t,
      at_past d r rs zero t,
      at_past d r (edit_at (suc k) e rs) zero t,
      at_past e r (edit_at zero d rs) (suc k) t,
      at_at zero (suc k) rs h v.1,
    )
  ]
  at_at (suc i) (suc k) (r ∷ rs) h v = elim (eq_or r.tag 66) [
    | inl t ↦ cc (at_next e r rs k t, at_next d r rs i t, at_next d r (edit_at k e rs) i t, at_next e r (edit_at i d rs) k t, at_at i k rs (omega arith) v.1)
    | inr t ↦ cc (
      at_past e r rs (suc k) t,
      at_past d r rs (suc i) t,
      at_past d r (edit_at (suc k) e rs) (suc i) t,
      at_past e r (edit_at (suc i) d rs) (suc k) t,
      at_at (suc i) (suc k) rs h v.1,
    )
  ]

-- ---- two changes of one paragraph are one change

bump_69 : (j t : ℕ) → t ≡ 69 → count_control t j ≡ j
unfolding count_control
bump_69 j t h = rw (ne_eqb t 71 (λ e. omega arith))

put_body : (o : Option (List ℕ)) (b : List ℕ) (r : Rec) (x : List Rec) → put o (with_body b r) x ≡ put o r x
unfolding put with_body
put_body None b r x = refl
put_body (Some c) b r x = refl

behind_then_put : (n j : ℕ) (f g : Change) (r : Rec) (x : List Rec) (o : Option (List ℕ)) → side n r.tag r.level ≡ S.Owned
    → (o ≡ None → r.tag ≡ 69)
    → edit_behind n j g (put o r x) ≡ put (then_body g (as_child j r) o) r (edit_behind n (count_control r.tag j) g x)
unfolding put then_body with_body
behind_then_put n j f g r x None s h = rw (bump_69 j r.tag (h refl))
behind_then_put n j f g r x (Some b) s h = behind_owned n j g (with_body b r) x s ∙ put_body (g (as_child j (with_body b r))) b r (edit_behind n (count_control r.tag j) g x)

behind_then : (n j : ℕ) (f g : Change) (rs : List Rec) → TakesLayout f → edit_behind n j g (edit_behind n j f rs) ≡ edit_behind n j (then_change f g) rs
unfolding then_change
behind_then n j f g [] q = cc (behind_nil n j f, behind_nil n j g, behind_nil n j (then_change f g))
behind_then n j f g (r ∷ rs) q = elim (which n r.tag r.level) [
  | is_beyond l s ↦ cc (behind_beyond n j f r rs s, behind_beyond n j g r rs s, behind_beyond n j (then_change f g) r rs s)
  | is_owned l t s ↦ cc (
    behind_owned n j f r rs s,
    behind_then_put n j f g r (edit_behind n (count_control r.tag j) f rs) (f (as_child j r)) s (q (as_child j r)),
    behind_owned n j (then_change f g) r rs s,
    behind_then n (count_control r.tag j) f g rs q,
  )
  | is_passed l s ↦ cc (behind_passed n j f r rs s, behind_passed n j g r (edit_behind n j f rs) s, behind_passed n j (then_change f g) r rs s, behind_then n j f g rs q)
]

view_here : (e : Edit) (r : Rec) (rs : List Rec)
    → view (with_body (e.head (view r rs)) r) (edit_behind (suc r.level) 0 e.child rs) ≡ edit_view e (view r rs)
unfolding view edit_view with_body
view_here e r rs = rw (kids-same (suc r.level) 0 e.child rs)

module _ (e d : Edit) (q : TakesLayout e.child) where
  pub at_after : (i : ℕ) (rs : List Rec) → edit_at i d (edit_at i e rs) ≡ edit_at i (then_edit e d) rs
  unfolding with_body then_edit
  at_after i [] = cc (at_nil i e, at_nil i d, at_nil i (then_edit e d))
  at_after zero (r ∷ rs) = elim (eq_or r.tag 66) [
    | inl t ↦ cc (
      at_view e r rs (view r rs) t refl,
      at_view (then_edit e d) r rs (view r rs) t refl,
      at_view d (with_body (e.head (view r rs)) r) (edit_behind (suc r.level) 0 e.child rs) (edit_view e (view r rs)) t (view_here e r rs),
      behind_then (suc r.level) 0 e.child d.child rs q,
    )
    | inr t ↦ cc (at_past e r rs zero t, at_past d r (edit_at zero e rs) zero t, at_past (then_edit e d) r rs zero t, at_after zero rs)
  ]
  at_after (suc i) (r ∷ rs) = elim (eq_or r.tag 66) [
    | inl t ↦ cc (at_next e r rs i t, at_next d r (edit_at i e rs) i t, at_next (then_edit e d) r rs i t, at_after i rs)
    | inr t ↦ cc (at_past e r rs (suc i) t, at_past d r (edit_at (suc i) e rs) (suc i) t, at_past (then_edit e d) r rs (suc i) t, at_after (suc i) rs)
  ]

-- ---- two changes that agree on the paragraph's view are one

-- two changes say the same of a list of children, before which j control headers stand
abbrev pub Agree : ℕ → Change → Change → List Rec → Type 0
Agree j f g [] = Unit {0}
Agree j f g (r ∷ k) = (f (as_child j r) ≡ g (as_child j r)) × Agree (count_control r.tag j) f g k

behind_cong : (n j : ℕ) (f g : Change) (rs : List Rec) → Agree j f g (kids n rs) → edit_behind n j f rs ≡ edit_behind n j g rs
unfolding kids keep
behind_cong n j f g [] a = cc (behind_nil n j f, behind_nil n j g)
behind_cong n j f g (r ∷ rs) a = elim (which n r.tag r.level) [
  | is_beyond l s ↦ cc (behind_beyond n j f r rs s, behind_beyond n j g r rs s)
  | is_owned l t s ↦
      let b : Agree j f g (r ∷ kids n rs) = rw s at a in
      cc (behind_owned n j f r rs s, behind_owned n j g r rs s, b.0, behind_cong n (count_control r.tag j) f g rs b.1)
  | is_passed l s ↦ cc (behind_passed n j f r rs s, behind_passed n j g r rs s, behind_cong n j f g rs (rw s at a))
]

-- two changes that agree on the view of paragraph i
abbrev pub AgreeAt : Edit → Edit → Option View → Type 0
AgreeAt e d None = Unit {0}
AgreeAt e d (Some v) = (e.head v ≡ d.head v) × Agree 0 e.child d.child v.own

pub at_cong : (i : ℕ) (e d : Edit) (rs : List Rec) → AgreeAt e d (slice_get (views rs) i) → edit_at i e rs ≡ edit_at i d rs
unfolding views view
at_cong i e d [] a = cc (at_nil i e, at_nil i d)
at_cong zero e d (r ∷ rs) a = elim (eq_or r.tag 66) [
  | inl t ↦
      let b : AgreeAt e d (Some (view r rs)) = rw (eq-eqb r.tag 66 t) at a in
      cc (at_view e r rs (view r rs) t refl, at_view d r rs (view r rs) t refl, b.0, behind_cong (suc r.level) 0 e.child d.child rs b.1)
  | inr t ↦ cc (at_past e r rs zero t, at_past d r rs zero t, at_cong zero e d rs (rw (ne_eqb r.tag 66 t) at a))
]
at_cong (suc i) e d (r ∷ rs) a = elim (eq_or r.tag 66) [
  | inl t ↦ cc (at_next e r rs i t, at_next d r rs i t, at_cong i e d rs (rw (eq-eqb r.tag 66 t) at a))
  | inr t ↦ cc (at_past e r rs (suc i) t, at_past d r rs (suc i) t, at_cong (suc i) e d rs (rw (ne_eqb r.tag 66 t) at a))
]
