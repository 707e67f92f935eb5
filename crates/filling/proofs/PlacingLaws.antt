-- An edit that takes away layout records only keeps the rules of place and level. Assumes nothing.
use Rattle.std.specs.Prelude.{None, Option, Some}
use mathlib.Core.Path.{◌≡◌, refl}
use mathlib.Core.Logic.{inl, inr}
use Prim.Native.Nat.{ℕ, zero, suc, ◌+◌, ◌≤◌, ◌<◌}
use native.Mathlib.Omega.{arith}
use mathlib.Core.List.{List, [], ◌∷◌}
use lib.ListN.{length}
use Rattle.records.specs.Records.{Rec, RecordObeys, Lawful}
use Rattle.records.specs.Parents.{Lacks}
use Rattle.text.proofs.Cases.{eq_or}
use Rattle.paragraph.specs.View.{kids, view}
use Rattle.filling.specs.Editing.{Change, Edit, with_body, put, count_control, changed, edit_behind, edit_at, TakesLayout, as_child}
use Rattle.filling.specs.Placing.{Stops, Leaves, Bodies, Once, Rule, Each, Followed}
use Rattle.filling.proofs.EditLaws.{is_beyond, is_owned, is_passed, which, behind_beyond, behind_owned, behind_passed, behind_nil, kids-same, kids-below, kids-edit_at, at_next, at_past, at_nil, at_view}

pub leaves : (rs : List Rec) → Each rs → Leaves rs
leaves [] e = tt
leaves (r ∷ rs) e = ((λ t. e.0.leaf (omega arith) (omega arith)), leaves rs e.1)

-- ---- the rules for a list of children under a change

lacks-put : (t : ℕ) (o : Option (List ℕ)) (r : Rec) (x : List Rec) → (r.tag ≡ t → ⊥) → Lacks t x → Lacks t (put o r x)
unfolding put with_body
lacks-put t None r x h l = l
lacks-put t (Some b) r x h l = (h, l)

lacks-changed : (t j : ℕ) (f : Change) (k : List Rec) → Lacks t k → Lacks t (changed j f k)
unfolding changed
lacks-changed t j f [] l = tt
lacks-changed t j f (r ∷ k) l = lacks-put t (f (as_child j r)) r (changed (count_control r.tag j) f k) l.0 (lacks-changed t (count_control r.tag j) f k l.1)

once-put : (o : Option (List ℕ)) (r : Rec) (x : List Rec) → (r.tag ≤ 70 → Lacks r.tag x) → Once x → Once (put o r x)
unfolding put with_body
once-put None r x h l = l
once-put (Some b) r x h l = (h, l)

once-changed : (j : ℕ) (f : Change) (k : List Rec) → Once k → Once (changed j f k)
unfolding changed
once-changed j f [] o = tt
once-changed j f (r ∷ k) o = once-put (f (as_child j r)) r (changed (count_control r.tag j) f k) (λ h. lacks-changed r.tag (count_control r.tag j) f k (o.0 h)) (once-changed (count_control r.tag j) f k o.1)

-- ---- stops and levels

stops_behind : (m n j : ℕ) (f : Change) (rs : List Rec) → TakesLayout f → Leaves rs → Stops m rs → Stops m (edit_behind n j f rs)
unfolding put with_body
stops_behind m n j f [] q v s = rw (behind_nil n j f) tt
stops_behind m n j f (r ∷ rs) q v s = elim (which n r.tag r.level) [
  | is_beyond l e ↦ rw (behind_beyond n j f r rs e) s
  | is_owned l t e ↦ rw (behind_owned n j f r rs e) (go (f (as_child j r)) refl (stops_behind m n (count_control r.tag j) f rs q v.1))
  | is_passed l e ↦ rw (behind_passed n j f r rs e) s
]
  where
    weaker : (x : List Rec) → Stops r.level x → Stops m x
    weaker [] h = tt
    weaker (y ∷ x) h = omega arith

    go : (o : Option (List ℕ)) → f (as_child j r) ≡ o → (Stops m rs → Stops m (edit_behind n (count_control r.tag j) f rs))
        → Stops m (put o r (edit_behind n (count_control r.tag j) f rs))
    go None e ih = ih (weaker rs (v.0 (q (as_child j r) e)))
    go (Some b) e ih = s

-- where a record goes, what follows it may stand in its place
lawful_weaker : (l m : ℕ) (rs : List Rec) → l ≤ m → Stops l rs → Lawful (l + 1) rs → Lawful m rs
lawful_weaker l m [] h s v = tt
lawful_weaker l m (r ∷ rs) h s v =
    let o = v.0 in
    (record { tag_low = o.tag_low; tag_high = o.tag_high; level_cap = omega arith; level_high = o.level_high; body_fits = o.body_fits }, v.1)

-- a record obeys with any body that fits
obeys_body : (m : ℕ) (r : Rec) (b : List ℕ) → RecordObeys m r → length b < 4294967296 → RecordObeys m (with_body b r)
unfolding with_body
obeys_body m r b o h = record { tag_low = o.tag_low; tag_high = o.tag_high; level_cap = o.level_cap; level_high = o.level_high; body_fits = h }

lawful_behind : (m n j : ℕ) (f : Change) (rs : List Rec) → TakesLayout f → Leaves rs → Lawful m rs → Bodies (edit_behind n j f rs)
    → Lawful m (edit_behind n j f rs)
unfolding put
lawful_behind m n j f [] q v s z = rw (behind_nil n j f) tt
lawful_behind m n j f (r ∷ rs) q v s z = elim (which n r.tag r.level) [
  | is_beyond l e ↦ rw (behind_beyond n j f r rs e) s
  | is_owned l t e ↦ rw (behind_owned n j f r rs e)
      (go (f (as_child j r)) refl (λ k. lawful_behind k n (count_control r.tag j) f rs q v.1) (rw (behind_owned n j f r rs e) at z))
  | is_passed l e ↦ (let y : Bodies (r ∷ edit_behind n j f rs) = rw (behind_passed n j f r rs e) at z in
      rw (behind_passed n j f r rs e) (s.0, lawful_behind (r.level + 1) n j f rs q v.1 s.1 y.1))
]
  where
    go : (o : Option (List ℕ)) → f (as_child j r) ≡ o
        → ((k : ℕ) → Lawful k rs → Bodies (edit_behind n (count_control r.tag j) f rs) → Lawful k (edit_behind n (count_control r.tag j) f rs))
        → Bodies (put o r (edit_behind n (count_control r.tag j) f rs)) → Lawful m (put o r (edit_behind n (count_control r.tag j) f rs))
    go None e ih y = ih m (lawful_weaker r.level m rs s.0.level_cap (v.0 (q (as_child j r) e)) s.1) y
    go (Some b) e ih y = unfold with_body in (obeys_body m r b s.0 y.0, ih (r.level + 1) s.1 y.1)

-- ---- every record's rule

rule_behind : (n j : ℕ) (f : Change) (r : Rec) (b : List ℕ) (rs : List Rec) → n ≤ r.level → TakesLayout f → Leaves rs → Rule r rs
    → Rule (with_body b r) (edit_behind n j f rs)
unfolding with_body
rule_behind n j f r b rs l q v u = record {
  leaf = λ h k. stops_behind r.level n j f rs q v (u.leaf h k);
  paragraph = λ h. rw (kids-below (suc r.level) n j f rs (omega arith) q v) (u.paragraph h);
  other = λ h. rw (kids-below (suc r.level) n j f rs (omega arith) q v) (u.other h);
}

each_behind : (n j : ℕ) (f : Change) (rs : List Rec) → TakesLayout f → Each rs → Each (edit_behind n j f rs)
unfolding put with_body
each_behind n j f [] q u = rw (behind_nil n j f) tt
each_behind n j f (r ∷ rs) q u = elim (which n r.tag r.level) [
  | is_beyond l e ↦ rw (behind_beyond n j f r rs e) u
  | is_owned l t e ↦ rw (behind_owned n j f r rs e) (go (f (as_child j r)) (omega arith) (each_behind n (count_control r.tag j) f rs q u.1))
  | is_passed l e ↦ rw (behind_passed n j f r rs e) (rule_behind n j f r r.body rs l q (leaves rs u.1) u.0, each_behind n j f rs q u.1)
]
  where
    go : (o : Option (List ℕ)) → n ≤ r.level → Each (edit_behind n (count_control r.tag j) f rs)
        → Each (put o r (edit_behind n (count_control r.tag j) f rs))
    go None l ih = ih
    go (Some b) l ih = (rule_behind n (count_control r.tag j) f r b rs l q (leaves rs u.1) u.0, ih)

module _ (e : Edit) (q : TakesLayout e.child) where
  stops_edit_at : (m i : ℕ) (rs : List Rec) → Stops m rs → Stops m (edit_at i e rs)
  unfolding with_body
  stops_edit_at m i [] s = rw (at_nil i e) tt
  stops_edit_at m zero (r ∷ rs) s = elim (eq_or r.tag 66) [
    | inl t ↦ rw (at_view e r rs (view r rs) t refl) s
    | inr t ↦ rw (at_past e r rs zero t) s
  ]
  stops_edit_at m (suc i) (r ∷ rs) s = elim (eq_or r.tag 66) [
    | inl t ↦ rw (at_next e r rs i t) s
    | inr t ↦ rw (at_past e r rs (suc i) t) s
  ]

  rule_edit_at : (i : ℕ) (r : Rec) (rs : List Rec) → Rule r rs → Rule r (edit_at i e rs)
  rule_edit_at i r rs u = record {
    leaf = λ h k. stops_edit_at r.level i rs (u.leaf h k);
    paragraph = λ h. rw (kids-edit_at (suc r.level) i e rs) (u.paragraph h);
    other = λ h. rw (kids-edit_at (suc r.level) i e rs) (u.other h);
  }

  rule_here : (r : Rec) (b : List ℕ) (f : Change) (rs : List Rec) → r.tag ≡ 66 → Rule r rs → Rule (with_body b r) (edit_behind (suc r.level) 0 f rs)
  unfolding with_body
  rule_here r b f rs t u = record {
    leaf = λ h k. absurd (omega arith);
    paragraph = λ h. rw (kids-same (suc r.level) 0 f rs) (once-changed 0 f (kids (suc r.level) rs) (u.paragraph h));
    other = λ h. absurd (h t);
  }

  each_edit_at : (i : ℕ) (rs : List Rec) → Each rs → Each (edit_at i e rs)
  each_edit_at i [] u = rw (at_nil i e) tt
  each_edit_at zero (r ∷ rs) u = elim (eq_or r.tag 66) [
    | inl t ↦ rw (at_view e r rs (view r rs) t refl)
        (rule_here r (e.head (view r rs)) e.child rs t u.0, each_behind (suc r.level) 0 e.child rs q u.1)
    | inr t ↦ rw (at_past e r rs zero t) (rule_edit_at zero r rs u.0, each_edit_at zero rs u.1)
  ]
  each_edit_at (suc i) (r ∷ rs) u = elim (eq_or r.tag 66) [
    | inl t ↦ rw (at_next e r rs i t) (rule_edit_at i r rs u.0, each_edit_at i rs u.1)
    | inr t ↦ rw (at_past e r rs (suc i) t) (rule_edit_at (suc i) r rs u.0, each_edit_at (suc i) rs u.1)
  ]

  pub followed_edit_at : (i : ℕ) (rs : List Rec) → Followed rs → Followed (edit_at i e rs)
  followed_edit_at i rs p = record { roots = rw (kids-edit_at 0 i e rs) p.roots; each = each_edit_at i rs p.each }

  pub lawful_edit_at : (m i : ℕ) (rs : List Rec) → Each rs → Lawful m rs → Bodies (edit_at i e rs) → Lawful m (edit_at i e rs)
  unfolding with_body
  lawful_edit_at m i [] u l z = rw (at_nil i e) tt
  lawful_edit_at m zero (r ∷ rs) u l z = elim (eq_or r.tag 66) [
    | inl t ↦ (let y = rw (at_view e r rs (view r rs) t refl) at z in
        rw (at_view e r rs (view r rs) t refl) (
          obeys_body m r (e.head (view r rs)) l.0 y.0,
          lawful_behind (r.level + 1) (suc r.level) 0 e.child rs q (leaves rs u.1) l.1 y.1,
        ))
    | inr t ↦ (let y = rw (at_past e r rs zero t) at z in rw (at_past e r rs zero t) (l.0, lawful_edit_at (r.level + 1) zero rs u.1 l.1 y.1))
  ]
  lawful_edit_at m (suc i) (r ∷ rs) u l z = elim (eq_or r.tag 66) [
    | inl t ↦ (let y = rw (at_next e r rs i t) at z in rw (at_next e r rs i t) (l.0, lawful_edit_at (r.level + 1) i rs u.1 l.1 y.1))
    | inr t ↦ (let y = rw (at_past e r rs (suc i) t) at z in rw (at_past e r rs (suc i) t) (l.0, lawful_edit_at (r.level + 1) (suc i) rs u.1 l.1 y.1))
  ]
