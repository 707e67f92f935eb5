-- Parent and child are one notion: `parent_of` finds the nearest earlier record of smaller level, and in records that keep the level rule
-- `children` are exactly the records whose parent that one is, of every tag. Assumes nothing.
use Prim.Native.Nat.{ℕ, suc, ◌+◌, ◌≤◌, ◌<◌}
use native.Mathlib.Omega.{arith}
use mathlib.Core.Path.{◌≡◌, refl, sym, ap, ◌∙◌, subst}
use mathlib.Core.Logic.{◌↔◌}
use mathlib.Core.Bool.{Bool, true, false}
use mathlib.Core.List.{List, [], ◌∷◌, ◌++◌}
use lib.Dec.{ltb, eqb}
use lib.ListN.{length}
use borrow.Author.Tests.{lt-ltb, le-ltb, eq-eqb, ne_eqb, ltb-true, ltb-false, eqb-true, eqb-false}
use Rattle.records.specs.Records.{Rec, Lawful}
use Rattle.records.specs.Parents.{NoneBelow, Parent, WithParent, end, child, other, parent_of, keep_if, children}

-- ---- the clauses

module _ (level : ℕ) (r : Rec) (e : List Rec) where
  pub parent_skip : level ≤ r.level → parent_of level (r ∷ e) ≡ parent_of level e
  unfolding parent_of
  parent_skip h = rw (le-ltb r.level level h)

  pub parent_here : r.level < level → parent_of level (r ∷ e) ≡ r ∷ e
  unfolding parent_of
  parent_here h = rw (lt-ltb r.level level h)

module _ (n : ℕ) (r : Rec) (rs : List Rec) where
  pub children_beyond : r.level < n → children n (r ∷ rs) ≡ []
  unfolding children
  children_beyond h = rw (lt-ltb r.level n h)

  pub children_here : r.level ≡ n → children n (r ∷ rs) ≡ r ∷ children n rs
  unfolding children keep_if
  children_here h = rw (le-ltb r.level n (omega arith), eq-eqb r.level n h)

  pub children_deeper : n < r.level → children n (r ∷ rs) ≡ children n rs
  unfolding children keep_if
  children_deeper h = rw (le-ltb r.level n (omega arith), ne_eqb r.level n (λ q. omega arith))

-- ---- the parent

-- a parent stands among the earlier records
pub parent_short : (level : ℕ) (e : List Rec) → length (parent_of level e) ≤ length e
unfolding parent_of
parent_short level [] = omega arith
parent_short level (r ∷ e) = go (ltb r.level level) refl (parent_short level e)
  where
    go : (b : Bool) → ltb r.level level ≡ b → length (parent_of level e) ≤ length e → length (parent_of level (r ∷ e)) ≤ suc (length e)
    go true q k = subst (λ (l : List Rec). length l ≤ suc (length e)) (sym (parent_here level r e (ltb-true r.level level q))) (omega arith)
    go false q k = subst (λ (l : List Rec). length l ≤ suc (length e)) (sym (parent_skip level r e (ltb-false r.level level q))) (omega arith)

module _ (level : ℕ) {p : Rec} {before : List Rec} where
  found_is : (e : List Rec) → parent_of level e ≡ p ∷ before → Parent level e p before
  unfolding parent_of
  found_is [] q = absurd (let z : ◌≡◌ {A = ℕ} 0 1 = cc in omega arith)
  found_is (r ∷ e) q = go (ltb r.level level) refl (found_is e)
    where
      go : (b : Bool) → ltb r.level level ≡ b → (parent_of level e ≡ p ∷ before → Parent level e p before) → Parent level (r ∷ e) p before
      go true t k =
          let a : r ∷ e ≡ p ∷ before = sym (parent_here level r e (ltb-true r.level level t)) ∙ q in
          let same : r ≡ p = cc in
          record { between = []; split = a; smaller = omega (arith, ltb-true r.level level t, ap (λ (x : Rec). x.level) same); nearest = tt }
      go false t k =
          let h : level ≤ r.level = ltb-false r.level level t in
          let d = k (sym (parent_skip level r e h) ∙ q) in
          record { between = r ∷ d.between; split = ap (λ (l : List Rec). r ∷ l) d.split; smaller = d.smaller; nearest = (h, d.nearest) }

  past : (between : List Rec) → NoneBelow level between → p.level < level → parent_of level (between ++ p ∷ before) ≡ p ∷ before
  past [] w h = parent_here level p before h
  past (r ∷ between) w h = parent_skip level r (between ++ p ∷ before) w.0 ∙ past between w.1 h

  -- parent_of finds the nearest earlier record of smaller level, and nothing else
  pub parent_exactly : (e : List Rec) → (parent_of level e ≡ p ∷ before) ↔ Parent level e p before
  parent_exactly e = (found_is e, λ k. ap (parent_of level) k.split ∙ past k.between k.nearest k.smaller)

-- there is no parent exactly where no earlier record has a smaller level
pub parent_none : (level : ℕ) (e : List Rec) → (parent_of level e ≡ []) ↔ NoneBelow level e
parent_none level e = (none_is e, none_found e)
  where
    none_is : (e : List Rec) → parent_of level e ≡ [] → NoneBelow level e
    none_is [] q = tt
    none_is (r ∷ e) q = go (ltb r.level level) refl (none_is e)
      where
        go : (b : Bool) → ltb r.level level ≡ b → (parent_of level e ≡ [] → NoneBelow level e) → NoneBelow level (r ∷ e)
        go true t k =
            absurd (let a : r ∷ e ≡ [] = sym (parent_here level r e (ltb-true r.level level t)) ∙ q in let z : ◌≡◌ {A = ℕ} 0 1 = cc in omega arith)
        go false t k = let h : level ≤ r.level = ltb-false r.level level t in (h, k (sym (parent_skip level r e h) ∙ q))

    none_found : (e : List Rec) → NoneBelow level e → parent_of level e ≡ []
    none_found [] w = unfold parent_of in refl
    none_found (r ∷ e) w = parent_skip level r e w.0 ∙ none_found e w.1

-- ---- the children

module _ (p : Rec) (before : List Rec) where
  -- behind p, where no record of its level or a smaller one has come yet, and the next level is at most cap
  record Open (e : List Rec) (cap : ℕ) : Type 0 where
    found : parent_of (p.level + 1) e ≡ p ∷ before
    deeper : (l : ℕ) → p.level + 1 < l → l ≤ cap → parent_of l e ≡ p ∷ before → ⊥

  -- behind such a record p is the parent of none
  record Shut (e : List Rec) : Type 0 where
    behind : length before < length e
    never : (l : ℕ) → parent_of l e ≡ p ∷ before → ⊥

  inside : {e : List Rec} {cap : ℕ} → Open e cap → length before < length e
  inside {e} o = omega (arith, parent_short (p.level + 1) e, ap length o.found)

  -- a parent that stands behind p is not p
  nearer : (l : ℕ) (r : Rec) (e : List Rec) → length before < length e → r.level < l → parent_of l (r ∷ e) ≡ p ∷ before → ⊥
  nearer l r e h a q = omega (arith, ap length (sym (parent_here l r e a) ∙ q))

  by_level : (l : ℕ) (r : Rec) (e : List Rec) → length before < length e → (l ≤ r.level → parent_of l e ≡ p ∷ before → ⊥)
      → parent_of l (r ∷ e) ≡ p ∷ before → ⊥
  by_level l r e h k q = go (ltb r.level l) refl
    where
      go : (b : Bool) → ltb r.level l ≡ b → ⊥
      go true t = nearer l r e h (ltb-true r.level l t) q
      go false t = let a : l ≤ r.level = ltb-false r.level l t in k a (sym (parent_skip l r e a) ∙ q)

  open_start : Open (p ∷ before) (p.level + 1)
  open_start = record { found = parent_here (p.level + 1) p before (omega arith); deeper = λ l a b q. omega arith }

  module _ (r : Rec) {e : List Rec} where
    open_next : {cap : ℕ} → Open e cap → p.level + 1 ≤ r.level → r.level ≤ cap → Open (r ∷ e) (r.level + 1)
    open_next o h c =
        record {
          found = parent_skip (p.level + 1) r e h ∙ o.found;
          deeper = λ l a b q. by_level l r e (inside o) (λ k z. o.deeper l a (omega arith) z) q;
        }

    shut_by : {cap : ℕ} → Open e cap → r.level < p.level + 1 → Shut (r ∷ e)
    shut_by o h =
        record {
          behind = omega (arith, inside o);
          never = λ l q. by_level l r e (inside o) (λ k z. omega (arith, ((parent_exactly l e).0 z).smaller)) q;
        }

    shut_next : Shut e → Shut (r ∷ e)
    shut_next s = record { behind = omega (arith, s.behind); never = λ l q. by_level l r e s.behind (λ k z. s.never l z) q }

  none_left : (e rs : List Rec) → Shut e → WithParent p before e rs []
  none_left e [] s = end
  none_left e (r ∷ rs) s = other (λ k. s.never r.level ((parent_exactly r.level e).1 k)) (none_left (r ∷ e) rs (shut_next r s))

  those : (e : List Rec) (cap : ℕ) (rs : List Rec) → Open e cap → Lawful cap rs → WithParent p before e rs (children (p.level + 1) rs)
  those e cap [] o l = unfold children in end
  those e cap (r ∷ rs) o l =
      go (ltb r.level n) refl (eqb r.level n) refl (λ h. those (r ∷ e) (r.level + 1) rs (open_next r o h l.0.level_cap) l.1)
    where
      n : ℕ
      n = p.level + 1

      go : (b : Bool) → ltb r.level n ≡ b → (c : Bool) → eqb r.level n ≡ c → (n ≤ r.level → WithParent p before (r ∷ e) rs (children n rs))
          → WithParent p before e (r ∷ rs) (children n (r ∷ rs))
      go true t c u k =
          let h : r.level < n = ltb-true r.level n t in
          subst (WithParent p before e (r ∷ rs)) (sym (children_beyond n r rs h))
          (other (λ z. omega (arith, z.smaller)) (none_left (r ∷ e) rs (shut_by r o h)))
      go false t true u k =
          let h : r.level ≡ n = eqb-true r.level n u in
          subst (WithParent p before e (r ∷ rs)) (sym (children_here n r rs h))
          (child ((parent_exactly r.level e).0 (ap (λ (l : ℕ). parent_of l e) h ∙ o.found)) (k (omega arith)))
      go false t false u k =
          let h : n < r.level = omega (arith, ltb-false r.level n t, eqb-false r.level n u) in
          subst (WithParent p before e (r ∷ rs)) (sym (children_deeper n r rs h))
          (other (λ z. o.deeper r.level h l.0.level_cap ((parent_exactly r.level e).1 z)) (k (omega arith)))

  same-children : {e rs ks js : List Rec} → WithParent p before e rs ks → WithParent p before e rs js → ks ≡ js
  same-children end end = refl
  same-children (child {r = r} a w) (child b v) = ap (λ (l : List Rec). r ∷ l) (same-children w v)
  same-children (child a w) (other n v) = absurd (n a)
  same-children (other n w) (child b v) = absurd (n b)
  same-children (other n w) (other m v) = same-children w v

  -- of a record p, which stands behind the records `before`, and of the records rs behind it, the children of p are exactly those whose parent
  -- is p; `lawful_behind` gives the level rule behind p from that of the whole stream
  pub children_exactly : (rs ks : List Rec) → Lawful (p.level + 1) rs
      → (children (p.level + 1) rs ≡ ks) ↔ WithParent p before (p ∷ before) rs ks
  children_exactly rs ks l =
      let w = those (p ∷ before) (p.level + 1) rs open_start l in
      ((λ q. subst (WithParent p before (p ∷ before) rs) q w), λ v. same-children w v)

-- what stands behind a record of a lawful list keeps the level rule behind it
pub lawful_behind : (cap : ℕ) (front : List Rec) (p : Rec) (rs : List Rec) → Lawful cap (front ++ p ∷ rs) → Lawful (p.level + 1) rs
lawful_behind cap [] p rs l = l.1
lawful_behind cap (r ∷ front) p rs l = lawful_behind (r.level + 1) front p rs l.1
