-- Climbing to a parent by the parents that are already there, and holding what was climbed. Assumes nothing.
use Prim.Native.Nat.{ℕ, suc, ◌+◌, ◌-◌, ◌≤◌, ◌<◌, min}
use native.Mathlib.Omega.{arith}
use native.Mathlib.Decide.{dec_le}
use native.Mathlib.Nat.{lt_of_not-le, zero-add, add-zero, sub-zero}
use native.Mathlib.Numerals.{add-one}
use mathlib.Core.Path.{◌≡◌, refl, sym, ap, ap₂, ◌∙◌, subst}
use mathlib.Core.Logic.{◌⊎◌, inl, inr, ⊎_elim}
use mathlib.Core.Bool.{Bool, true, false}
use mathlib.Core.List.{List, [], ◌∷◌, map}
use lib.Dec.{ltb}
use lib.ListN.{length, get_or, set, take, drop, length-map, length-take, length-drop}
use lib.Seq.{get_or-set_same, get_or-set_other, drop-cons}
use borrow.Author.Tests.{ltb-true, ltb-false, eq-eqb, ne_eqb}
use Rattle.records.specs.Records.{Rec}
use Rattle.records.specs.Parents.{parent_of, index_or, parent_index}
use Rattle.records.specs.Table.{level_of, parents_from}
use Rattle.records.specs.Climbing.{Held, Behind, ParentBehind, agreeing, RightParents}
use Rattle.records.proofs.ParentLaws.{parent_skip, parent_here, parent_short}

pub length-parents_from : (earlier rs : List Rec) → length (parents_from earlier rs) ≡ length rs
unfolding parents_from
length-parents_from earlier [] = refl
length-parents_from earlier (r ∷ rs) = ap suc (length-parents_from (r ∷ earlier) rs)

-- ---- a parent, and what is above it

pub index_is : (level : ℕ) (e found : List Rec) → parent_of level e ≡ found → parent_index level e ≡ index_or (length e) found
unfolding parent_index
index_is level e found q = ap (index_or (length e)) q

-- the first record has no parent
pub nothing_before : (level : ℕ) (e : List Rec) → length e ≡ 0 → 0 ≡ parent_index level e
unfolding parent_index parent_of
nothing_before level [] q = refl
nothing_before level (r ∷ e) q = absurd (omega arith)

pub index_low : (level : ℕ) (e : List Rec) → parent_index level e ≤ length e
unfolding parent_index
index_low level e = by (parent_of level e) (parent_short level e)
  where
    by : (found : List Rec) → length found ≤ length e → index_or (length e) found ≤ length e
    by [] h = omega arith
    by (p ∷ before) h = omega arith

-- what is no smaller than a record has its parent where that record's parent is, or above it
above : (level m : ℕ) (e : List Rec) → level ≤ m → parent_of level (parent_of m e) ≡ parent_of level e
unfolding parent_of
above level m [] h = refl
above level m (r ∷ e) h = go (ltb r.level m) refl (above level m e h)
  where
    go : (b : Bool) → ltb r.level m ≡ b → parent_of level (parent_of m e) ≡ parent_of level e → parent_of level (parent_of m (r ∷ e)) ≡ parent_of level (r ∷ e)
    go true q k = ap (parent_of level) (parent_here m r e (ltb-true r.level m q))
    go false q k =
        let g : m ≤ r.level = ltb-false r.level m q in
        ap (parent_of level) (parent_skip m r e g) ∙ k ∙ sym (parent_skip level r e (omega arith))

-- ---- the lists hold the parent as they hold the records before it

module _ (levels parents : List ℕ) where
  held_parent : (m : ℕ) (e : List Rec) → Held levels parents e → Held levels parents (parent_of m e)
  unfolding parent_of
  held_parent m [] h = tt
  held_parent m (r ∷ e) h = go (ltb r.level m) refl (held_parent m e h.2)
    where
      go : (b : Bool) → ltb r.level m ≡ b → Held levels parents (parent_of m e) → Held levels parents (parent_of m (r ∷ e))
      go true q k = subst (Held levels parents) (sym (parent_here m r e (ltb-true r.level m q))) h
      go false q k = subst (Held levels parents) (sym (parent_skip m r e (ltb-false r.level m q))) k

  -- ---- the climb from the record before: it has come to the record at index `at`, and the parent that is looked for is that one or above it

  pub record Climbing (level : ℕ) (e : List Rec) (at : ℕ) : Type 0 where
    pub it : Rec
    pub below : List Rec
    pub count : length below ≡ at
    pub held : Held levels parents (it ∷ below)
    pub same : parent_of level e ≡ parent_of level (it ∷ below)
    pub within : at < length e

  pub climb_start : (level : ℕ) (e : List Rec) (index : ℕ) → length e ≡ index → (index ≡ 0 → ⊥) → Held levels parents e → Climbing level e (index - 1)
  climb_start level [] index q n h = absurd (n (sym q))
  climb_start level (r ∷ e) index q n h = record { it = r; below = e; count = omega arith; held = h; same = refl; within = omega arith }

  module _ (level : ℕ) (e : List Rec) (at : ℕ) (k : Climbing level e at) where
    level_there : get_or levels at 0 ≡ k.it.level
    level_there = ap (λ (i : ℕ). get_or levels i 0) (sym k.count) ∙ k.held.0

    parent_there : get_or parents at 0 ≡ parent_index k.it.level k.below
    parent_there = ap (λ (i : ℕ). get_or parents i 0) (sym k.count) ∙ k.held.1

    -- the record is of smaller level
    pub climb_end : get_or levels at 0 < level → at ≡ parent_index level e
    climb_end h = sym (index_is level e (k.it ∷ k.below) (k.same ∙ parent_here level k.it k.below (omega (arith, level_there))) ∙ k.count)

    module _ (h : level ≤ get_or levels at 0) where
      higher : parent_of level e ≡ parent_of level (parent_of k.it.level k.below)
      higher =
          let g : level ≤ k.it.level = omega (arith, level_there) in
          k.same ∙ parent_skip level k.it k.below g ∙ sym (above level k.it.level k.below g)

      -- what there is above the record, by the entry in the list
      data Above : Type 0 where
        nothing : get_or parents at 0 ≡ at → parent_of level e ≡ [] → Above
        further : Climbing level e (get_or parents at 0) → get_or parents at 0 < at → Above

      over : (found : List Rec) → parent_of k.it.level k.below ≡ found → Above
      over [] q =
          let there = parent_there ∙ index_is k.it.level k.below [] q ∙ k.count in
          nothing there (higher ∙ ap (parent_of level) q ∙ unfold parent_of in refl)
      over (p ∷ before) q =
          let there = parent_there ∙ index_is k.it.level k.below (p ∷ before) q in
          let low : get_or parents at 0 < at = omega (arith, there, k.count, parent_short k.it.level k.below, ap length q) in
          further
          (record {
            it = p;
            below = before;
            count = sym there;
            held = subst (Held levels parents) q (held_parent k.it.level k.below k.held.2);
            same = higher ∙ ap (parent_of level) q;
            within = omega (arith, low, k.within);
          }) low

      up : Above
      up = over (parent_of k.it.level k.below) refl

      -- the record has no parent
      pub climb_none : get_or parents at 0 ≡ at → length e ≡ parent_index level e
      climb_none q = by up
        where
          by : Above → length e ≡ parent_index level e
          by (nothing there none) = sym (index_is level e [] none)
          by (further next low) = absurd (omega arith)

      pub record Higher : Type 0 where
        pub next : Climbing level e (get_or parents at 0)
        pub low : get_or parents at 0 < at

      -- it has one, which is climbed to
      pub climb_next : (get_or parents at 0 ≡ at → ⊥) → Higher
      climb_next n = by up
        where
          by : Above → Higher
          by (nothing there none) = absurd (n there)
          by (further next low) = record { next = next; low = low }

-- the climb behind whatever records those are: where it stands, and its exits
pub record Climbs (levels parents : List ℕ) (level index at : ℕ) : Type 0 where
  pub in_levels : at < length levels
  pub in_parents : at < length parents
  pub so : (b : Behind levels parents index) → Climbing levels parents level b.earlier at

pub climbs_start : {levels parents : List ℕ} {level index : ℕ} → Behind levels parents index → (index ≡ 0 → ⊥) → Climbs levels parents level index (index - 1)
climbs_start {levels} {parents} {level} {index} b n =
    record {
      in_levels = omega (arith, n, b.in_levels);
      in_parents = omega (arith, n, b.in_parents);
      so = λ b. climb_start levels parents level b.earlier index b.count n b.held;
    }

module _ {levels parents : List ℕ} {level index at : ℕ} (k : Climbs levels parents level index at) where
  pub climbs_end : get_or levels at 0 < level → ParentBehind levels parents index level at
  climbs_end h b = climb_end levels parents level b.earlier at (k.so b) h

  module _ (h : level ≤ get_or levels at 0) {up : ℕ} (e : up ≡ get_or parents at 0) where
    pub climbs_none : up ≡ at → ParentBehind levels parents index level index
    climbs_none q b = sym b.count ∙ climb_none levels parents level b.earlier at (k.so b) h (sym e ∙ q)

    higher_than : (up ≡ at → ⊥) → (b : Behind levels parents index) → Higher levels parents level b.earlier at (k.so b) h
    higher_than n b = climb_next levels parents level b.earlier at (k.so b) h (λ q. n (e ∙ q))

    module _ (n : up ≡ at → ⊥) (b : Behind levels parents index) where
      pub climbs_low : up < at
      climbs_low = omega (arith, e, (higher_than n b).low)

      pub climbs_next : Climbs levels parents level index up
      climbs_next =
          record {
            in_levels = omega (arith, climbs_low, k.in_levels);
            in_parents = omega (arith, climbs_low, k.in_parents);
            so = λ a. rw e (higher_than n a).next;
          }

-- ---- one more record is held

kept : (l : List ℕ) (v i j : ℕ) → j < i → get_or (set l i v) j 0 ≡ get_or l j 0
kept l v i j h = get_or-set_other l i j v 0 (λ q. omega arith)

held_set : (l p : List ℕ) (v w i : ℕ) (e : List Rec) → length e ≤ i → Held l p e → Held (set l i v) (set p i w) e
held_set l p v w i [] g h = tt
held_set l p v w i (r ∷ e) g h = (kept l v i (length e) (omega arith) ∙ h.0, kept p w i (length e) (omega arith) ∙ h.1, held_set l p v w i e (omega arith) h.2)

pub held_next : (l p : List ℕ) (i : ℕ) (r : Rec) (e : List Rec) → length e ≡ i → i < length l → i < length p → Held l p e
    → Held (set l i r.level) (set p i (parent_index r.level e)) (r ∷ e)
held_next l p i r e q a b h = (
  ap (λ (j : ℕ). get_or (set l i r.level) j 0) q ∙ get_or-set_same l i r.level 0 a,
  ap (λ (j : ℕ). get_or (set p i (parent_index r.level e)) j 0) q ∙ get_or-set_same p i (parent_index r.level e) 0 b,
  held_set l p r.level (parent_index r.level e) i e (omega arith) h,
)

-- ---- how many parents of a list are right

pub agreeing-same : (x y : ℕ) (xs ys : List ℕ) → y ≡ x → agreeing (x ∷ xs) (y ∷ ys) ≡ suc (agreeing xs ys)
unfolding agreeing
agreeing-same x y xs ys e = simp (eq-eqb x y (sym e))

pub agreeing_apart : (x y : ℕ) (xs ys : List ℕ) → (y ≡ x → ⊥) → agreeing (x ∷ xs) (y ∷ ys) ≡ 0
unfolding agreeing
agreeing_apart x y xs ys n = simp (ne_eqb x y (λ e. n (sym e)))

agreeing_end : (xs ys : List ℕ) → (length xs ≡ 0) ⊎ (length ys ≡ 0) → agreeing xs ys ≡ 0
unfolding agreeing
agreeing_end [] ys h = refl
agreeing_end (x ∷ xs) [] h = refl
agreeing_end (x ∷ xs) (y ∷ ys) h = absurd (⊎_elim (λ q. omega arith) (λ q. omega arith) h)

-- some records with given levels
bare : ℕ → Rec
bare level = record { tag = 0; level = level; body = [] }

pub bares : List ℕ → List Rec
bares levels = map bare levels

pub bares_levels : (levels : List ℕ) → map level_of (bares levels) ≡ levels
unfolding bares bare
bares_levels [] = refl
bares_levels (l ∷ levels) = ap (λ (ls : List ℕ). l ∷ ls) (bares_levels levels)

-- how many are right leaves no choice, for there are records with any levels
pub right_determined : (levels parents : List ℕ) {m n : ℕ} → RightParents levels parents m → RightParents levels parents n → m ≡ n
right_determined levels parents a b = let e = bares_levels levels in a (bares levels) e ∙ sym (b (bares levels) e)

module _ (count : ℕ) (levels parents : List ℕ) where
  -- the first i entries are right; `rest` are the records that are left
  pub record Right (rs : List Rec) (i : ℕ) : Type 0 where
    pub earlier : List Rec
    pub rest : List Rec
    pub passed : length earlier ≡ i
    pub held : Held levels parents earlier
    pub left : map level_of rest ≡ take (count - i) (drop i levels)
    pub agreed : agreeing (parents_from [] rs) parents ≡ i + agreeing (parents_from earlier rest) (drop i parents)

  pub right_start : (rs : List Rec) → map level_of rs ≡ take count levels → Right rs 0
  right_start rs e = record { earlier = []; rest = rs; passed = refl; held = tt; left = simp sub-zero e; agreed = sym (zero-add _) }

  module _ (rs : List Rec) (i : ℕ) (k : Right rs i) where
    abbrev pub right-behind : i ≤ length levels → i ≤ length parents → Behind levels parents i
    right-behind a b = record { earlier = k.earlier; count = k.passed; held = k.held; in_levels = a; in_parents = b }

    module _ (a : i < count) (b : i < length levels) (c : i < length parents) where
      -- the next record is there, and has the level in the list
      record Next : Type 0 where
        it : Rec
        behind : List Rec
        is : k.rest ≡ it ∷ behind
        level_is : it.level ≡ get_or levels i 0
        left : map level_of behind ≡ take (count - (i + 1)) (drop (i + 1) levels)

      there : take (count - i) (drop i levels) ≡ get_or levels i 0 ∷ take (count - (i + 1)) (drop (i + 1) levels)
      there = let e : count - i ≡ suc (count - (i + 1)) = omega arith in simp (e, drop-cons levels i 0 b, add-one)

      by : (rest : List Rec) → k.rest ≡ rest → map level_of rest ≡ get_or levels i 0 ∷ take (count - (i + 1)) (drop (i + 1) levels) → Next
      by [] q e = absurd (let z : ◌≡◌ {A = ℕ} 0 1 = cc in omega arith)
      by (r ∷ rest) q e = record { it = r; behind = rest; is = q; level_is = cc; left = cc }

      next : Next
      next = by k.rest refl (k.left ∙ there)

      agreed_here : agreeing (parents_from [] rs) parents
          ≡ i + agreeing (parent_index (get_or levels i 0) k.earlier ∷ parents_from (next.it ∷ k.earlier) next.behind) (get_or parents i 0 ∷ drop (i + 1) parents)
      unfolding parents_from
      agreed_here =
          k.agreed
          ∙ ap₂ (λ (xs : List Rec) (ys : List ℕ). i + agreeing (parents_from k.earlier xs) ys) next.is (drop-cons parents i 0 c ∙ simp add-one)
          ∙ ap
          (λ (l : ℕ). i + agreeing (parent_index l k.earlier ∷ parents_from (next.it ∷ k.earlier) next.behind) (get_or parents i 0 ∷ drop (i + 1) parents))
          next.level_is

      pub right-next : get_or parents i 0 ≡ parent_index (get_or levels i 0) k.earlier → Right rs (i + 1)
      right-next e =
          record {
            earlier = next.it ∷ k.earlier;
            rest = next.behind;
            passed = omega (arith, k.passed);
            held = (
              ap (λ (j : ℕ). get_or levels j 0) k.passed ∙ sym next.level_is,
              ap (λ (j : ℕ). get_or parents j 0) k.passed ∙ e ∙ ap (λ (l : ℕ). parent_index l k.earlier) (sym next.level_is),
              k.held,
            );
            left = next.left;
            agreed = agreed_here ∙ ap (λ (m : ℕ). i + m) (agreeing-same _ _ _ _ e) ∙ omega arith;
          }

      pub right_stop : (get_or parents i 0 ≡ parent_index (get_or levels i 0) k.earlier → ⊥) → i ≡ agreeing (parents_from [] rs) parents
      right_stop n = sym (agreed_here ∙ ap (λ (m : ℕ). i + m) (agreeing_apart _ _ _ _ n) ∙ add-zero i)

    pub right_end : min count (min (length levels) (length parents)) ≤ i → i ≡ agreeing (parents_from [] rs) parents
    right_end h = sym (k.agreed ∙ ap (λ (m : ℕ). i + m) (agreeing_end _ _ out) ∙ add-zero i)
      where
        rest_is : length (parents_from k.earlier k.rest) ≡ min (count - i) (length levels - i)
        rest_is =
            length-parents_from k.earlier k.rest ∙ sym (length-map k.rest level_of) ∙ ap length k.left
            ∙ length-take (count - i) (drop i levels) ∙ ap (min (count - i)) (length-drop i levels)

        out : (length (parents_from k.earlier k.rest) ≡ 0) ⊎ (length (drop i parents) ≡ 0)
        out = elim (dec_le (length parents) i) [
          | yes g ↦ inr (omega (arith, length-drop i parents))
          | no g ↦ inl (let o : i < length parents = lt_of_not-le g in omega (arith, rest_is))
        ]

-- whatever records those are, the first i entries are right
pub record Agrees (count : ℕ) (levels parents : List ℕ) (i : ℕ) : Type 0 where
  pub so : (rs : List Rec) → map level_of rs ≡ take count levels → Right count levels parents rs i

pub agrees_start : {count : ℕ} {levels parents : List ℕ} → Agrees count levels parents 0
agrees_start = record { so = right_start _ _ _ }

module _ {count : ℕ} {levels parents : List ℕ} {i : ℕ} (k : Agrees count levels parents i) {n : ℕ} (m : n ≡ min count (min (length levels) (length parents))) where
  module _ (h : i < n) where
    abbrev behind_of : (rs : List Rec) → map level_of rs ≡ take count levels → Behind levels parents i
    behind_of rs e = right-behind count levels parents rs i (k.so rs e) (omega arith) (omega arith)

    pub agrees_behind : Behind levels parents i
    agrees_behind = behind_of (bares (take count levels)) (bares_levels (take count levels))

    module _ {p : ℕ} (f : ParentBehind levels parents i (get_or levels i 0) p) where
      pub agrees_next : get_or parents i 0 ≡ p → Agrees count levels parents (i + 1)
      agrees_next q =
          record {
            so = λ rs e. right-next count levels parents rs i (k.so rs e) (omega arith) (omega arith) (omega arith) (q ∙ f (behind_of rs e));
          }

      pub agrees_stop : (get_or parents i 0 ≡ p → ⊥) → RightParents (take count levels) parents i
      agrees_stop q rs e =
          right_stop count levels parents rs i (k.so rs e) (omega arith) (omega arith) (omega arith) (λ g. q (g ∙ sym (f (behind_of rs e))))

  pub agrees_end : i ≡ n → RightParents (take count levels) parents n
  agrees_end h rs e = sym h ∙ right_end count levels parents rs i (k.so rs e) (omega arith)
