-- The shape starts after a fill. The entries that document 01's words leave are those of a map of the places, of which the last at each
-- place is kept; in that form two fills commute. Assumes nothing.
use mathlib.Core.Path.{◌≡◌, refl, sym, ap, ◌∙◌, fun_ext}
use mathlib.Core.Logic.{inl, inr}
use Prim.Native.Nat.{ℕ, ◌+◌, ◌-◌, ◌≤◌, ◌<◌}
use native.Mathlib.Omega.{arith}
use mathlib.Core.Bool.{Bool, true, false, cond, ◌&&◌, ◌||◌}
use mathlib.Core.List.{List, [], ◌∷◌, map}
use lib.Dec.{leb, eqb}
use borrow.Author.Tests.{lt-ltb, le-ltb, eq-eqb, ne_eqb, le-leb, lt-leb}
use Rattle.text.proofs.Cases.{lt_or, eq_or}
use Rattle.filling.specs.Shapes.{Entry, start_at, inside, any_inside, moved, shapes_after}

-- ---- where one start goes

module _ (a b v s : ℕ) where
  pub moved_low : s < a → moved a b v s ≡ s
  unfolding moved
  moved_low h = rw (lt-ltb s a h)

  pub moved_inside : a ≤ s → s ≤ b → moved a b v s ≡ a + v
  unfolding moved
  moved_inside h k = rw (le-ltb s a h, le-ltb b s k)

  pub moved_above : a ≤ s → b < s → moved a b v s ≡ s + v - (b - a)
  unfolding moved
  moved_above h k = rw (le-ltb s a h, lt-ltb b s k)

  -- the same of sums made one by one
  pub moved_near : {x y : ℕ} → a ≤ s → s ≤ b → x ≡ a → y ≡ v → x + y ≡ moved a b v s
  moved_near h k p q = omega (arith, moved_inside h k)

  pub moved_far : {x y z : ℕ} → a ≤ s → b < s → x ≡ s → y ≡ v → z ≡ b - a → x + y - z ≡ moved a b v s
  moved_far h k p q t = omega (arith, moved_above h k)

  -- from a on, in one form
  moved_up : a ≤ b → a ≤ s → moved a b v s ≡ a + v + (s - b)
  moved_up h k = elim (lt_or b s) [ inl l ↦ omega (arith, moved_above k l) | inr l ↦ omega (arith, moved_inside k l) ]

moved_mono : (a b v s t : ℕ) → a ≤ b → s < t → moved a b v s ≤ moved a b v t
moved_mono a b v s t h l = elim (lt_or t a) [
  | inl p ↦ omega (arith, moved_low a b v s (omega arith), moved_low a b v t p)
  | inr p ↦ elim (lt_or s a) [
    | inl q ↦ omega (arith, moved_low a b v s q, moved_up a b v t h p)
    | inr q ↦ omega (arith, moved_up a b v s h q, moved_up a b v t h p)
  ]
]

moved-below : (a b v n s : ℕ) → a ≤ b → b < n → s < n → moved a b v s < n + v - (b - a)
moved-below a b v n s h k l = elim (lt_or s a) [
  | inl p ↦ omega (arith, moved_low a b v s p)
  | inr p ↦ omega (arith, moved_up a b v s h p)
]

-- two fills of one paragraph, the second field behind the first
module _ (a₁ b₁ v₁ a₂ b₂ v₂ : ℕ) (h₁ : a₁ ≤ b₁) (h : b₁ < a₂) (h₂ : a₂ ≤ b₂) where
  meet : (s p q : ℕ) → p + b₁ ≡ a₂ + v₁ + a₁ → q + b₁ ≡ b₂ + v₁ + a₁ → a₂ ≤ s
      → p + v₂ + (a₁ + v₁ + (s - b₁) - q) ≡ a₁ + v₁ + (a₂ + v₂ + (s - b₂) - b₁)
  meet s p q e f l = omega arith

  moved_comm : (s : ℕ)
      → moved (a₂ + v₁ - (b₁ - a₁)) (b₂ + v₁ - (b₁ - a₁)) v₂ (moved a₁ b₁ v₁ s) ≡ moved a₁ b₁ v₁ (moved a₂ b₂ v₂ s)
  moved_comm s = elim (lt_or s a₁) [
    | inl l ↦ rw (moved_low a₂ b₂ v₂ s (omega arith), moved_low a₁ b₁ v₁ s l) (moved_low _ _ v₂ s (omega arith))
    | inr g ↦ elim (lt_or s a₂) [
      | inl l ↦ rw (moved_low a₂ b₂ v₂ s l, moved_up a₁ b₁ v₁ s h₁ g) (moved_low _ _ v₂ _ (omega arith))
      | inr l ↦
          let k : a₁ ≤ a₂ + v₂ + (s - b₂) = omega arith in
          rw (moved_up a₂ b₂ v₂ s h₂ l, moved_up a₁ b₁ v₁ s h₁ g)
          (moved_up _ _ v₂ _ (omega arith) (omega arith) ∙ rw (moved_up a₁ b₁ v₁ (a₂ + v₂ + (s - b₂)) h₁ k) (meet s _ _ (omega arith) (omega arith) l))
    ]
  ]

-- a second fill of the same field: the map of the second alone
moved_again : (a b v w s : ℕ) → a ≤ b → moved a (a + v) w (moved a b v s) ≡ moved a b w s
moved_again a b v w s h = elim (lt_or s a) [
  | inl l ↦ rw (moved_low a b v s l, moved_low a b w s l) (moved_low a (a + v) w s l)
  | inr g ↦ rw (moved_up a b v s h g, moved_up a b w s h g) (moved_up a (a + v) w _ (omega arith) (omega arith) ∙ omega arith)
]

-- ---- the last at each place

unfoldable pub keep_last : Entry → List Entry → List Entry
keep_last x [] = x ∷ []
keep_last x (y ∷ r) = cond (eqb x.start y.start) (keep_last y r) (x ∷ keep_last y r)

unfoldable pub lasts : List Entry → List Entry
lasts [] = []
lasts (x ∷ r) = keep_last x r

unfoldable pub to : (ℕ → ℕ) → Entry → Entry
to f e = start_at (f e.start) e

-- what is left begins at the place of the first entry
record Head (y : Entry) (l : List Entry) : Type 0 where
  first : Entry
  rest : List Entry
  is : l ≡ first ∷ rest
  same : first.start ≡ y.start

keep_head : (y : Entry) (r : List Entry) → Head y (keep_last y r)
unfolding keep_last
keep_head y [] = record { first = y; rest = []; is = refl; same = refl }
keep_head y (z ∷ r) = elim (eq_or y.start z.start) [
  | inl e ↦ rw (eq-eqb y.start z.start e)
      (let k = keep_head z r in record { first = k.first; rest = k.rest; is = k.is; same = k.same ∙ sym e })
  | inr n ↦ rw (ne_eqb y.start z.start n) (record { first = y; rest = keep_last z r; is = refl; same = refl })
]

-- keeping the last before a map of the places changes nothing
keep_to : (f : ℕ → ℕ) (x : Entry) (l : List Entry) → lasts (map (to f) (keep_last x l)) ≡ keep_last (to f x) (map (to f) l)
unfolding keep_last lasts to start_at
keep_to f x [] = refl
keep_to f x (y ∷ r) = elim (eq_or x.start y.start) [
  | inl e ↦ rw (eq-eqb x.start y.start e, eq-eqb (f x.start) (f y.start) (ap f e)) (keep_to f y r)
  | inr n ↦ rw (ne_eqb x.start y.start n) (go (keep_head y r) (keep_to f y r))
]
  where
    go : Head y (keep_last y r) → lasts (map (to f) (keep_last y r)) ≡ keep_last (to f y) (map (to f) r)
        → keep_last (to f x) (map (to f) (keep_last y r)) ≡ keep_last (to f x) (to f y ∷ map (to f) r)
    go k ih = cc

lasts_to : (f : ℕ → ℕ) (l : List Entry) → lasts (map (to f) (lasts l)) ≡ lasts (map (to f) l)
unfolding lasts
lasts_to f [] = refl
lasts_to f (x ∷ r) = keep_to f x r

map_to : (f g : ℕ → ℕ) (l : List Entry) → map (to f) (map (to g) l) ≡ map (to (λ s. f (g s))) l
unfolding to start_at
map_to f g [] = refl
map_to f g (x ∷ r) = ap (λ t. start_at (f (g x.start)) x ∷ t) (map_to f g r)

unfoldable pub placed : ℕ → ℕ → ℕ → List Entry → List Entry
placed a b v l = lasts (map (to (moved a b v)) l)

placed_comm : (a₁ b₁ v₁ a₂ b₂ v₂ : ℕ) (l : List Entry) → a₁ ≤ b₁ → b₁ < a₂ → a₂ ≤ b₂
    → placed (a₂ + v₁ - (b₁ - a₁)) (b₂ + v₁ - (b₁ - a₁)) v₂ (placed a₁ b₁ v₁ l) ≡ placed a₁ b₁ v₁ (placed a₂ b₂ v₂ l)
unfolding placed
placed_comm a₁ b₁ v₁ a₂ b₂ v₂ l h₁ h h₂ =
    simp (lasts_to, map_to) (ap (λ (f : ℕ → ℕ). lasts (map (to f) l)) (fun_ext (moved_comm a₁ b₁ v₁ a₂ b₂ v₂ h₁ h h₂)))

placed_again : (a b v w : ℕ) (l : List Entry) → a ≤ b → placed a (a + v) w (placed a b v l) ≡ placed a b w l
unfolding placed
placed_again a b v w l h =
    simp (lasts_to, map_to) (ap (λ (f : ℕ → ℕ). lasts (map (to f) l)) (fun_ext (λ s. moved_again a b v w s h)))

-- ---- document 01's words leave the same, where the starts rise

-- what document 01 asks of starts (`acceptance`: First, Rise, Below) as a walk over the entries meets it: the next one from `low` up to but
-- not including `high`, each behind it above the one before and below `bound`
abbrev pub StartsFrom : ℕ → ℕ → ℕ → List Entry → Type 0
StartsFrom low high bound [] = Unit {0}
StartsFrom low high bound (e ∷ es) = (low ≤ e.start) × (e.start < high) × StartsFrom (e.start + 1) bound bound es

none_inside : (a b low high n : ℕ) (l : List Entry) → b < low → StartsFrom low high n l → any_inside a b l ≡ false
unfolding any_inside inside
none_inside a b low high n [] h s = refl
none_inside a b low high n (y ∷ l) h s =
    rw (lt-leb y.start b (omega (arith, s.0)), none_inside a b (y.start + 1) n n l (omega (arith, s.0)) s.2) (go (leb a y.start))
  where
    go : (t : Bool) → (t && false) || false ≡ false
    go true = refl
    go false = refl

-- of two neighbours the first is dropped exactly if both go to one place
dropped : (a b v n : ℕ) → a ≤ b → (x y : Entry) (l : List Entry) → x.start < y.start → StartsFrom (y.start + 1) n n l
    → (inside a b x.start && any_inside a b (y ∷ l)) ≡ eqb (moved a b v x.start) (moved a b v y.start)
unfolding inside any_inside
dropped a b v n h x y l r s = elim (lt_or x.start a) [
  | inl p ↦ rw (lt-leb a x.start p)
      (sym (ne_eqb (moved a b v x.start) (moved a b v y.start) (λ e. elim (lt_or y.start a) [
        | inl q ↦ omega (arith, e, moved_low a b v x.start p, moved_low a b v y.start q)
        | inr q ↦ omega (arith, e, moved_low a b v x.start p, moved_up a b v y.start h q)
      ])))
  | inr p ↦ (let mx = moved_up a b v x.start h p in let my = moved_up a b v y.start h (omega arith) in elim (lt_or b x.start) [
    | inl q ↦ rw (le-leb a x.start p, lt-leb x.start b q)
        (sym (ne_eqb (moved a b v x.start) (moved a b v y.start) (λ e. omega arith)))
    | inr q ↦ elim (lt_or b y.start) [
      | inl k ↦ rw (le-leb a x.start p, le-leb x.start b q, le-leb a y.start (omega arith), lt-leb y.start b k, none_inside a b (y.start + 1) n n l (omega arith) s)
          (sym (ne_eqb (moved a b v x.start) (moved a b v y.start) (λ e. omega arith)))
      | inr k ↦ rw (le-leb a x.start p, le-leb x.start b q, le-leb a y.start (omega arith), le-leb y.start b k)
          (sym (eq-eqb (moved a b v x.start) (moved a b v y.start) (omega arith)))
    ]
  ])
]

after_one : (a b v : ℕ) (x : Entry) → shapes_after a b v (x ∷ []) ≡ to (moved a b v) x ∷ []
unfolding shapes_after any_inside to
after_one a b v x = go (inside a b x.start)
  where
    go : (t : Bool) → cond (t && false) [] (start_at (moved a b v x.start) x ∷ []) ≡ start_at (moved a b v x.start) x ∷ []
    go true = refl
    go false = refl

after_cons : (a b v : ℕ) (x : Entry) (l : List Entry) → shapes_after a b v (x ∷ l)
    ≡ cond (inside a b x.start && any_inside a b l) (shapes_after a b v l) (to (moved a b v) x ∷ shapes_after a b v l)
unfolding shapes_after to
after_cons a b v x l = refl

after_keep : (a b v n : ℕ) → a ≤ b → (x : Entry) (l : List Entry) → StartsFrom (x.start + 1) n n l
    → shapes_after a b v (x ∷ l) ≡ keep_last (to (moved a b v) x) (map (to (moved a b v)) l)
unfolding keep_last
after_keep a b v n h x [] s = after_one a b v x
after_keep a b v n h x (y ∷ l) s =
    after_cons a b v x (y ∷ l)
    ∙ rw (dropped a b v n h x y l (omega (arith, s.0)) s.2, after_keep a b v n h y l s.2) (unfold to start_at in refl)

pub after_is : (a b v low high n : ℕ) → a ≤ b → (l : List Entry) → StartsFrom low high n l → shapes_after a b v l ≡ placed a b v l
unfolding placed lasts shapes_after
after_is a b v low high n h [] s = refl
after_is a b v low high n h (x ∷ l) s = after_keep a b v n h x l s.2

-- ---- what a fill keeps of the starts

-- rising or standing still: the places of a map, before the last at each is kept
abbrev Weak : ℕ → ℕ → List Entry → Type 0
Weak low n [] = Unit {0}
Weak low n (e ∷ es) = (low ≤ e.start) × (e.start < n) × Weak e.start n es

weak_moved : (a b v low n : ℕ) → a ≤ b → b < n → (l : List Entry) → StartsFrom (low + 1) n n l
    → Weak (moved a b v low) (n + v - (b - a)) (map (to (moved a b v)) l)
unfolding to start_at
weak_moved a b v low n h k [] s = tt
weak_moved a b v low n h k (y ∷ l) s =
    (moved_mono a b v low y.start h (omega (arith, s.0)), moved-below a b v n y.start h k s.1, weak_moved a b v y.start n h k l s.2)

keep_starts : (low n : ℕ) (x : Entry) (l : List Entry) → low ≤ x.start → x.start < n → Weak x.start n l → StartsFrom low n n (keep_last x l)
unfolding keep_last
keep_starts low n x [] h k w = (h, k, tt)
keep_starts low n x (y ∷ r) h k w = elim (eq_or x.start y.start) [
  | inl e ↦ rw (eq-eqb x.start y.start e) (keep_starts low n y r (omega arith) w.1 w.2)
  | inr e ↦ rw (ne_eqb x.start y.start e) (h, k, keep_starts (x.start + 1) n y r (omega (arith, w.0)) w.1 w.2)
]

-- the first start stays first
starts_high : (low high n : ℕ) (x : Entry) (l : List Entry) → x.start < high → StartsFrom low n n (keep_last x l) → StartsFrom low high n (keep_last x l)
starts_high low high n x l h s = go (keep_head x l)
  where
    go : Head x (keep_last x l) → StartsFrom low high n (keep_last x l)
    go k = let t = rw k.is at s in rw k.is (t.0, omega (arith, k.same), t.2)

-- a list of starts that begins at 0, rises and stays below the count still does so after a fill
pub after_starts : (a b v n : ℕ) → 0 < a → a ≤ b → b < n → (l : List Entry) → StartsFrom 0 1 n l
    → StartsFrom 0 1 (n + v - (b - a)) (shapes_after a b v l)
unfolding placed lasts
after_starts a b v n z h k [] s = unfold shapes_after in tt
after_starts a b v n z h k (x ∷ l) s =
    rw (after_is a b v 0 1 n h (x ∷ l) s)
    (starts_high 0 1 (n + v - (b - a)) (to (moved a b v) x) (map (to (moved a b v)) l)
    (unfold to start_at in (omega (arith, s.1, moved_low a b v x.start (omega (arith, s.1)))))
    (keep_starts 0 (n + v - (b - a)) (to (moved a b v) x) (map (to (moved a b v)) l) (omega arith)
    (unfold to start_at in (moved-below a b v n x.start h k (omega (arith, s.1))))
    (unfold to start_at in (weak_moved a b v x.start n h k l s.2))))

-- ---- two fills

-- of two fields of one paragraph, in either order: the second field stands behind the first
pub after_comm : (a₁ b₁ v₁ a₂ b₂ v₂ n : ℕ) (l : List Entry) → 0 < a₁ → a₁ ≤ b₁ → b₁ < a₂ → a₂ ≤ b₂ → b₂ < n → StartsFrom 0 1 n l
    → shapes_after (a₂ + v₁ - (b₁ - a₁)) (b₂ + v₁ - (b₁ - a₁)) v₂ (shapes_after a₁ b₁ v₁ l) ≡ shapes_after a₁ b₁ v₁ (shapes_after a₂ b₂ v₂ l)
after_comm a₁ b₁ v₁ a₂ b₂ v₂ n l z h₁ h h₂ k s =
    after_is _ _ v₂ 0 1 (n + v₁ - (b₁ - a₁)) (omega arith) (shapes_after a₁ b₁ v₁ l) (after_starts a₁ b₁ v₁ n z h₁ (omega arith) l s)
    ∙ rw (after_is a₁ b₁ v₁ 0 1 n h₁ l s, placed_comm a₁ b₁ v₁ a₂ b₂ v₂ l h₁ h h₂, ← (after_is a₂ b₂ v₂ 0 1 n h₂ l s))
    (sym (after_is a₁ b₁ v₁ 0 1 (n + v₂ - (b₂ - a₂)) h₁ (shapes_after a₂ b₂ v₂ l) (after_starts a₂ b₂ v₂ n (omega arith) h₂ k l s)))

-- of one field twice: the second alone
pub after_again : (a b v w n : ℕ) (l : List Entry) → 0 < a → a ≤ b → b < n → StartsFrom 0 1 n l
    → shapes_after a (a + v) w (shapes_after a b v l) ≡ shapes_after a b w l
after_again a b v w n l z h k s =
    after_is a (a + v) w 0 1 (n + v - (b - a)) (omega arith) (shapes_after a b v l) (after_starts a b v n z h k l s)
    ∙ rw (after_is a b v 0 1 n h l s, placed_again a b v w l h, after_is a b w 0 1 n h l s)
