-- The walk over a text in parts, and over a text with a part of it replaced. Assumes nothing.
use Prim.Native.Nat.{ℕ, zero, suc, ◌+◌, ◌-◌, ◌≤◌, ◌<◌}
use native.Mathlib.Omega.{arith}
use native.Mathlib.Nat.{add_assoc}
use mathlib.Core.Path.{◌≡◌, refl, sym, ap, ◌∙◌}
use mathlib.Core.Logic.{◌⊎◌, inl, inr}
use mathlib.Core.List.{List, [], ◌∷◌, ◌++◌, map}
use lib.ListN.{length, drop, length-append, get_or-append}
use Rattle.text.specs.Asked.{what, width, SoundText, single}
use Rattle.text.specs.Walk.{Token, walk, tokens, AllOrdinary, is_extended, extended_in, extended_count}
use Rattle.text.specs.declared.Standing.TheVariants.{Ordinary}
use Rattle.text.proofs.TableLaws.{what_ordinary}
use Rattle.text.proofs.WalkLaws.{width_pos}
use Rattle.text.proofs.SoundLaws.{Begins, unrolled, rolled, drop-behind}

-- ---- the walk in parts

-- how many units behind these belong to a token that begins among them, where the first k belong to the token before
unfoldable pub left_over : ℕ → List ℕ → ℕ
left_over k [] = k
left_over zero (u ∷ us) = left_over (width (what u) - 1) us
left_over (suc k) (u ∷ us) = left_over k us

pub walk-append : (p k : ℕ) (x y : List ℕ) → walk p k (x ++ y) ≡ walk p k x ++ walk (p + length x) (left_over k x) y
unfolding walk left_over
walk-append p k [] y = let q : p + 0 ≡ p = omega arith in rw q
walk-append p zero (u ∷ x) y =
    let q : p + 1 + length x ≡ p + suc (length x) = omega arith in
    rw (walk-append (p + 1) (width (what u) - 1) x y, q)
walk-append p (suc k) (u ∷ x) y = let q : p + 1 + length x ≡ p + suc (length x) = omega arith in rw (walk-append (p + 1) k x y, q)

pub left_append : (k : ℕ) (x y : List ℕ) → left_over k (x ++ y) ≡ left_over (left_over k x) y
unfolding left_over
left_append k [] y = refl
left_append zero (u ∷ x) y = left_append (width (what u) - 1) x y
left_append (suc k) (u ∷ x) y = left_append k x y

pub left_ge : (k : ℕ) (x : List ℕ) → k ≤ length x + left_over k x
unfolding left_over
left_ge k [] = omega arith
left_ge zero (u ∷ x) = omega arith
left_ge (suc k) (u ∷ x) = omega (arith, left_ge k x)

pub left_all : (k : ℕ) (x : List ℕ) → length x ≡ k → left_over k x ≡ 0
unfolding left_over
left_all k [] h = sym h
left_all zero (u ∷ x) h = absurd (omega arith)
left_all (suc k) (u ∷ x) h = left_all k x (omega arith)

-- ---- a walk from another position

-- a token c positions further and d positions back
unfoldable pub shift : ℕ → ℕ → Token → Token
shift c d t = record { at = t.at + c - d; what = t.what }

pub walk_shift : (p c d k : ℕ) (x : List ℕ) → d ≤ p + c → map (shift c d) (walk p k x) ≡ walk (p + c - d) k x
unfolding walk shift
walk_shift p c d k [] h = refl
walk_shift p c d zero (u ∷ x) h =
    let q : p + 1 + c - d ≡ p + c - d + 1 = omega arith in
    rw (walk_shift (p + 1) c d (width (what u) - 1) x (omega arith), q)
walk_shift p c d (suc k) (u ∷ x) h =
    let q : p + 1 + c - d ≡ p + c - d + 1 = omega arith in
    rw (walk_shift (p + 1) c d k x (omega arith), q)

-- ---- ordinary units

pub width_one : (u : ℕ) → 32 ≤ u → width (what u) - 1 ≡ 0
width_one u h = rw (what_ordinary u h)

pub left_ordinary : (x : List ℕ) → AllOrdinary x → left_over 0 x ≡ 0
unfolding left_over
left_ordinary [] o = refl
left_ordinary (u ∷ x) o = rw (width_one u o.0) (left_ordinary x o.1)

-- the units one by one, from position p
unfoldable pub singles : ℕ → List ℕ → List Token
singles p [] = []
singles p (u ∷ us) = record { at = p; what = Ordinary u } ∷ singles (p + 1) us

pub walk_ordinary : (p : ℕ) (x : List ℕ) → AllOrdinary x → walk p 0 x ≡ singles p x
unfolding walk singles
walk_ordinary p [] o = refl
walk_ordinary p (u ∷ x) o = rw (what_ordinary u o.0, walk_ordinary (p + 1) x o.1)

-- ---- a text in three parts, the middle one ordinary: what stands before, in and behind a field

module _ (x y z : List ℕ) (whole : left_over 0 x ≡ 0) (o : AllOrdinary y) where
  pub walk_parts : walk 0 0 (x ++ (y ++ z)) ≡ walk 0 0 x ++ (walk (length x) 0 y ++ walk (length x + length y) 0 z)
  walk_parts =
      let q : 0 + length x ≡ length x = omega arith in
      rw (walk-append 0 0 x (y ++ z), whole, q, walk-append (length x) 0 y z, left_ordinary y o)

  -- the tokens before as they are, the units one by one, and the tokens behind
  pub tokens_parts : tokens (x ++ (y ++ z)) ≡ tokens x ++ (singles (length x) y ++ walk (length x + length y) 0 z)
  unfolding tokens
  tokens_parts = rw (walk_parts, walk_ordinary (length x) y o)

-- with w in the place of y, the tokens behind move with it
pub tokens-replaced : (x y z w : List ℕ) → left_over 0 x ≡ 0 → AllOrdinary w
    → tokens (x ++ (w ++ z)) ≡ tokens x ++ (singles (length x) w ++ map (shift (length w) (length y)) (walk (length x + length y) 0 z))
tokens-replaced x y z w h o =
    let q : length x + length y + length w - length y ≡ length x + length w = omega arith in
    rw (tokens_parts x w z h o, walk_shift (length x + length y) (length w) (length y) 0 z (omega arith), q)

-- ---- the extended controls stay as many

pub extended_append : (ts us : List Token) → extended_in (ts ++ us) ≡ extended_in ts + extended_in us
unfolding extended_in
extended_append [] us = omega arith
extended_append (t ∷ ts) us = rw (extended_append ts us) (sym (add_assoc (is_extended t.what) (extended_in ts) (extended_in us)))

pub extended_singles : (p : ℕ) (x : List ℕ) → extended_in (singles p x) ≡ 0
unfolding extended_in singles
extended_singles p [] = refl
extended_singles p (u ∷ x) = rw (extended_singles (p + 1) x)

extended_shift : (c d : ℕ) (ts : List Token) → extended_in (map (shift c d) ts) ≡ extended_in ts
unfolding extended_in shift
extended_shift c d [] = refl
extended_shift c d (t ∷ ts) = ap (λ n. is_extended t.what + n) (extended_shift c d ts)

pub extended_kept : (x y z w : List ℕ) → left_over 0 x ≡ 0 → AllOrdinary y → AllOrdinary w
    → extended_count (x ++ (w ++ z)) ≡ extended_count (x ++ (y ++ z))
unfolding extended_count
extended_kept x y z w h oy ow =
    rw (tokens-replaced x y z w h ow, tokens_parts x y z h oy)
    (simp (extended_append, extended_singles, extended_shift))

-- ---- and the text stays sound

sound_rest : (k : ℕ) (x s : List ℕ) → left_over k x ≡ 0 → 0 < length s → SoundText (drop k (x ++ s)) → SoundText s
unfolding left_over
sound_rest k [] s e h g = rw e at g
sound_rest zero (u ∷ x) s e h g = go (unrolled u (x ++ s) g) (sound_rest (width (what u) - 1) x s e h)
  where
    go : ((u ≡ 13) × (x ++ s ≡ [])) ⊎ Begins u (x ++ s) → (SoundText (drop (width (what u) - 1) (x ++ s)) → SoundText s) → SoundText s
    go (inl l) on = absurd (omega (arith, ap length l.1, length-append x s))
    go (inr b) on = on (rw (drop-behind (width (what u)) u (x ++ s) (width_pos (what u))) at b.rest)
sound_rest (suc k) (u ∷ x) s e h g = sound_rest k x s e h g

sound_front : (k : ℕ) (x s s' : List ℕ) → left_over k x ≡ 0 → 0 < length s → SoundText (drop k (x ++ s)) → SoundText s' → SoundText (drop k (x ++ s'))
unfolding left_over
sound_front k [] s s' e h g g' = rw e g'
sound_front zero (u ∷ x) s s' e h g g' = go (unrolled u (x ++ s) g) (λ r. sound_front (width (what u) - 1) x s s' e h r g')
  where
    go : ((u ≡ 13) × (x ++ s ≡ [])) ⊎ Begins u (x ++ s)
        → (SoundText (drop (width (what u) - 1) (x ++ s)) → SoundText (drop (width (what u) - 1) (x ++ s'))) → SoundText (u ∷ (x ++ s'))
    go (inl l) on = absurd (omega (arith, ap length l.1, length-append x s))
    go (inr b) on =
        let n : width (what u) - 1 < length (u ∷ x) = omega (arith, left_ge (width (what u) - 1) x) in
        rolled u (x ++ s') (record {
          not_0 = b.not_0;
          not_13 = b.not_13;
          closed = get_or-append (u ∷ x) s' 0 (width (what u) - 1) n ∙ sym (get_or-append (u ∷ x) s 0 (width (what u) - 1) n) ∙ b.closed;
          rest =
              rw (drop-behind (width (what u)) u (x ++ s') (width_pos (what u)))
              (on (rw (drop-behind (width (what u)) u (x ++ s) (width_pos (what u))) at b.rest));
        })
sound_front (suc k) (u ∷ x) s s' e h g g' = sound_front k x s s' e h g g'

sound_ordinary : (w s : List ℕ) → AllOrdinary w → SoundText s → SoundText (w ++ s)
sound_ordinary [] s o g = g
sound_ordinary (u ∷ w) s o g =
    single {u = u} (ap width (what_ordinary u o.0)) (λ e. omega (arith, o.0)) (λ e. omega (arith, o.0)) (sound_ordinary w s o.1 g)

pub sound_kept : (x y z w : List ℕ) → left_over 0 x ≡ 0 → AllOrdinary y → AllOrdinary w → 0 < length z
    → SoundText (x ++ (y ++ z)) → SoundText (x ++ (w ++ z))
sound_kept x y z w e oy ow h g =
    let l : 0 < length (y ++ z) = omega (arith, length-append y z) in
    sound_front 0 x (y ++ z) (w ++ z) e l g
    (sound_ordinary w z ow (sound_rest 0 y z (left_ordinary y oy) h (sound_rest 0 x (y ++ z) e l g)))
