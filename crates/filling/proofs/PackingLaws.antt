-- Numbers and shape entries written and read back, and a body with some of its bytes overwritten. Assumes nothing.
use mathlib.Core.Path.{◌≡◌, refl, sym, ap, ◌∙◌}
use Prim.Native.Nat.{ℕ, zero, suc, ◌+◌, ◌*◌, ◌-◌, ◌/◌, ◌≤◌, ◌<◌}
use native.Mathlib.Omega.{arith}
use mathlib.Core.List.{List, [], ◌∷◌, ◌++◌, map, append_assoc}
use mathlib.Core.Logic.{inl, inr}
use lib.ListN.{length, take, drop, length-append, length-take, length-drop, drop_of_length-le}
use lib.Seq.{drop_at, drop-append-le, take-append-le, drop-drop}
use Rattle.numbers.specs.Little.{little, bytes_of, span, Bytes}
use Rattle.numbers.proofs.LittleLaws.{length-bytes_of, little-bytes_of, little_small, bytes_drop}
use Rattle.text.proofs.Cases.{lt_or}
use Rattle.entries.specs.Entries.{entries}
use Rattle.filling.specs.Replacing.{replaced}
use Rattle.filling.specs.Shapes.{Entry, entry_at, shapes_in, packed}
use Rattle.filling.proofs.ReplacingLaws.{replaced_comm, replaced_again, length-replaced}

-- ---- overwriting: as many elements as were there

module _ {ℓ} {A : Type ℓ} where
  pub over_length : (a b : ℕ) (w l : List A) → length w ≡ b - a → a ≤ b → b ≤ length l → length (replaced a b w l) ≡ length l
  over_length a b w l e h k = length-replaced a b w l h k ∙ omega arith

  pub over_comm : (a₁ b₁ a₂ b₂ : ℕ) (w₁ w₂ l : List A) → length w₁ ≡ b₁ - a₁ → a₁ ≤ b₁ → b₁ ≤ a₂ → a₂ ≤ b₂ → b₂ ≤ length l
      → replaced a₂ b₂ w₂ (replaced a₁ b₁ w₁ l) ≡ replaced a₁ b₁ w₁ (replaced a₂ b₂ w₂ l)
  over_comm a₁ b₁ a₂ b₂ w₁ w₂ l e h₁ h h₂ k =
      let p : a₂ + length w₁ + a₁ - b₁ ≡ a₂ = omega arith in
      let q : b₂ + length w₁ + a₁ - b₁ ≡ b₂ = omega arith in
      rw (p, q) at (replaced_comm a₁ b₁ a₂ b₂ w₁ w₂ l h₁ h h₂ k)

  pub over_again : (a b : ℕ) (w u l : List A) → length w ≡ b - a → a ≤ b → b ≤ length l → replaced a b u (replaced a b w l) ≡ replaced a b u l
  over_again a b w u l e h k =
      let p : a + length w ≡ b = omega arith in
      rw p at (replaced_again a b w u l h k)

  -- what stands behind is not touched, however short the list
  pub over_drop : (a b k : ℕ) (w l : List A) → length w ≡ b - a → a ≤ b → drop (b + k) (replaced a b w l) ≡ drop (b + k) l
  unfolding replaced
  over_drop a b k w l e h = elim (lt_or (length l) b) [
    | inl s ↦
        (let n : length (take a l ++ (w ++ drop b l)) ≤ b + k = simp (length-append, length-take, length-drop) (omega arith) in
        let m : length l ≤ b + k = omega arith in
        drop_of_length-le (take a l ++ (w ++ drop b l)) n ∙ sym (drop_of_length-le l m))
    | inr s ↦
        (let n : length (take a l ++ w) ≡ b = simp (length-append, length-take) (omega arith) in
        sym (drop-drop k b (take a l ++ (w ++ drop b l)))
        ∙ ap (drop k) (ap (drop b) (sym (append_assoc (take a l) w (drop b l))) ∙ drop_at (take a l ++ w) (drop b l) b n)
        ∙ drop-drop k b l)
  ]

  part_take : (a k n : ℕ) (m : List A) → k + n ≤ a → take n (drop k (take a m)) ≡ take n (drop k m)
  part_take a zero zero m h = refl
  part_take zero zero (suc n) m h = absurd (omega arith)
  part_take zero (suc k) n m h = absurd (omega arith)
  part_take (suc a) zero (suc n) [] h = refl
  part_take (suc a) zero (suc n) (x ∷ m) h = ap (λ t. x ∷ t) (part_take a zero n m (omega arith))
  part_take (suc a) (suc k) n [] h = refl
  part_take (suc a) (suc k) n (x ∷ m) h = part_take a k n m (omega arith)

  -- nor what stands before
  pub over_before : (a b k n : ℕ) (w l : List A) → k + n ≤ a → a ≤ length l → take n (drop k (replaced a b w l)) ≡ take n (drop k l)
  unfolding replaced
  over_before a b k n w l h s =
      let e : length (take a l) ≡ a = simp length-take (omega arith) in
      let m : n ≤ length (drop k (take a l)) = simp length-drop (omega arith) in
      rw (drop-append-le k (take a l) (w ++ drop b l) (omega arith), take-append-le n (drop k (take a l)) (w ++ drop b l) m)
      (part_take a k n l h)

  pub over_here : (a b : ℕ) (w l : List A) → a ≤ length l → drop a (replaced a b w l) ≡ w ++ drop b l
  unfolding replaced
  over_here a b w l h = drop_at (take a l) (w ++ drop b l) a (simp length-take (omega arith))

-- ---- a number depends on its own bytes only

pub little-take : (n : ℕ) (s : List ℕ) → little n (take n s) ≡ little n s
unfolding little
little-take zero s = refl
little-take (suc n) [] = refl
little-take (suc n) (x ∷ s) = ap (λ (m : ℕ). x + 256 * m) (little-take n s)

pub little-same : (n : ℕ) (s t : List ℕ) → take n s ≡ take n t → little n s ≡ little n t
little-same n s t e = sym (little-take n s) ∙ ap (little n) e ∙ little-take n t

-- ---- entries

pub length-packed : (l : List Entry) → length (packed l) ≡ 8 * length l
unfolding packed
length-packed [] = refl
length-packed (e ∷ l) = simp (length-append, length-bytes_of) (omega (arith, length-packed l))

abbrev pub Small : List Entry → Type 0
Small [] = Unit {0}
Small (e ∷ l) = (e.start < 4294967296) × (e.shape < 4294967296) × Small l

entries-packed : (l : List Entry) (n : ℕ) → length l ≡ n → Small l → map entry_at (entries 8 n (packed l)) ≡ l
unfolding entries packed entry_at span
entries-packed [] zero h s = refl
entries-packed [] (suc n) h s = absurd (omega arith)
entries-packed (e ∷ l) zero h s = absurd (omega arith)
entries-packed (e ∷ l) (suc n) h s =
    let t = bytes_of 4 e.shape ++ packed l in
    let d₁ : drop 4 (bytes_of 4 e.start ++ t) ≡ t = drop_at (bytes_of 4 e.start) t 4 (length-bytes_of 4 e.start) in
    let d₂ : drop 8 (bytes_of 4 e.start ++ t) ≡ packed l =
    sym (drop-drop 4 4 (bytes_of 4 e.start ++ t)) ∙ ap (drop 4) d₁ ∙ drop_at (bytes_of 4 e.shape) (packed l) 4 (length-bytes_of 4 e.shape) in
    cons (little-bytes_of 4 e.start t s.0) (ap (little 4) d₁ ∙ little-bytes_of 4 e.shape (packed l) s.1)
    (ap (λ (b : List ℕ). map entry_at (entries 8 n b)) d₂ ∙ entries-packed l n (omega arith) s.2)
  where
    cons : {x y : ℕ} {m : List Entry} → x ≡ e.start → y ≡ e.shape → m ≡ l → ◌≡◌ {A = List Entry} (record { start = x; shape = y } ∷ m) (e ∷ l)
    cons p q r = rw (p, q, r)

-- what is packed is read back
pub shapes-packed : (l : List Entry) → Small l → shapes_in (packed l) ≡ l
unfolding shapes_in
shapes-packed l s =
    let e : length (packed l) / 8 ≡ length l = omega (arith, length-packed l) in
    rw e (entries-packed l (length l) refl s)

-- the entries of bytes are small
entries_small : (n : ℕ) (b : List ℕ) → Bytes b → Small (map entry_at (entries 8 n b))
unfolding entries entry_at span
entries_small zero b h = tt
entries_small (suc n) b h =
    (little_small 4 b h, little_small 4 (drop 4 b) (bytes_drop 4 b h), entries_small n (drop 8 b) (bytes_drop 8 b h))

pub shapes_small : (b : List ℕ) → Bytes b → Small (shapes_in b)
unfolding shapes_in
shapes_small b h = entries_small (length b / 8) b h
