-- The laws of little-endian numbers: each said once, over the width. Assumes nothing.
use Prim.Native.Nat.{ℕ, zero, suc, ◌+◌, ◌-◌, ◌*◌, ◌/◌, ◌%◌, ◌≤◌, ◌<◌}
use native.Mathlib.Omega.{arith}
use native.Mathlib.Nat.{zero-add, div-div-eq-div-mul}
use mir.Val.{Fits}
use mir.Syntax.{w8, w32}
use Rattle.std.specs.Int.{from_le_bytes, to_le_bytes}
use mathlib.Core.Path.{◌≡◌, refl, sym, ap, ap₂, ◌∙◌}
use mathlib.Core.List.{List, [], ◌∷◌, ◌++◌}
use lib.ListN.{length, replicate, get_or, take, drop, length-drop}
use lib.Seq.{sets, sets-eq, get_or-drop, drop-drop, take_all}
use borrow.Author.Tests.{le-leb, lt-leb}
use Rattle.numbers.specs.Little.{little, bytes_of, span, Bytes, laid}

-- ---- the widths in use, by their bytes

pub two : (s : List ℕ) → little 2 s ≡ get_or s 0 0 + 256 * get_or s 1 0
unfolding little
two s = simp get_or-drop (omega arith)

-- ---- over the width

pub bytes_drop : (n : ℕ) (s : List ℕ) → Bytes s → Bytes (drop n s)
bytes_drop n s b i = rw get_or-drop (b (n + i))

pub bytes_take : (n : ℕ) (s : List ℕ) → Bytes s → Bytes (take n s)
bytes_take zero s b i = omega arith
bytes_take (suc n) [] b i = omega arith
bytes_take (suc n) (x ∷ s) b zero = b 0
bytes_take (suc n) (x ∷ s) b (suc i) = bytes_take n s (λ j. b (suc j)) i

pub little_small : (n : ℕ) (s : List ℕ) → Bytes s → little n s < span n
unfolding little span
little_small zero s b = omega arith
little_small (suc n) s b = omega (arith, b 0, little_small n (drop 1 s) (bytes_drop 1 s b))

pub length-bytes_of : (n w : ℕ) → length (bytes_of n w) ≡ n
unfolding bytes_of
length-bytes_of zero w = refl
length-bytes_of (suc n) w = ap suc (length-bytes_of n (w / 256))

-- reading what was written
pub little-bytes_of : (n w : ℕ) (t : List ℕ) → w < span n → little n (bytes_of n w ++ t) ≡ w
unfolding little bytes_of span
little-bytes_of zero w t h = omega arith
little-bytes_of (suc n) w t h =
    let e = little-bytes_of n (w / 256) t (omega arith) in
    omega (arith, e)

-- writing what was read
pub bytes_of-little : (n : ℕ) (s : List ℕ) → Bytes s → n ≤ length s → bytes_of n (little n s) ≡ take n s
unfolding little bytes_of
bytes_of-little zero s b h = refl
bytes_of-little (suc n) [] b h = absurd (omega arith)
bytes_of-little (suc n) (x ∷ s) b h =
    let m = little n s in
    let lt : x < 256 = b 0 in
    let low : (x + 256 * m) % 256 ≡ x = omega arith in
    let high : (x + 256 * m) / 256 ≡ m = omega arith in
    ap₂ (λ (y : ℕ) (ys : List ℕ). y ∷ ys) low (ap (bytes_of n) high ∙ bytes_of-little n s (λ i. b (suc i)) (omega arith))

pub laid-fits : (bs out : List ℕ) → length bs ≤ length out → laid bs out ≡ bs ++ drop (length bs) out
unfolding laid
laid-fits bs out h = simp (le-leb (length bs) (length out) h)

pub laid_not : (bs out : List ℕ) → length out < length bs → laid bs out ≡ out
unfolding laid
laid_not bs out h = simp (lt-leb (length bs) (length out) h)

-- stores one behind the other from the front on
pub laid_sets : (bs out : List ℕ) → length bs ≤ length out → sets out 0 bs ≡ laid bs out
laid_sets bs out h = sets-eq bs out 0 (omega arith) ∙ simp zero-add (sym (laid-fits bs out h))

-- ---- the bytes of a word of 32 bits

little_none : (k : ℕ) → little k [] ≡ 0
unfolding little
little_none zero = refl
little_none (suc k) = omega (arith, little_none k)

-- the first n bytes alone, read as a longer number
pub little_front : (n k : ℕ) (s : List ℕ) → n ≤ k → little k (take n s) ≡ little n s
unfolding little
little_front zero k s h = little_none k
little_front (suc n) zero s h = absurd (omega arith)
little_front (suc n) (suc k) [] h = omega (arith, little_none k, little_none n)
little_front (suc n) (suc k) (x ∷ s) h = ap (λ m. x + 256 * m) (little_front n k s (omega arith))

pub little_part : (n at : ℕ) (s : List ℕ) → little n (take n (drop at s)) ≡ little n (drop at s)
little_part n at s = little_front n n (drop at s) (omega arith)

-- so too all bytes, where there are no more than n
pub little_short : (n k : ℕ) (s : List ℕ) → n ≤ k → length s < n → little k s ≡ little n s
little_short n k s h short =
    let all : take n s ≡ s = take_all n s (omega arith) in
    sym (ap (little k) all) ∙ little_front n k s h

padded : (k : ℕ) (s : List ℕ) → little k (s ++ drop (length s) (replicate k 0)) ≡ little k s
unfolding little
padded zero s = refl
padded (suc k) [] = ap (λ m. 0 + 256 * m) (padded k [])
padded (suc k) (x ∷ s) = ap (λ m. x + 256 * m) (padded k s)

word : (bs : List ℕ) → from_le_bytes w32 bs ≡ little 4 bs
unfolding little
word bs = simp (drop-drop, get_or-drop) (omega arith)

-- what bytes in front of zeros make
pub word_padded : (s copy : List ℕ) → copy ≡ s → from_le_bytes w32 (copy ++ drop (length s) (replicate 4 0)) ≡ little 4 s
word_padded s copy e = rw e (word (s ++ drop (length s) (replicate 4 0)) ∙ padded 4 s)

take_bytes : (n k w : ℕ) → n ≤ k → take n (bytes_of k w) ≡ bytes_of n w
unfolding bytes_of
take_bytes zero k w h = refl
take_bytes (suc n) zero w h = absurd (omega arith)
take_bytes (suc n) (suc k) w h = ap (λ (bs : List ℕ). w % 256 ∷ bs) (take_bytes n k (w / 256) (omega arith))

word_bytes : (w : ℕ) → to_le_bytes w32 w ≡ bytes_of 4 w
unfolding bytes_of
word_bytes w = simp (div-div-eq-div-mul w 256 256, div-div-eq-div-mul w 65536 256)

-- the lowest n bytes of a word
pub lowest : (n w : ℕ) → n ≤ 4 → take n (to_le_bytes w32 w) ≡ bytes_of n w
lowest n w h = rw (word_bytes w) (take_bytes n 4 w h)

-- a part of a slice that goes to its end
pub part_rest : (s : List ℕ) (a : ℕ) → take (length s - a) (drop a s) ≡ drop a s
part_rest s a = take_all (length s - a) (drop a s) (omega (arith, length-drop a s))

-- what a slice of bytes holds
pub slice_bytes : (s : List ℕ) → ((i : ℕ) → Fits w8 (get_or s i 0)) → Bytes s
slice_bytes s fits i = let h = fits i in omega arith
