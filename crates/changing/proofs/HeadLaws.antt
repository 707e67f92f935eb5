-- The paragraph header after a fill, in the pieces that are put. Assumes nothing.
use Prim.Native.Nat.{ℕ, ◌+◌, ◌-◌, ◌*◌, ◌/◌, ◌%◌, ◌^◌, ◌≤◌, ◌<◌}
use native.Mathlib.Omega.{arith}
use mathlib.Core.Path.{◌≡◌, refl, sym, ap, ap₂, ◌∙◌}
use mathlib.Core.List.{List, ◌++◌}
use lib.ListN.{length, take, drop, length-append, length-take, length-drop}
use lib.Seq.{take_all, take-add, take-take, drop_at, take-append-le, drop-append-le, length-take-le}
use lib.Bits.{bit_and}
use Rattle.std.specs.Int.Bits.{and_zero_r}
use Rattle.std.proofs.lemmas.Nat.{and_block, and_mask}
use Rattle.numbers.specs.Little.{little, bytes_of}
use Rattle.numbers.proofs.LittleLaws.{length-bytes_of}
use Rattle.filling.specs.Replacing.{replaced}
use Rattle.filling.specs.Filling.{recounted, new_head}

-- bit 31, and the bits below it
top_is : (w : ℕ) → w < 4294967296 → bit_and w 2147483648 ≡ w / 2147483648 * 2147483648
top_is w h =
    let e : w ≡ w / 2147483648 * 2 ^ 31 + w % 2147483648 = omega arith in
    let one : bit_and (w / 2147483648) 1 ≡ w / 2147483648 = and_mask (w / 2147483648) 1 ∙ omega arith in
    ap (λ (n : ℕ). bit_and n 2147483648) e
    ∙ and_block 31 (w / 2147483648) 1 (w % 2147483648) 0 (omega arith) (omega arith)
    ∙ rw (one, and_zero_r (w % 2147483648)) (omega arith)

pub low_is : (w : ℕ) → bit_and w 2147483647 ≡ w % 2147483648
low_is w = and_mask w 31

pub recount_is : (a b v w : ℕ) {u gone left : ℕ} → w < 4294967296 → u ≡ v → gone ≡ b - a → left ≡ bit_and w 2147483647 + u - gone
    → bit_and w 2147483648 + left ≡ recounted a b v w
unfolding recounted
recount_is a b v w h d e f = omega (arith, top_is w h, low_is w)

-- the elements from i on, of the first i + n
middle : (i n : ℕ) (h : List ℕ) → i + n ≤ length h → drop i (take (i + n) h) ≡ take n (drop i h)
middle i n h k = ap (drop i) (take-add i n h) ∙ drop_at (take i h) (take n (drop i h)) i (length-take-le i h (omega arith))

module _ (h w x y : List ℕ) (long : 18 ≤ length h) where
  pub three : replaced 0 4 w (replaced 12 14 x (replaced 16 18 y h)) ≡ w ++ (take 8 (drop 4 h) ++ (x ++ (take 2 (drop 14 h) ++ (y ++ drop 18 h))))
  unfolding replaced
  three =
      let t = take 16 h in
      let r = y ++ drop 18 h in
      let n : length (take 16 h) ≡ 16 = length-take-le 16 h (omega arith) in
      let m : length (take 12 h) ≡ 12 = length-take-le 12 h (omega arith) in
      let p : take 12 (take 16 h ++ r) ≡ take 12 h = take-append-le 12 (take 16 h) r (omega arith) ∙ take-take 12 16 h (omega arith) in
      let q : drop 14 (take 16 h ++ r) ≡ take 2 (drop 14 h) ++ r
      = drop-append-le 14 (take 16 h) r (omega arith) ∙ ap (λ (l : List ℕ). l ++ r) (middle 14 2 h (omega arith)) in
      let z = x ++ (take 2 (drop 14 h) ++ r) in
      let u : drop 4 (take 12 h ++ z) ≡ take 8 (drop 4 h) ++ z
      = drop-append-le 4 (take 12 h) z (omega arith) ∙ ap (λ (l : List ℕ). l ++ z) (middle 4 8 h (omega arith)) in
      ap (λ (l : List ℕ). w ++ l) (ap₂ (λ (l k : List ℕ). drop 4 (l ++ (x ++ k))) p q ∙ u)

  pub three_length : length w ≡ 4 → length x ≡ 2 → length y ≡ 2 → length h ≡ length (replaced 0 4 w (replaced 12 14 x (replaced 16 18 y h)))
  three_length a b c =
      let e = ap length three in
      let g : length (w ++ (take 8 (drop 4 h) ++ (x ++ (take 2 (drop 14 h) ++ (y ++ drop 18 h))))) ≡ length h
      = simp (length-append, length-take, length-drop) (omega arith) in
      sym (e ∙ g)

pub two_low : (m : ℕ) → take 2 (bytes_of 4 m) ≡ bytes_of 2 m
unfolding bytes_of
two_low m = refl

module _ (a b v shapes : ℕ) (h : List ℕ) (long : 22 ≤ length h) where
  pub head_length : length h ≡ length (new_head a b v shapes h)
  unfolding new_head
  head_length = three_length h _ _ _ (omega arith) (length-bytes_of 4 _) (length-bytes_of 2 _) (length-bytes_of 2 0)

  pub head_bytes : {x y m : ℕ} → x ≡ little 4 h → y ≡ x → m ≡ recounted a b v y
      → take 4 (bytes_of 4 m) ++ (take 8 (drop 4 h) ++ (take 2 (bytes_of 4 shapes) ++ (take 2 (drop 14 h) ++ (take 2 (bytes_of 4 0) ++ drop 18 h))))
      ≡ new_head a b v shapes h
  unfolding new_head bytes_of
  head_bytes {x} {y} {m} e f g =
      let p : take 4 (bytes_of 4 m) ≡ bytes_of 4 (recounted a b v (little 4 h))
      = take_all 4 (bytes_of 4 m) (omega (arith, length-bytes_of 4 m)) ∙ ap (bytes_of 4) (g ∙ ap (recounted a b v) (f ∙ e)) in
      ap (λ (l : List ℕ). l ++ (take 8 (drop 4 h) ++ (bytes_of 2 shapes ++ (take 2 (drop 14 h) ++ (bytes_of 2 0 ++ drop 18 h))))) p
      ∙ sym (three h (bytes_of 4 (recounted a b v (little 4 h))) (bytes_of 2 shapes) (bytes_of 2 0) (omega arith))
