-- Bytes laid one behind the other: in a buffer, and in a part of it that is lent and comes back. Assumes nothing.
use Prim.Native.Nat.{ℕ, zero, suc, ◌+◌, ◌-◌, ◌*◌, ◌/◌, ◌%◌, ◌≤◌, ◌<◌}
use native.Mathlib.Omega.{arith}
use native.Mathlib.Nat.{mul_assoc}
use mathlib.Core.Path.{◌≡◌, refl, sym, ap, ap₂, ◌∙◌}
use mathlib.Core.List.{List, [], ◌∷◌, ◌++◌, append_assoc, append-nil}
use lib.ListN.{length, take, drop, set, length-append, length-drop, drop_of_length-le}
use lib.Seq.{sets, sets-eq, length-sets, drop-drop}
use Rattle.numbers.specs.Little.{bytes_of, span, laid}
use Rattle.numbers.proofs.LittleLaws.{length-bytes_of, laid-fits, laid_not, laid_sets, part_rest}
use Rattle.records.specs.Records.{Rec, header_word, lead_of, header_of, encode_one, size}
use Rattle.records.proofs.HeaderLaws.{lead_long}
use Rattle.records.proofs.ReadingLaws.{header-short, header-long, length-header_of, length-encode_one}

-- stores one behind the other
pub sets_append : (l : List ℕ) (i j : ℕ) (xs ys : List ℕ) → j ≡ i + length xs → sets l i (xs ++ ys) ≡ sets (sets l i xs) j ys
sets_append l i j [] ys e = let g : j ≡ i = omega arith in rw g
sets_append l i j (x ∷ xs) ys e = sets_append (set l i x) (suc i) j xs ys (omega arith)

-- a buffer whose part from `at` on was lent, and came back with bs laid at its front
pub laid_at : (out part bs : List ℕ) (at : ℕ) → at + length bs ≤ length out → part ≡ laid bs (take (length out - at) (drop at out))
    → take at out ++ (part ++ drop (length out - at) (drop at out)) ≡ sets out at bs
laid_at out part bs at h e =
    let rest = part_rest out at in
    let short : length (drop at out) ≤ length out - at = omega (arith, length-drop at out) in
    let none : drop (length out - at) (drop at out) ≡ [] = drop_of_length-le (drop at out) short in
    let p : part ≡ bs ++ drop (at + length bs) out
    = e ∙ ap (laid bs) rest ∙ laid-fits bs (drop at out) (omega (arith, length-drop at out)) ∙ ap (λ (l : List ℕ). bs ++ l) (drop-drop (length bs) at out) in
    rw (none, append-nil, p, ← append_assoc) (sym (sets-eq bs out at h))

-- a at the front, and b behind it in the part that is left
pub laid-behind : (out first part a b : List ℕ) (k : ℕ) → k ≡ length a → k + length b ≤ length out → first ≡ laid a out
    → part ≡ laid b (take (length first - k) (drop k first)) → take k first ++ (part ++ drop (length first - k) (drop k first)) ≡ laid (a ++ b) out
laid-behind out first part a b k e h f p =
    let s : first ≡ sets out 0 a = f ∙ sym (laid_sets a out (omega arith)) in
    let n : length first ≡ length out = ap length s ∙ length-sets out 0 a in
    laid_at first part b k (omega arith) p
    ∙ ap (λ (l : List ℕ). sets l k b) s
    ∙ sym (sets_append out 0 k a b (omega arith))
    ∙ laid_sets (a ++ b) out (simp length-append (omega arith))

-- n bytes hold no more of a number than its lowest n bytes
bytes-more : (n q x : ℕ) → bytes_of n (x + span n * q) ≡ bytes_of n x
unfolding bytes_of span
bytes-more zero q x = refl
bytes-more (suc n) q x =
    let p = span n * q in
    let e : 256 * span n * q ≡ 256 * p = mul_assoc 256 (span n) q in
    let low : (x + 256 * span n * q) % 256 ≡ x % 256 = omega arith in
    let high : (x + 256 * span n * q) / 256 ≡ x / 256 + p = omega arith in
    ap₂ (λ (y : ℕ) (ys : List ℕ). y ∷ ys) low (ap (bytes_of n) high ∙ bytes-more n q (x / 256))

pub four_low : (w : ℕ) → bytes_of 4 (w % 4294967296) ≡ bytes_of 4 w
unfolding span
four_low w =
    let e : w % 4294967296 + 4294967296 * (w / 4294967296) ≡ w = omega arith in
    sym (sym (ap (bytes_of 4) e) ∙ bytes-more 4 (w / 4294967296) (w % 4294967296))

module _ (out : List ℕ) (tag level n : ℕ) where
  pub put-short : (first : List ℕ) (w : ℕ) → n < 4095 → w ≡ header_word tag level n % 4294967296 → first ≡ laid (bytes_of 4 w) out
      → first ≡ laid (header_of tag level n) out
  put-short first w h e f = f ∙ rw (header-short tag level n h, e, four_low)

  -- the same, as the search applies it
  pub short_laid : n < 4095 → laid (bytes_of 4 (header_word tag level n % 4294967296)) out ≡ laid (header_of tag level n) out
  short_laid h = put-short (laid (bytes_of 4 (header_word tag level n % 4294967296)) out) (header_word tag level n % 4294967296) h refl refl

  pub put-long : (first part : List ℕ) (w : ℕ) → 4095 ≤ n → 8 ≤ length out → w ≡ header_word tag level 4095 % 4294967296 → first ≡ laid (bytes_of 4 w) out
      → part ≡ laid (bytes_of 4 (n % 4294967296)) (take (length first - 4) (drop 4 first))
      → take 4 first ++ (part ++ drop (length first - 4) (drop 4 first)) ≡ laid (header_of tag level n) out
  put-long first part w h k e f p =
      let four = length-bytes_of 4 (header_word tag level 4095) in
      let tail = length-bytes_of 4 n in
      laid-behind out first part (bytes_of 4 (header_word tag level 4095)) (bytes_of 4 n) 4 (sym four) (omega arith)
      (f ∙ rw (e, four_low)) (rw four_low at p)
      ∙ ap (λ (l : List ℕ). laid l out) (sym (header-long tag level n h))

  pub put_no_header : 4095 ≤ n → length out < 8 → out ≡ laid (header_of tag level n) out
  put_no_header h k = sym (laid_not (header_of tag level n) out (omega (arith, length-header_of tag level n, lead_long n h)))

module _ (out : List ℕ) (r : Rec) where
  pub put_whole : (first part : List ℕ) (k : ℕ) → k ≡ lead_of (length r.body) → k + length r.body ≤ length out
      → first ≡ laid (header_of r.tag r.level (length r.body)) out → part ≡ laid r.body (take (length first - k) (drop k first))
      → take k first ++ (part ++ drop (length first - k) (drop k first)) ≡ laid (encode_one r) out
  unfolding encode_one
  put_whole first part k e h f p =
      laid-behind out first part (header_of r.tag r.level (length r.body)) r.body k (e ∙ sym (length-header_of r.tag r.level (length r.body))) h f p

  pub put_nothing : length out < lead_of (length r.body) + length r.body → out ≡ laid (encode_one r) out
  unfolding size
  put_nothing h = sym (laid_not (encode_one r) out (omega (arith, length-encode_one r)))
