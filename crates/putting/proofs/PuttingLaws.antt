-- Bytes put one behind the other are put together. Assumes nothing.
use Prim.Native.Nat.{ℕ, zero, suc, ◌+◌, ◌-◌, ◌%◌, ◌≤◌, ◌<◌, min}
use native.Mathlib.Omega.{arith}
use mathlib.Core.Path.{◌≡◌, refl, sym, ap, ◌∙◌}
use mathlib.Core.Bool.{Bool, true, false, cond}
use mathlib.Core.List.{List, [], ◌∷◌, ◌++◌, append-nil}
use lib.Dec.{ltb, leb}
use borrow.Author.Tests.{leb-true, leb-false}
use lib.ListN.{length, take, drop, set, length-append, length-take, take-append-drop, drop_of_length-le}
use lib.Seq.{sets, length-sets, take_all, length-take-le, take_at}
use Rattle.numbers.specs.Little.{bytes_of, laid}
use Rattle.numbers.proofs.LittleLaws.{length-bytes_of, laid-fits}
use Rattle.records.specs.Records.{header_of, lead_of}
use Rattle.records.proofs.ReadingLaws.{length-header_of}
use Rattle.pack.proofs.PutLaws.{sets_append, laid_at, four_low}
use Rattle.putting.specs.Putting.{largest, Puts}
use Rattle.putting.specs.Sheet.{Put}
use Rattle.putting.specs.declared.put.Sheet.{Sheet}

-- a store past the end is none
set_past : (l : List ℕ) (i x : ℕ) → length l ≤ i → set l i x ≡ l
set_past [] i x h = refl
set_past (y ∷ l) zero x h = absurd (omega arith)
set_past (y ∷ l) (suc i) x h = ap (λ (k : List ℕ). y ∷ k) (set_past l i x (omega arith))

pub sets_past : (l : List ℕ) (i : ℕ) (bs : List ℕ) → length l ≤ i → sets l i bs ≡ l
sets_past l i [] h = refl
sets_past l i (x ∷ bs) h = rw (set_past l i x h) (sets_past l (suc i) bs (omega arith))

-- only as many are stored as there is room for
pub sets_room : (l : List ℕ) (i k : ℕ) (bs : List ℕ) → i + k ≡ length l → sets l i (take k bs) ≡ sets l i bs
sets_room l i k bs e = by (leb (length bs) k) refl
  where
    by : (b : Bool) → leb (length bs) k ≡ b → sets l i (take k bs) ≡ sets l i bs
    by true q = ap (sets l i) (take_all k bs (leb-true (length bs) k q))
    by false q =
        let h : k ≤ length bs = let m = leb-false (length bs) k q in omega arith in
        sym
        (ap (sets l i) (sym (take-append-drop k bs))
        ∙ sets_append l i (i + k) (take k bs) (drop k bs) (ap (λ (n : ℕ). i + n) (sym (length-take-le k bs h)))
        ∙ sets_past (sets l i (take k bs)) (i + k) (drop k bs) (omega (arith, length-sets l i (take k bs))))

-- one put behind another
pub puts_then : {out mid after xs ys : List ℕ} {at p q : ℕ} → Puts out at xs p mid → Puts mid p ys q after → Puts out at (xs ++ ys) q after
puts_then {out} {mid} {after} {xs} {ys} {at} {p} {q} a b = by (leb (at + length xs) largest) refl
  where
    n : length (xs ++ ys) ≡ length xs + length ys
    n = length-append xs ys

    whole : (bound : p ≡ at + length xs) → Puts out at (xs ++ ys) q after
    whole e =
        record {
          room = a.room;
          next-is = b.next-is ∙ rw (e, n) (omega arith);
          after_is = b.after_is ∙ ap (λ (l : List ℕ). sets l p ys) a.after_is ∙ sym (sets_append out at p xs ys e);
        }

    past : largest < at + length xs → Puts out at (xs ++ ys) q after
    past h =
        let e : p ≡ largest = omega (arith, a.next-is) in
        let m : length (sets out at xs) ≤ largest = omega (arith, length-sets out at xs, a.room) in
        record {
          room = a.room;
          next-is = b.next-is ∙ rw (e, n) (omega arith);
          after_is =
              b.after_is
              ∙ ap (λ (l : List ℕ). sets l p ys) a.after_is
              ∙ sets_past (sets out at xs) p ys (omega arith)
              ∙ sym (sets_append out at (at + length xs) xs ys refl ∙ sets_past (sets out at xs) (at + length xs) ys (omega arith));
        }

    by : (t : Bool) → leb (at + length xs) largest ≡ t → Puts out at (xs ++ ys) q after
    by true t = whole (let h = leb-true (at + length xs) largest t in omega (arith, a.next-is))
    by false t = past (let h = leb-false (at + length xs) largest t in omega arith)

-- nothing put
pub puts_none : (out : List ℕ) (at : ℕ) → length out ≤ largest → at ≤ largest → Puts out at [] at out
puts_none out at h k = record { room = h; next-is = omega arith; after_is = refl }

-- the part of the buffer from `at` on was lent, and came back with what has room
pub puts_lent : (out part some s : List ℕ) (at next : ℕ) → length out ≤ largest → at < length out → some ≡ take (length out - at) s
    → part ≡ laid some (take (length out - at) (drop at out)) → next ≡ min largest (at + length s)
    → Puts out at s next (take at out ++ (part ++ drop (length out - at) (drop at out)))
puts_lent out part some s at next h k e f g =
    let m : length some ≤ length out - at = omega (arith, ap length e, length-take (length out - at) s) in
    record {
      room = h;
      next-is = g;
      after_is =
          laid_at out part some at (omega arith) f
          ∙ ap (sets out at) e
          ∙ sets_room out at (length out - at) s (omega arith);
    }

pub puts_past : (out s : List ℕ) (at next : ℕ) → length out ≤ largest → length out ≤ at → next ≡ min largest (at + length s) → Puts out at s next out
puts_past out s at next h k g = record { room = h; next-is = g; after_is = sym (sets_past out at s k) }

-- what was laid into an array of as many bytes, or of more
pub laid_all : (bs zs all : List ℕ) → length bs ≡ length zs → all ≡ laid bs zs → all ≡ bs
laid_all bs zs all h e =
    let none : drop (length bs) zs ≡ [] = let k : length zs ≤ length bs = omega arith in drop_of_length-le zs k in
    e ∙ laid-fits bs zs (omega arith) ∙ ap (λ (l : List ℕ). bs ++ l) none ∙ append-nil bs

pub laid_first : (bs zs all : List ℕ) (n : ℕ) → length bs ≤ length zs → length bs ≡ n → all ≡ laid bs zs → take n all ≡ bs
laid_first bs zs all n h k e = ap (take n) (e ∙ laid-fits bs zs h) ∙ take_at bs (drop (length bs) zs) n k

pub low_of : (w : ℕ) (zs all : List ℕ) → length zs ≡ 4 → all ≡ laid (bytes_of 4 (w % 4294967296)) zs → all ≡ bytes_of 4 w
low_of w zs all h e = laid_all (bytes_of 4 (w % 4294967296)) zs all (length-bytes_of 4 (w % 4294967296) ∙ sym h) e ∙ four_low w

lead_most : (m : ℕ) → lead_of m ≤ 8
unfolding lead_of
lead_most m = by (ltb m 4095)
  where
    by : (b : Bool) → cond b 4 8 ≤ 8
    by true = omega arith
    by false = omega arith

pub head_of_lem : (tag level n lead : ℕ) (zs all : List ℕ) → length zs ≡ 8 → lead ≡ lead_of n → all ≡ laid (header_of tag level n) zs → take lead all ≡ header_of tag level n
head_of_lem tag level n lead zs all h k e =
    laid_first (header_of tag level n) zs all lead (omega (arith, length-header_of tag level n, lead_most n)) (length-header_of tag level n ∙ sym k) e

-- ---- onto a sheet

module _ {s t : Sheet} where
  pub put_then : {u : Sheet} {xs ys : List ℕ} → Put s xs t → Put t ys u → Put s (xs ++ ys) u
  put_then a b = record { same = b.same ∙ a.same; puts = puts_then a.puts b.puts }

  -- the bytes that are put, named otherwise
  pub put_as : {xs ys : List ℕ} → xs ≡ ys → Put s xs t → Put s ys t
  put_as e a = rw (← e) a

-- nothing put
pub put_none : (s : Sheet) → Put s [] s
put_none s = record { same = refl; puts = puts_none s.out.now s.at.0 s.room s.place }

-- ---- a loop that puts: from t on the rest is to be put, and from s on it is all

pub record Left (s : Sheet) (all rest : List ℕ) (t : Sheet) : Type 0 where
  pub onward : (u : Sheet) → Put t rest u → Put s all u

pub left_start : (s : Sheet) {all rest : List ℕ} → all ≡ rest → Left s all rest s
left_start s e = record { onward = λ u p. put_as (sym e) p }

pub left_next : {s t u : Sheet} {all rest x more : List ℕ} → Left s all rest t → rest ≡ x ++ more → Put t x u → Left s all more u
left_next k e p = record { onward = λ u q. k.onward u (put_as (sym e) (put_then p q)) }

pub left_done : {s t : Sheet} {all rest : List ℕ} → Left s all rest t → rest ≡ [] → Put s all t
left_done {s} {t} k e = k.onward t (put_as (sym e) (put_none t))
