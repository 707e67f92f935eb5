-- The laws of counts: each clause of a definition as an equation under its test. Assumes nothing.
use Rattle.std.specs.Prelude.{None, Option, Some}
use Prim.Native.Nat.{ℕ, zero, suc, ◌+◌, ◌-◌, ◌*◌, ◌^◌, ◌≤◌, ◌<◌}
use native.Mathlib.Omega.{arith}
use native.Mathlib.Numerals.{add-one}
use Rattle.std.proofs.Math.Nat.{pow-suc, pow-le-pow_right}
use native.Mathlib.Decide.{dec_le}
use native.Mathlib.Nat.{lt_of_not-le, zero-add, mul-suc, mul-add}
use mathlib.Core.Path.{◌≡◌, refl, sym, ap, ◌∙◌, subst}
use mathlib.Core.Bool.{Bool, true, false, cond}
use mathlib.Core.List.{List, [], ◌∷◌}
use lib.Dec.{ltb, eqb}
use lib.ListN.{length, get_or, drop, drop_of_length-le}
use lib.Seq.{drop-cons}
use borrow.Author.Tests.{le-leb, lt-leb, leb-true, ltb-false}
use Rattle.numbers.specs.Little.{little, span}
use Rattle.records.specs.Records.{Rec}
use Rattle.docinfo.specs.declared.counts.Group.{Group}
use Rattle.docinfo.specs.Counts.{tally, count_at, negative, negative_from, sum_from, groups, matched, unmatched, or_else, count_fault}

-- ---- the bits of a count

-- no bytes have no bits
none_little : (w : ℕ) → little w [] ≡ 0
unfolding little
none_little zero = refl
none_little (suc w) = simp (none_little w)

module _ (w : ℕ) (body : List ℕ) (i : ℕ) where
  pub count_absent : length body ≤ w * i → count_at w body i ≡ 0
  unfolding count_at
  count_absent h = ap (little w) (drop_of_length-le body h) ∙ none_little w

-- a count as it is read
-- ---- how many numbers a count can hold

span_is : (w : ℕ) → 256 ^ w ≡ span w
unfolding span
span_is zero = refl
span_is (suc w) = simp pow-suc (omega (arith, span_is w))

pub span_fits : (w : ℕ) → w ≤ 4 → 256 ^ w < 18446744073709551616
span_fits w h = let g : 256 ^ w ≤ 256 ^ 4 = pow-le-pow_right (omega arith) h in omega arith

-- ---- negative counts: those from i on of n

-- where the search for a negative count stands: those before i of n are not
pub record Negating (w : ℕ) (body : List ℕ) (n i : ℕ) : Type 0 where
  pub left : negative_from w body 0 n ≡ negative_from w body i (n - i)

module _ {w : ℕ} {body : List ℕ} {n i : ℕ} (k : Negating w body n i) where
  pub negative_end : n ≤ i → None ≡ negative_from w body 0 n
  unfolding negative_from
  negative_end h = let e : n - i ≡ 0 = omega arith in sym (k.left ∙ rw e refl)

  module _ (h : i < n) {x : ℕ} (e : x ≡ count_at w body i) where
    next : negative_from w body i (n - i) ≡ cond (negative w x) (Some i) (negative_from w body (i + 1) (n - (i + 1)))
    unfolding negative_from
    next = let d : n - i ≡ suc (n - (i + 1)) = omega arith in rw (d, e) refl

    pub negative_here : 256 ^ w ≤ 2 * x → Some i ≡ negative_from w body 0 n
    unfolding negative
    negative_here g = sym (k.left ∙ next ∙ simp (le-leb (span w) (2 * x) (omega (arith, span_is w))))

    pub negative-next : 2 * x < 256 ^ w → Negating w body n (i + 1)
    unfolding negative
    negative-next g = record { left = k.left ∙ next ∙ simp (lt-leb (span w) (2 * x) (omega (arith, span_is w))) }

-- ---- sums: where a sum of n counts from `first` on stands at count i, and each is below `cap`

pub record Summing (w : ℕ) (body : List ℕ) (cap first n sum i : ℕ) : Type 0 where
  pub small : sum ≤ cap * (i - first)
  pub left : sum_from w body first n ≡ sum + sum_from w body i (first + n - i)

module _ (w : ℕ) (body : List ℕ) (cap first n : ℕ) where
  pub summing_start : Summing w body cap first n 0 first
  summing_start =
      let e : first + n - first ≡ n = omega arith in
      record { small = omega arith; left = rw e (sym (zero-add (sum_from w body first n))) }

  pub summing_next : {sum i : ℕ} → Summing w body cap first n sum i → first ≤ i → i < first + n → {x : ℕ} → x ≡ count_at w body i → x < cap
      → Summing w body cap first n (sum + x) (i + 1)
  unfolding sum_from
  summing_next {sum} {i} m h l {x} e k =
      let one : first + n - i ≡ suc (first + n - (i + 1)) = omega arith in
      let step : sum_from w body i (first + n - i) ≡ count_at w body i + sum_from w body (i + 1) (first + n - (i + 1)) = rw one refl in
      let d : i + 1 - first ≡ suc (i - first) = omega arith in
      let more : cap * (i + 1 - first) ≡ cap * (i - first) + cap = rw d (mul-suc cap (i - first)) in
      record { small = omega (arith, m.small, more); left = omega (arith, m.left, step) }

  pub summing_end : {sum i : ℕ} → Summing w body cap first n sum i → first + n ≤ i → sum ≡ sum_from w body first n
  unfolding sum_from
  summing_end {sum} {i} m h =
      let none_left : first + n - i ≡ 0 = omega arith in
      let e : sum_from w body i (first + n - i) ≡ 0 = rw none_left refl in
      omega (arith, m.left)

-- ---- the table

-- every group lies within the sixteen counts
abbrev InCounts : List Group → Type 0
InCounts [] = Unit {0}
InCounts (g ∷ gs) = (g.first + g.many ≤ 16) × InCounts gs

within_at : (gs : List Group) (d : Group) (i : ℕ) → InCounts gs → i < length gs → (get_or gs i d).first + (get_or gs i d).many ≤ 16
within_at [] d i w h = absurd (omega arith)
within_at (g ∷ gs) d zero w h = w.0
within_at (g ∷ gs) d (suc i) w h = within_at gs d i w.1 (omega arith)

all_within : InCounts groups
unfolding groups
all_within = omega arith

-- where the matching stands, over the rows of the table: the groups before row i are matched
pub record Matching (w : ℕ) (body : List ℕ) (kids : List Rec) (gs : List Group) (i : ℕ) : Type 0 where
  pub table : gs ≡ groups
  pub left : unmatched w body kids groups ≡ unmatched w body kids (drop i gs)

pub matching_start : (w : ℕ) (body : List ℕ) (kids : List Rec) → Matching w body kids groups 0
matching_start w body kids = record { table = refl; left = refl }

module _ {w : ℕ} {body : List ℕ} {kids : List Rec} {gs : List Group} {i : ℕ} (k : Matching w body kids gs i) where
  pub matching_end : length gs ≤ i → None ≡ unmatched w body kids groups
  unfolding unmatched
  matching_end h = sym (k.left ∙ ap (unmatched w body kids) (drop_of_length-le gs h))

  module _ (h : i < length gs) (d : Group) where
    abbrev g : Group
    g = get_or gs i d

    row_next : unmatched w body kids (drop i gs) ≡ cond (matched w body kids g) (unmatched w body kids (drop (i + 1) gs)) (Some g.first)
    unfolding unmatched
    row_next = let e : drop i gs ≡ g ∷ drop (i + 1) gs = rw add-one (drop-cons gs i d h) in ap (unmatched w body kids) e

    pub matching_within : g.first + g.many ≤ 16
    matching_within = within_at gs d i (subst InCounts (sym k.table) all_within) h

    pub matching_here : false ≡ matched w body kids g → Some g.first ≡ unmatched w body kids groups
    matching_here e = simp (k.left, row_next, ← e)

    pub matching_next : true ≡ matched w body kids g → Matching w body kids gs (i + 1)
    matching_next e = record { table = k.table; left = k.left ∙ row_next ∙ simp (← e) }

-- ---- the count at fault is in the body

-- a count, if there is one, that begins in the body or at its end
abbrev pub Within : ℕ → List ℕ → Option ℕ → Type 0
Within w body None = Unit {0}
Within w body (Some i) = w * i ≤ length body

span_some : (w : ℕ) → 0 < span w
unfolding span
span_some zero = omega arith
span_some (suc w) = omega (arith, span_some w)

module _ (w : ℕ) (body : List ℕ) where
  -- a count that is not there is not negative
  negative_there : (i : ℕ) → negative w (count_at w body i) ≡ true → w * i ≤ length body
  unfolding negative
  negative_there i e = elim (dec_le (length body) (w * i)) [
    | yes h ↦ absurd (omega (arith, span_some w, leb-true (span w) (2 * count_at w body i) e, count_absent w body i h))
    | no g ↦ omega (arith, lt_of_not-le g)
  ]

  negative-within : (i k : ℕ) → Within w body (negative_from w body i k)
  unfolding negative_from
  negative-within i zero = tt
  negative-within i (suc k) = by (negative w (count_at w body i)) refl (negative-within (i + 1) k)
    where
      by : (b : Bool) → negative w (count_at w body i) ≡ b → Within w body (negative_from w body (i + 1) k) → Within w body (cond b (Some i) (negative_from w body (i + 1) k))
      by true e further = negative_there i e
      by false e further = further

  module _ (kids : List Rec) where
    -- a group that is not all there is matched
    unmatched_there : (g : Group) → matched w body kids g ≡ false → w * g.first ≤ length body
    unfolding matched
    unmatched_there g e = by (ltb (length body) (w * (g.first + g.many))) refl e
      where
        by : (b : Bool) → ltb (length body) (w * (g.first + g.many)) ≡ b → cond b true (eqb (sum_from w body g.first g.many) (tally g.tag kids)) ≡ false
            → w * g.first ≤ length body
        by true q z = absurd (let y : ◌≡◌ {A = ℕ} 0 1 = cc in omega arith)
        by false q z = omega (arith, ltb-false (length body) (w * (g.first + g.many)) q, mul-add w g.first g.many)

    unmatched-within : (gs : List Group) → Within w body (unmatched w body kids gs)
    unfolding unmatched
    unmatched-within [] = tt
    unmatched-within (g ∷ gs) = by (matched w body kids g) refl (unmatched-within gs)
      where
        by : (b : Bool) → matched w body kids g ≡ b → Within w body (unmatched w body kids gs) → Within w body (cond b (unmatched w body kids gs) (Some g.first))
        by true e further = further
        by false e further = unmatched_there g e

    either_within : (o y : Option ℕ) → Within w body o → Within w body y → Within w body (or_else o y)
    unfolding or_else
    either_within None y h k = k
    either_within (Some i) y h k = h

    pub fault-within : Within w body (count_fault w body kids)
    unfolding count_fault
    fault-within = either_within (negative_from w body 0 16) (unmatched w body kids groups) (negative-within 0 16) (unmatched-within groups)

  pub within-told : (o : Option ℕ) (i : ℕ) → Within w body o → Some i ≡ o → w * i ≤ length body
  within-told None i h e = absurd (let z : ◌≡◌ {A = ℕ} 0 1 = cc in omega arith)
  within-told (Some j) i h e = let same : i ≡ j = cc in rw same h
