-- The tests of DocInfo find no fault exactly where its rules hold, rule by rule. Assumes nothing.
use Rattle.std.specs.Prelude.{None, Option, Some}
use Prim.Native.Nat.{ℕ, zero, suc, ◌+◌, ◌*◌, ◌≤◌, ◌<◌}
use native.Mathlib.Omega.{arith}
use native.Mathlib.Decide.{dec_le}
use native.Mathlib.Nat.{le_trans, lt_of_not-le, add-zero, mul-le-mul_left}
use mathlib.Core.Path.{◌≡◌, refl, sym, ap, ◌∙◌}
use mathlib.Core.Bool.{Bool, true, false, cond}
use mathlib.Core.Logic.{◌⊎◌, inl, inr}
use mathlib.Core.List.{List, [], ◌∷◌, ◌++◌}
use lib.Dec.{leb, ltb, eqb, lit<}
use lib.ListN.{length}
use borrow.Author.Tests.{leb-false, ltb-false, eqb-true, eqb-false, lt-leb, le-ltb, eq-eqb}
use Rattle.numbers.specs.Little.{span}
use Rattle.records.specs.Records.{Rec, encode, size}
use Rattle.records.specs.Parents.{Lacks}
use Rattle.records.proofs.ScanLaws.{length-encode}
use Rattle.docinfo.specs.Only.{Located, tagged}
use Rattle.docinfo.specs.Counts.{tally, count_at, negative, negative_from, sum_from, groups, matched, unmatched, or_else, count_fault}
use Rattle.docinfo.specs.SoundDocInfo.{There, CountsHold}
use Rattle.docinfo.specs.declared.counts.Group.{Group}
use Rattle.docinfo.proofs.SeekLaws.{tagged_here, tagged_other, tagged_none}
use Rattle.docinfo.proofs.CountLaws.{count_absent}

-- ---- the only record with a tag

-- no record with the tag
pub lacks-tagged : (t at : ℕ) (rs : List Rec) → Lacks t rs → tagged t at rs ≡ []
lacks-tagged t at [] l = tagged_none t at
lacks-tagged t at (r ∷ rs) l = tagged_other t at r rs l.0 ∙ lacks-tagged t (at + size r) rs l.1

pub tagged-lacks : (t at : ℕ) (rs : List Rec) → tagged t at rs ≡ [] → Lacks t rs
tagged-lacks t at [] e = tt
tagged-lacks t at (r ∷ rs) e = by_tag (eqb r.tag t) refl (tagged-lacks t (at + size r) rs)
  where
    by_tag : (b : Bool) → eqb r.tag t ≡ b → (tagged t (at + size r) rs ≡ [] → Lacks t rs) → (r.tag ≡ t → ⊥) × Lacks t rs
    by_tag true q further = let h = tagged_here t at r rs (eqb-true _ _ q) in absurd (let z : ◌≡◌ {A = ℕ} 0 1 = cc in omega arith)
    by_tag false q further = let n = eqb-false _ _ q in (n, further (sym (tagged_other t at r rs n) ∙ e))

-- one record with the tag: its place is the length of what stands before it
pub split_tagged : (t at : ℕ) (before : List Rec) (it : Rec) (behind : List Rec) → Lacks t before → it.tag ≡ t → Lacks t behind
    → tagged t at (before ++ it ∷ behind) ≡ record { at = at + length (encode before); it = it; behind = behind } ∷ []
unfolding encode
split_tagged t at [] it behind l e k =
    tagged_here t at it behind e
    ∙ rw (lacks-tagged t (at + size it) behind k, add-zero at) refl
split_tagged t at (r ∷ rs) it behind l e k =
    let sum : at + size r + length (encode rs) ≡ at + length (encode (r ∷ rs)) = omega (arith, length-encode r rs) in
    tagged_other t at r (rs ++ it ∷ behind) l.0
    ∙ split_tagged t (at + size r) rs it behind l.1 e k
    ∙ ap (λ (a : ℕ). record { at = a; it = it; behind = behind } ∷ []) sum

pub record Split (t : ℕ) (rs : List Rec) (p : Located) : Type 0 where
  pub before : List Rec
  pub whole : rs ≡ before ++ p.it ∷ p.behind
  pub tag_is : p.it.tag ≡ t
  pub none_before : Lacks t before
  pub none_behind : Lacks t p.behind

pub tagged_split : (t at : ℕ) (rs : List Rec) (p : Located) → tagged t at rs ≡ p ∷ [] → Split t rs p
tagged_split t at [] p e = let h = tagged_none t at in absurd (let z : ◌≡◌ {A = ℕ} 0 1 = cc in omega arith)
tagged_split t at (r ∷ rs) p e = by_tag (eqb r.tag t) refl (tagged_split t (at + size r) rs p)
  where
    by_tag : (b : Bool) → eqb r.tag t ≡ b → (tagged t (at + size r) rs ≡ p ∷ [] → Split t rs p) → Split t (r ∷ rs) p
    by_tag true q further =
        let h = tagged_here t at r rs (eqb-true _ _ q) in
        let same : record { at = at; it = r; behind = rs } ≡ p = cc in
        let left : tagged t (at + size r) rs ≡ [] = cc in
        rw (← same)
        (record { before = []; whole = refl; tag_is = eqb-true _ _ q; none_before = tt; none_behind = tagged-lacks t (at + size r) rs left })
    by_tag false q further =
        let n = eqb-false _ _ q in
        let k = further (sym (tagged_other t at r rs n) ∙ e) in
        record {
          before = r ∷ k.before;
          whole = ap (λ (l : List Rec). r ∷ l) k.whole;
          tag_is = k.tag_is;
          none_before = (n, k.none_before);
          none_behind = k.none_behind;
        }

-- ---- the counts

module _ (w : ℕ) (body : List ℕ) where
  pub negative_none : (i k : ℕ) → negative_from w body i k ≡ None → (j : ℕ) → i ≤ j → j < i + k → 2 * count_at w body j < span w
  unfolding negative_from negative
  negative_none i zero e j l h = absurd (omega arith)
  negative_none i (suc k) e j l h =
      by_test (leb (span w) (2 * count_at w body i)) refl e (λ z g. negative_none (i + 1) k z j (omega arith) (omega arith))
    where
      by_test : (b : Bool) → leb (span w) (2 * count_at w body i) ≡ b → cond b (Some i) (negative_from w body (i + 1) k) ≡ None
          → (negative_from w body (i + 1) k ≡ None → i < j → 2 * count_at w body j < span w) → 2 * count_at w body j < span w
      by_test true q z further = absurd (let z : ◌≡◌ {A = ℕ} 0 1 = cc in omega arith)
      by_test false q z further =
          elim (dec_le j i) [
            | yes g ↦
                let same : j ≡ i = omega arith in
                rw same (leb-false _ _ q)
            | no g ↦ further z (lt_of_not-le g)
          ]

  pub none_negative : (i k : ℕ) → ((j : ℕ) → i ≤ j → j < i + k → 2 * count_at w body j < span w) → negative_from w body i k ≡ None
  unfolding negative_from negative
  none_negative i zero h = refl
  none_negative i (suc k) h =
      simp (lt-leb (span w) (2 * count_at w body i) (h i (omega arith) (omega arith)))
      (none_negative (i + 1) k (λ j l m. h j (omega arith) (omega arith)))

module _ (w : ℕ) (body : List ℕ) (kids : List Rec) where
  -- a group that is all there is matched
  abbrev pub Agrees : Group → Type 0
  Agrees g = w * (g.first + g.many) ≤ length body → sum_from w body g.first g.many ≡ tally g.tag kids

  matched_agrees : (g : Group) → matched w body kids g ≡ true → Agrees g
  unfolding matched
  matched_agrees g e l = eqb-true _ _ (simp (le-ltb (length body) (w * (g.first + g.many)) l) at e)

  agrees_matched : (g : Group) → Agrees g → matched w body kids g ≡ true
  unfolding matched
  agrees_matched g h = by_test (ltb (length body) (w * (g.first + g.many))) refl
    where
      by_test : (b : Bool) → ltb (length body) (w * (g.first + g.many)) ≡ b
          → cond b true (eqb (sum_from w body g.first g.many) (tally g.tag kids)) ≡ true
      by_test true q = refl
      by_test false q = eq-eqb _ _ (h (ltb-false _ _ q))

  -- every group is
  abbrev pub Matched : List Group → Type 0
  Matched [] = Unit {0}
  Matched (g ∷ gs) = Agrees g × Matched gs

  pub unmatched_none : (gs : List Group) → unmatched w body kids gs ≡ None → Matched gs
  unfolding unmatched
  unmatched_none [] e = tt
  unmatched_none (g ∷ gs) e = by_test (matched w body kids g) refl e (unmatched_none gs)
    where
      by_test : (b : Bool) → matched w body kids g ≡ b → cond b (unmatched w body kids gs) (Some g.first) ≡ None
          → (unmatched w body kids gs ≡ None → Matched gs) → Matched (g ∷ gs)
      by_test true q z further = (matched_agrees g q, further z)
      by_test false q z further = absurd (let z : ◌≡◌ {A = ℕ} 0 1 = cc in omega arith)

  pub none_unmatched : (gs : List Group) → Matched gs → unmatched w body kids gs ≡ None
  unfolding unmatched
  none_unmatched [] m = refl
  none_unmatched (g ∷ gs) m = simp (agrees_matched g m.0) (none_unmatched gs m.1)

-- ---- the table says what the documents say, over the width

-- `sign` is the sign bit of w bytes, and the body has fifteen counts and no more, or sixteen at least
pub record Counted (w sign : ℕ) (body : List ℕ) : Type 0 where
  pub sign_is : span w ≡ 2 * sign
  pub signed : 0 < sign
  pub fifteen : w * 15 ≤ length body
  pub sixteenth : (w * 16 ≤ length body) ⊎ (length body ≤ w * 15)

module _ {w sign : ℕ} {body : List ℕ} (kids : List Rec) (k : Counted w sign body) where
  abbrev NoneNegative : Type 0
  NoneNegative = (i : ℕ) → i < 16 → There w body i → count_at w body i < sign

  in_order : Matched w body kids groups → (j : ℕ) → j < 7 → count_at w body (8 + j) ≡ tally (20 + j) kids
  unfolding groups sum_from
  in_order m zero h = omega (arith, m.1.1.0 (omega (arith, k.fifteen)))
  in_order m (suc zero) h = omega (arith, m.1.1.1.0 (omega (arith, k.fifteen)))
  in_order m (suc (suc zero)) h = omega (arith, m.1.1.1.1.0 (omega (arith, k.fifteen)))
  in_order m (suc (suc (suc zero))) h = omega (arith, m.1.1.1.1.1.0 (omega (arith, k.fifteen)))
  in_order m (suc (suc (suc (suc zero)))) h = omega (arith, m.1.1.1.1.1.1.0 (omega (arith, k.fifteen)))
  in_order m (suc (suc (suc (suc (suc zero))))) h = omega (arith, m.1.1.1.1.1.1.1.0 (omega (arith, k.fifteen)))
  in_order m (suc (suc (suc (suc (suc (suc zero)))))) h = omega (arith, m.1.1.1.1.1.1.1.1.0 (omega (arith, k.fifteen)))
  in_order m (suc (suc (suc (suc (suc (suc (suc j))))))) h = absurd (omega arith)

  in_words : Matched w body kids groups → NoneNegative → CountsHold w sign body kids
  unfolding groups sum_from
  in_words m n =
      record {
        none_negative = n;
        count_0 = omega (arith, m.0 (omega (arith, k.fifteen)));
        counts_1_to_7 = omega (arith, m.1.0 (omega (arith, k.fifteen)));
        counts_8_to_14 = in_order m;
        count_15 = λ l. omega (arith, m.1.1.1.1.1.1.1.1.1.0 l);
      }

  in_table : CountsHold w sign body kids → Matched w body kids groups
  unfolding groups sum_from
  in_table h =
      (λ l. omega (arith, h.count_0), (λ l. omega (arith, h.counts_1_to_7), (λ l. omega (arith, h.counts_8_to_14 0 (lit< tt)), (λ l. omega (arith, h.counts_8_to_14 1 (lit< tt)), (λ l. omega (arith, h.counts_8_to_14 2 (lit< tt)), (λ l. omega (arith, h.counts_8_to_14 3 (lit< tt)), (λ l. omega (arith, h.counts_8_to_14 4 (lit< tt)), (λ l. omega (arith, h.counts_8_to_14 5 (lit< tt)), (λ l. omega (arith, h.counts_8_to_14 6 (lit< tt)), (λ l. omega (arith, h.count_15 l), tt))))))))))

  -- a count that is not there is 0, and so not negative
  last_low : NoneNegative → 2 * count_at w body 15 < span w
  last_low h = by k.sixteenth
    where
      by : (w * 16 ≤ length body) ⊎ (length body ≤ w * 15) → 2 * count_at w body 15 < span w
      by (inl l) = omega (arith, h 15 (lit< tt) l, k.sign_is)
      by (inr l) = omega (arith, count_absent w body 15 l, k.sign_is, k.signed)

  each_low : NoneNegative → (j : ℕ) → j < 16 → 2 * count_at w body j < span w
  each_low h j l =
      elim (dec_le 15 j) [
        | yes g ↦ let same : j ≡ 15 = omega arith in rw same (last_low h)
        | no g ↦
            let lower : j + 1 ≤ 15 = omega (arith, lt_of_not-le g) in
            omega (arith, h j l (le_trans (mul-le-mul_left w lower) k.fifteen), k.sign_is)
      ]

  or_none : (x y : Option ℕ) → or_else x y ≡ None → (x ≡ None) × (y ≡ None)
  unfolding or_else
  or_none None y e = (refl, e)
  or_none (Some i) y e = absurd (let z : ◌≡◌ {A = ℕ} 0 1 = cc in omega arith)

  -- the counts hold exactly where none is at fault
  pub counts_hold : count_fault w body kids ≡ None → CountsHold w sign body kids
  unfolding count_fault
  counts_hold e =
      let f = or_none (negative_from w body 0 16) (unmatched w body kids groups) e in
      in_words (unmatched_none w body kids groups f.1)
      (λ i h l. omega (arith, negative_none w body 0 16 f.0 i (omega arith) (omega arith), k.sign_is))

  pub counts_fine : CountsHold w sign body kids → count_fault w body kids ≡ None
  unfolding count_fault or_else
  counts_fine h =
      simp (none_negative w body 0 16 (λ j l m. each_low h.none_negative j (omega arith))) (none_unmatched w body kids groups (in_table h))
