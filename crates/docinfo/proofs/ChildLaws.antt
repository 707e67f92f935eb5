-- The laws of children, and of the records with a tag: each clause of a definition as an equation under its test. Assumes nothing.
use Prim.Native.Nat.{ℕ, ◌+◌, ◌≤◌, ◌<◌}
use native.Mathlib.Omega.{arith}
use native.Mathlib.Nat.{zero-add, add-zero}
use mathlib.Core.Logic.{◌⊎◌, inl, inr}
use mathlib.Core.Path.{◌≡◌, refl, sym, ap, ◌∙◌}
use mathlib.Core.Bool.{Bool, true, false, ◌&&◌}
use mathlib.Core.List.{List, [], ◌∷◌}
use lib.Dec.{eqb}
use borrow.Author.Tests.{lt-ltb, le-ltb, eq-eqb, ne_eqb}
use Rattle.records.specs.Records.{Rec}
use Rattle.records.specs.Parents.{keep_if, children}
use Rattle.records.specs.declared.header.Record.{Record}
use Rattle.records.specs.declared.walk.Records.{Records}
use Rattle.records.proofs.StepLaws.{Stepped}
use Rattle.docinfo.specs.Counts.{once, tally}
use Rattle.docinfo.proofs.WalkLaws.{rest, walk-next}

-- one more or not
once_small : (b : Bool) → once b ≤ 1
unfolding once
once_small true = omega arith
once_small false = omega arith

-- ---- counting the children with a tag

module _ (t n : ℕ) where
  pub tally_end : tally t (children n []) ≡ 0
  unfolding children tally
  tally_end = refl

  pub tally_beyond : (r : Rec) (rs : List Rec) → r.level < n → tally t (children n (r ∷ rs)) ≡ 0
  unfolding children tally
  tally_beyond r rs h = simp (lt-ltb r.level n h)

  tally-keep : (b : Bool) (r : Rec) (rs : List Rec) → tally t (keep_if b r rs) ≡ once (b && eqb r.tag t) + tally t rs
  unfolding keep_if once tally
  tally-keep true r rs = refl
  tally-keep false r rs = sym (zero-add (tally t rs))

  pub tally-next : (r : Rec) (rs : List Rec) → n ≤ r.level
      → tally t (children n (r ∷ rs)) ≡ once (eqb r.level n && eqb r.tag t) + tally t (children n rs)
  unfolding children
  tally-next r rs h = simp (le-ltb r.level n h) (tally-keep (eqb r.level n) r (children n rs))

-- ---- where the count of children stands: those from `from` on are `met` and those that are still to come

pub record Counting (s : List ℕ) (from n tag : ℕ) (p : Records) (met : ℕ) : Type 0 where
  pub stream-is : p.stream.now ≡ s
  pub small : met ≤ p.at.0
  pub left : tally tag (children n (rest n s from)) ≡ met + tally tag (children n (rest p.cap s p.at.0))

module _ {s : List ℕ} {from n tag : ℕ} where
  module _ {p : Records} {met : ℕ} (k : Counting s from n tag p met) where
    -- at the end of the stream, or where it is broken
    pub counting_end : rest p.cap s p.at.0 ≡ [] → met ≡ tally tag (children n (rest n s from))
    counting_end e =
        let z : tally tag (children n (rest p.cap s p.at.0)) ≡ 0 = rw e (tally_end tag n) in
        omega (arith, k.left)

    module _ {q : Records} {r : Record} (d : Stepped s p q r) where
      -- behind the last record below the parent
      pub counting_beyond : r.level < n → met ≡ tally tag (children n (rest n s from))
      counting_beyond l =
          let z : tally tag (children n (rest p.cap s p.at.0)) ≡ 0 = rw (walk-next d.here) (tally_beyond tag n d.here.rec _ (omega (arith, d.here.level_is))) in
          omega (arith, k.left)

      counting_on : n ≤ r.level → (b : Bool) → eqb r.level n && eqb r.tag tag ≡ b → Counting s from n tag q (met + once b)
      unfolding once
      counting_on l b e =
          let left = rest (r.level + 1) s r.next.0 in
          let same : eqb d.here.rec.level n && eqb d.here.rec.tag tag ≡ b = rw (← d.here.level_is, ← d.here.tag_is) e in
          let step : tally tag (children n (rest p.cap s p.at.0)) ≡ once (eqb d.here.rec.level n && eqb d.here.rec.tag tag) + tally tag (children n left) =
          ap (λ (rs : List Rec). tally tag (children n rs)) (walk-next d.here) ∙ tally-next tag n d.here.rec left (omega (arith, d.here.level_is)) in
          record {
            stream-is = d.stream-is;
            small = omega (arith, k.small, d.at-is, d.here.next-is, d.here.size_low, once_small b);
            left = rw (d.at-is, d.cap-is) (omega (arith, k.left, step, ap once same));
          }

      -- a child with the tag, or not
      pub counting_one : n ≤ r.level → r.level ≡ n → r.tag ≡ tag → Counting s from n tag q (met + 1)
      unfolding once
      counting_one h l e = counting_on h true (simp (eq-eqb r.level n l, eq-eqb r.tag tag e))

      pub counting_other : n ≤ r.level → (r.level ≡ n × (r.tag ≡ tag → ⊥)) ⊎ (r.level ≡ n → ⊥) → Counting s from n tag q met
      unfolding once
      counting_other l (inl e) = rw add-zero at (counting_on l false (simp (eq-eqb r.level n e.0, ne_eqb r.tag tag e.1)))
      counting_other l (inr e) = rw add-zero at (counting_on l false (simp (ne_eqb r.level n e)))
