-- The reader's statement (document 01, demand 2): pack accepts, and with which length, exactly when the lists are long enough, each row
-- is sound, the parents are those of the records, and the stream of these is within the limit and the buffer. Assumes nothing.
use Rattle.std.specs.Prelude.{Err, Ok}
use Prim.Native.Nat.{ℕ, ◌+◌, ◌≤◌}
use native.Mathlib.Omega.{arith}
use native.Mathlib.Decide.{dec_le}
use native.Mathlib.Nat.{lt_of_not-le}
use mathlib.Core.Path.{◌≡◌, refl, sym, ap, ap₂, ◌∙◌}
use mathlib.Core.List.{List, [], ◌∷◌}
use lib.Dec.{eqb, eqb→eq}
use lib.ListN.{length, get_or, take, drop, length-map, length-drop}
use lib.Seq.{take_all}
use borrow.Author.Tests.{eq-eqb}
use Rattle.records.specs.declared.fault.Fault.{Fault}
use Rattle.records.specs.declared.fault.Fault.TheVariants as F
use Rattle.records.specs.Records.{limit, encode}
use Rattle.records.specs.Table.{parents_from, Lists, room_in}
use Rattle.records.proofs.ClimbLaws.{length-parents_from}
use Rattle.pack.specs.declared.table.Row.{Row}
use Rattle.pack.specs.Rows.{rows_in, pointed, records, Inside}
use Rattle.pack.specs.Packing.{verdict, row_by_row, closing, rows_answer, pack_answer, SoundRows, Accepts, Packed, Verdict, row_refusal}
use Rattle.pack.specs.declared.judge.Index.{Index}
use Rattle.pack.proofs.RowLaws.{length-rows, one_more, sound, sound_verdict, row_next, row_stop, row_end, closing_over, closing-short, closing-fits}
use Rattle.pack.proofs.JudgeLaws.{lists-short, lists-long}

apart : (f : Fault) (i : Index) (n : ℕ) → Err (row_refusal f i) ≡ Ok n → ⊥
apart f i n e = let z : ◌≡◌ {A = ℕ} 0 1 = cc in omega arith

-- ---- rows that passed

-- the rows are sound and the parents that are given are those that the records have
abbrev Passed : ℕ → ℕ → List Row → List ℕ → List ℕ → Type 0
Passed cap lent rs given has = SoundRows cap lent rs × (take (length rs) given ≡ take (length rs) has)

pub passed_rows : (lent i cap : ℕ) (rs : List Row) (given has : List ℕ) → length rs ≤ length given → length rs ≤ length has → (after : Packed) (n : ℕ)
    → row_by_row lent i cap rs given has after ≡ Ok n → Passed cap lent rs given has × (after ≡ Ok n)
passed_rows lent i cap [] given has a b after n e = ((tt, refl), sym (row_end lent i cap given has after) ∙ e)
passed_rows lent i cap (r ∷ rs) given has a b after n e =
    go (verdict cap (eqb (get_or given 0 0) (get_or has 0 0)) lent r) refl
    (λ d. passed_rows lent (i + 1) (r.level + 1) rs (drop 1 given) (drop 1 has) (omega (arith, length-drop 1 given)) (omega (arith, length-drop 1 has)) after n d)
  where
    go : (v : Verdict) → verdict cap (eqb (get_or given 0 0) (get_or has 0 0)) lent r ≡ v
        → (row_by_row lent (i + 1) (r.level + 1) rs (drop 1 given) (drop 1 has) after ≡ Ok n
        → Passed (r.level + 1) lent rs (drop 1 given) (drop 1 has) × (after ≡ Ok n)) → Passed cap lent (r ∷ rs) given has × (after ≡ Ok n)
    go (Err f) q ih = absurd (apart f (record { 0 = i }) n (sym (row_stop lent i cap r rs given has after f q) ∙ e))
    go (Ok tt) q ih =
        let x = ih (sym (row_next lent i cap r rs given has after q) ∙ e) in
        let s = sound cap (eqb (get_or given 0 0) (get_or has 0 0)) lent r q in (
          (
            (s.0, x.0.0),
            sym (one_more (length rs) given a)
                ∙ ap₂ (λ (m : ℕ) (l : List ℕ). m ∷ l) (eqb→eq (get_or given 0 0) (get_or has 0 0) s.1) x.0.1
                ∙ one_more (length rs) has b,
          ),
          x.1,
        )

pub sound_passes : (lent i cap : ℕ) (rs : List Row) (given has : List ℕ) → length rs ≤ length given → length rs ≤ length has → (after : Packed)
    → Passed cap lent rs given has → row_by_row lent i cap rs given has after ≡ after
sound_passes lent i cap [] given has a b after s = row_end lent i cap given has after
sound_passes lent i cap (r ∷ rs) given has a b after s =
    let e : get_or given 0 0 ∷ take (length rs) (drop 1 given) ≡ get_or has 0 0 ∷ take (length rs) (drop 1 has)
    = one_more (length rs) given a ∙ s.1 ∙ sym (one_more (length rs) has b) in
    let same : get_or given 0 0 ≡ get_or has 0 0 = cc in
    let others : take (length rs) (drop 1 given) ≡ take (length rs) (drop 1 has) = cc in
    row_next lent i cap r rs given has after (sound_verdict cap _ lent r s.0.0 (eq-eqb _ _ same))
    ∙ sound_passes lent (i + 1) (r.level + 1) rs (drop 1 given) (drop 1 has) (omega (arith, length-drop 1 given)) (omega (arith, length-drop 1 has)) after
    (s.0.1, others)

pub sound_inside : (cap lent : ℕ) (rs : List Row) → SoundRows cap lent rs → Inside lent rs
sound_inside cap lent [] s = tt
sound_inside cap lent (r ∷ rs) s = (s.0.inside, sound_inside (r.level + 1) lent rs s.1)

closed : (room m n : ℕ) → closing room m ≡ Ok n → (m ≤ limit) × (m ≤ room) × (n ≡ m)
closed room m n e =
    elim (dec_le m limit) [
      | no g ↦ absurd (apart F.StreamTooLong (record { 0 = 0 }) n (sym (closing_over room m (lt_of_not-le g)) ∙ e))
      | yes h ↦
          elim (dec_le m room) [
            | no g ↦ absurd (apart F.BufferTooShort (record { 0 = 0 }) n (sym (closing-short room m h (lt_of_not-le g)) ∙ e))
            | yes k ↦ let d : Ok n ≡ Ok m = sym e ∙ closing-fits room m h k in (h, k, cc)
          ]
    ]

-- ---- pack accepts exactly when document 01 says so

module _ (count : ℕ) (k : Lists) (bytes : List ℕ) (room n : ℕ) where
  abbrev rs : List Row
  rs = rows_in count k

  abbrev has : List ℕ
  has = parents_from [] (records bytes rs)

  rows_many : length rs ≡ count
  rows_many = length-rows count k.tags k.levels k.places k.lengths

  has_many : length has ≡ length rs
  has_many = length-parents_from [] (records bytes rs) ∙ length-map rs (pointed bytes)

  -- as many parents as there are records
  has_all : take (length rs) has ≡ has
  has_all = take_all (length rs) has (omega (arith, has_many))

  pub accepted : pack_answer count k bytes room ≡ Ok n → Accepts count k bytes room n
  unfolding rows_answer
  accepted e =
      elim (dec_le count (room_in k)) [
        | no g ↦ absurd (apart F.ListTooShort (record { 0 = 0 }) n (sym (lists-short count k bytes room (lt_of_not-le g)) ∙ e))
        | yes h ↦
            let x
            = passed_rows (length bytes) 0 0 rs k.parents has (omega (arith, rows_many)) (omega (arith, has_many)) (closing room (length (encode (records bytes rs)))) n
            (sym (lists-long count k bytes room h) ∙ e) in
            let y = closed room (length (encode (records bytes rs))) n x.1 in
            record {
              listed = h;
              sound = x.0.0;
              parents_are = ap (λ (m : ℕ). take m k.parents) (sym rows_many) ∙ x.0.1 ∙ has_all;
              length-is = y.2;
              limited = omega arith;
              roomy = omega arith;
            }
      ]

  pub accepts : Accepts count k bytes room n → pack_answer count k bytes room ≡ Ok n
  unfolding rows_answer
  accepts a =
      let m = length (encode (records bytes rs)) in
      let e = a.length-is in
      lists-long count k bytes room a.listed
      ∙ sound_passes (length bytes) 0 0 rs k.parents has (omega (arith, rows_many, a.listed)) (omega (arith, has_many)) (closing room m)
      (a.sound, ap (λ (m : ℕ). take m k.parents) rows_many ∙ a.parents_are ∙ sym has_all)
      ∙ closing-fits room m (omega (arith, a.limited)) (omega (arith, a.roomy))
      ∙ ap Ok (sym e)
