-- Judging a table: what is left to judge behind the rows that passed. Assumes nothing.
use Rattle.std.specs.Prelude.{Err, Ok}
use Prim.Native.Nat.{ℕ, suc, ◌+◌, ◌≤◌, ◌<◌, min}
use native.Mathlib.Omega.{arith}
use native.Mathlib.Nat.{zero-add, add-zero, sub-zero}
use native.Mathlib.Numerals.{add-one}
use mathlib.Core.Path.{◌≡◌, refl, sym, ap, ap₂, ◌∙◌}
use mathlib.Core.Bool.{Bool, true, false}
use mathlib.Core.List.{List, [], ◌∷◌}
use lib.Dec.{T, ltb, eqb, eqb→eq}
use lib.ListN.{length, get_or, take, drop, length-map}
use lib.Seq.{get_or-drop, drop-drop, drop-cons}
use borrow.Author.Tests.{lt-ltb, le-ltb, eqb-true, eqb-false}
use Rattle.records.specs.declared.fault.Fault.{Fault}
use Rattle.records.specs.declared.fault.Fault.TheVariants as F
use Rattle.records.specs.Records.{lead_of, encode}
use Rattle.records.specs.Table.{parents_from, Lists, room_in}
use Rattle.records.specs.Climbing.{agreeing, RightParents}
use Rattle.records.proofs.ScanLaws.{length-encode}
use Rattle.records.proofs.ClimbLaws.{length-parents_from, agreeing-same, agreeing_apart}
use Rattle.pack.specs.declared.table.Row.{Row}
use Rattle.pack.specs.declared.table.Table.{Table}
use Rattle.pack.specs.Rows.{lists_of, row_at, rows_in, pointed, records}
use Rattle.pack.specs.Packing.{refused_at, verdict, row_by_row, closing, rows_answer, pack_answer, Packed, Verdict}
use Rattle.pack.proofs.RowLaws.{length-rows, packed_levels, from, from_next, from_end, sound, row_next, row_stop, row_end, closing_capped, size-pointed}

first_of_lem : (i : ℕ) (x : List ℕ) → get_or (drop i x) 0 0 ≡ get_or x i 0
first_of_lem i x = simp (get_or-drop, add-zero)

-- the rows of a table from an index on, and the parents that the records of all have
module _ (t : Table) where
  abbrev pub rows_from : ℕ → List Row
  rows_from i = from t.count t.tags.now t.levels.now t.places.now t.lengths.now i

  abbrev pub all : List Row
  all = rows_in t.count (lists_of t)

  abbrev pub has : List ℕ
  has = parents_from [] (records t.bytes.now all)

-- where the first pass stands at its loop's head: the rows from i on, with the total so far, answer for all; and of the parents from there on
-- as many are right as `right` is beyond i
pub record Judging (t : Table) (right i cap total : ℕ) : Type 0 where
  pub capped : total ≤ 16777217
  pub rest : (after : Packed)
      → row_by_row (length t.bytes.now) 0 0 (all t) t.parents.now (has t) after
      ≡ row_by_row (length t.bytes.now) i cap (rows_from t i) (drop i t.parents.now) (drop i (has t)) after
  pub sum : min 16777217 (length (encode (records t.bytes.now (all t)))) ≡ min 16777217 (total + length (encode (records t.bytes.now (rows_from t i))))
  pub agreed : right ≡ i + agreeing (drop i (has t)) (drop i t.parents.now)

module _ (t : Table) (right : ℕ) where
  abbrev lent : ℕ
  lent = length t.bytes.now

  abbrev parents : List ℕ
  parents = t.parents.now

  pub judging_start : t.count ≤ room_in (lists_of t) → RightParents (take t.count t.levels.now) parents right → Judging t right 0 0 0
  judging_start h k =
      record {
        capped = omega arith;
        rest = λ after. rw sub-zero;
        sum = rw sub-zero (omega arith);
        agreed =
            k (records t.bytes.now (all t))
            (packed_levels t.bytes.now t.count t.tags.now t.levels.now t.places.now t.lengths.now (omega arith)) ∙ sym (zero-add _);
      }

  -- at a row that was judged
  module _ {i cap total : ℕ} (k : Judging t right i cap total) (h : i < t.count) (listed : t.count ≤ room_in (lists_of t)) {r : Row} (r-is : r ≡ row_at (lists_of t) i)
      {v : Verdict} (judged : v ≡ verdict cap (ltb i right) lent r) where
    abbrev at : Row
    at = row_at (lists_of t) i

    abbrev same : Bool
    same = eqb (get_or (drop i parents) 0 0) (get_or (drop i (has t)) 0 0)

    within : i < length (has t)
    within =
        omega (
          arith,
          length-parents_from [] (records t.bytes.now (all t)),
          length-map (all t) (pointed t.bytes.now),
          length-rows t.count t.tags.now t.levels.now t.places.now t.lengths.now,
        )

    agreed_here : right ≡ i + agreeing (get_or (has t) i 0 ∷ drop (suc i) (has t)) (get_or parents i 0 ∷ drop (suc i) parents)
    agreed_here = k.agreed ∙ ap₂ (λ (x y : List ℕ). i + agreeing x y) (drop-cons (has t) i 0 within) (drop-cons parents i 0 (omega arith))

    -- the next parent is right exactly where there are more right ones than rows that passed
    same-is : same ≡ ltb i right
    same-is = ap₂ eqb (first_of_lem i parents) (first_of_lem i (has t)) ∙ by (eqb (get_or parents i 0) (get_or (has t) i 0)) refl
      where
        by : (b : Bool) → eqb (get_or parents i 0) (get_or (has t) i 0) ≡ b → b ≡ ltb i right
        by true e =
            sym (lt-ltb i right (omega (arith, agreed_here, agreeing-same (get_or (has t) i 0) (get_or parents i 0) (drop (suc i) (has t)) (drop (suc i) parents) (eqb-true (get_or parents i 0) (get_or (has t) i 0) e))))
        by false e =
            sym (le-ltb i right (omega (arith, agreed_here, agreeing_apart (get_or (has t) i 0) (get_or parents i 0) (drop (suc i) (has t)) (drop (suc i) parents) (eqb-false (get_or parents i 0) (get_or (has t) i 0) e))))

    told : {w : Verdict} → v ≡ w → verdict cap same lent at ≡ w
    told e = ap₂ (λ (b : Bool) (x : Row). verdict cap b lent x) same-is (sym r-is) ∙ sym judged ∙ e

    pub judging_level : v ≡ Ok tt → r.level ≤ 1023
    judging_level e = rw r-is (sound cap same lent at (told e)).0.level_high

    -- a right parent leaves one right parent less
    agreed_next : T same → right ≡ i + 1 + agreeing (drop (i + 1) (has t)) (drop (i + 1) parents)
    agreed_next b =
        let e : get_or parents i 0 ≡ get_or (has t) i 0
        = sym (first_of_lem i parents) ∙ eqb→eq (get_or (drop i parents) 0 0) (get_or (drop i (has t)) 0 0) b ∙ first_of_lem i (has t) in
        let one : right ≡ i + suc (agreeing (drop (suc i) (has t)) (drop (suc i) parents))
        = agreed_here ∙ ap (λ (m : ℕ). i + m) (agreeing-same (get_or (has t) i 0) (get_or parents i 0) (drop (suc i) (has t)) (drop (suc i) parents) e) in
        simp add-one (omega arith)

    next_rows : rows_from t i ≡ at ∷ rows_from t (i + 1)
    next_rows = from_next t.count t.tags.now t.levels.now t.places.now t.lengths.now i h

    pub judging_next : {total' : ℕ} → v ≡ Ok tt → total' ≡ min 16777217 (total + (lead_of r.len + r.len))
        → Judging t right (i + 1) (r.level + 1) total'
    judging_next e g =
        let s = sound cap same lent at (told e) in
        let size_is = size-pointed t.bytes.now at s.0.inside in
        let len_is : r.len ≡ at.len = ap (λ (x : Row). x.len) r-is in
        let lead_is : lead_of r.len ≡ lead_of at.len = ap lead_of len_is in
        let more
        : length (encode (records t.bytes.now (rows_from t i))) ≡ lead_of at.len + at.len + length (encode (records t.bytes.now (rows_from t (i + 1))))
        = ap (λ (rs : List Row). length (encode (records t.bytes.now rs))) next_rows
        ∙ length-encode (pointed t.bytes.now at) (records t.bytes.now (rows_from t (i + 1)))
        ∙ ap (λ (m : ℕ). m + length (encode (records t.bytes.now (rows_from t (i + 1))))) size_is in
        record {
          capped = omega arith;
          rest =
              λ after.
              k.rest after
              ∙ ap (λ (rs : List Row). row_by_row lent i cap rs (drop i parents) (drop i (has t)) after) next_rows
              ∙ row_next lent i cap at (rows_from t (i + 1)) (drop i parents) (drop i (has t)) after (told e)
              ∙ rw r-is (simp drop-drop);
          sum = k.sum ∙ omega arith;
          agreed = agreed_next s.1;
        }

    pub judging_stop : (room : ℕ) {f : Fault} → v ≡ Err f → refused_at f i ≡ rows_answer t.bytes.now room (all t) parents
    unfolding rows_answer
    judging_stop room {f} e =
        let after = closing room (length (encode (records t.bytes.now (all t)))) in
        sym
        (k.rest after
        ∙ ap (λ (rs : List Row). row_by_row lent i cap rs (drop i parents) (drop i (has t)) after) next_rows
        ∙ row_stop lent i cap at (rows_from t (i + 1)) (drop i parents) (drop i (has t)) after f (told e))

  pub judging_end : {i cap total : ℕ} → Judging t right i cap total → t.count ≤ i → (room : ℕ)
      → closing room total ≡ rows_answer t.bytes.now room (all t) parents
  unfolding rows_answer encode
  judging_end {i} {cap} {total} k h room =
      let whole = length (encode (records t.bytes.now (all t))) in
      let left_none = from_end t.count t.tags.now t.levels.now t.places.now t.lengths.now i h in
      let none : min 16777217 whole ≡ min 16777217 (total + 0)
      = k.sum ∙ ap (λ (rs : List Row). min 16777217 (total + length (encode (records t.bytes.now rs)))) left_none in
      let e : total ≡ min 16777217 whole = omega (arith, k.capped) in
      ap (closing room) e
      ∙ closing_capped room whole
      ∙ sym
      (k.rest (closing room whole)
      ∙ ap (λ (rs : List Row). row_by_row lent i cap rs (drop i parents) (drop i (has t)) (closing room whole)) left_none
      ∙ row_end lent i cap (drop i parents) (drop i (has t)) (closing room whole))

module _ (count : ℕ) (k : Lists) (bytes : List ℕ) (room : ℕ) where
  pub lists-short : room_in k < count → pack_answer count k bytes room ≡ refused_at F.ListTooShort 0
  unfolding pack_answer
  lists-short h = simp (lt-ltb (room_in k) count h)

  pub lists-long : count ≤ room_in k → pack_answer count k bytes room ≡ rows_answer bytes room (rows_in count k) k.parents
  unfolding pack_answer
  lists-long h = simp (le-ltb (room_in k) count h)
