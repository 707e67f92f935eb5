-- Laying the records of a table one behind the other: what is left to lay behind those that were laid. Assumes nothing.
use Prim.Native.Nat.{ℕ, ◌+◌, ◌-◌, ◌≤◌, ◌<◌}
use native.Mathlib.Omega.{arith}
use native.Mathlib.Nat.{zero-add}
use mathlib.Core.Path.{◌≡◌, sym, ap, ◌∙◌}
use mathlib.Core.List.{List, ◌∷◌, ◌++◌}
use lib.ListN.{length, take, drop}
use lib.Seq.{sets, sets-eq, length-sets}
use Rattle.numbers.specs.Little.{laid}
use Rattle.records.specs.Records.{Rec, encode, encode_one, size}
use Rattle.records.specs.Table.{written}
use Rattle.records.proofs.ReadingLaws.{length-encode_one}
use Rattle.records.proofs.ScanLaws.{length-encode}
use Rattle.pack.specs.declared.table.Row.{Row}
use Rattle.pack.specs.declared.table.Table.{Table}
use Rattle.pack.specs.Rows.{lists_of, record_of, row_at, pointed, records, Inside}
use Rattle.pack.proofs.PutLaws.{sets_append, laid_at}
use Rattle.pack.proofs.RowLaws.{from_next, from_end}
use Rattle.pack.proofs.JudgeLaws.{rows_from, all}

-- where the second pass stands at its loop's head
pub record Laying (t : Table) (out₀ : List ℕ) (out : List ℕ) (i at : ℕ) : Type 0 where
  pub inside : Inside (length t.bytes.now) (rows_from t i)
  pub fits : at + length (encode (records t.bytes.now (rows_from t i))) ≤ length out
  pub long : length out ≡ length out₀
  pub rest : sets out₀ 0 (encode (records t.bytes.now (all t))) ≡ sets out at (encode (records t.bytes.now (rows_from t i)))

module _ (t : Table) (out₀ : List ℕ) where
  abbrev left : ℕ → List Rec
  left i = records t.bytes.now (rows_from t i)

  module _ {out : List ℕ} {i at : ℕ} (k : Laying t out₀ out i at) (h : i < t.count) {r : Row} (r-is : r ≡ row_at (lists_of t) i) where
    abbrev one : Rec
    one = pointed t.bytes.now r

    next_rows : rows_from t i ≡ r ∷ rows_from t (i + 1)
    next_rows = from_next t.count t.tags.now t.levels.now t.places.now t.lengths.now i h ∙ ap (λ (x : Row). x ∷ rows_from t (i + 1)) (sym r-is)

    more : length (encode (left i)) ≡ size one + length (encode (left (i + 1)))
    more = ap (λ (rs : List Row). length (encode (records t.bytes.now rs))) next_rows ∙ length-encode one (left (i + 1))

    row_inside : Inside (length t.bytes.now) (r ∷ rows_from t (i + 1))
    row_inside = rw next_rows at k.inside

    pub body_inside : r.place + r.len ≤ length t.bytes.now
    body_inside = row_inside.0

    -- the record that is put, as its body was read
    module _ (body : List ℕ) (body_is : body ≡ take r.len (drop r.place t.bytes.now)) where
      same_size : size (record_of r.tag r.level body) ≡ size one
      same_size = ap (λ (b : List ℕ). size (record_of r.tag r.level b)) body_is

      pub laying_room : {taken : ℕ} → taken ≡ size (record_of r.tag r.level body) → at + taken ≤ length out
      laying_room e = omega (arith, k.fits, more, same_size)

      pub laying_next : {taken : ℕ} {part : List ℕ} → taken ≡ size (record_of r.tag r.level body)
          → part ≡ laid (encode_one (record_of r.tag r.level body)) (take (length out - at) (drop at out))
          → Laying t out₀ (take at out ++ (part ++ drop (length out - at) (drop at out))) (i + 1) (at + taken)
      unfolding encode
      laying_next {taken} {part} e f =
          let bs = encode_one one in
          let size_is = length-encode_one one in
          let put : take at out ++ (part ++ drop (length out - at) (drop at out)) ≡ sets out at bs
          = laid_at out part bs at (omega (arith, k.fits, more)) (rw body_is at f) in
          let same = ap length put ∙ length-sets out at bs in
          record {
            inside = row_inside.1;
            fits = omega (arith, k.fits, more, same_size);
            long = same ∙ k.long;
            rest =
                k.rest
                ∙ ap (λ (rs : List Row). sets out at (encode (records t.bytes.now rs))) next_rows
                ∙ sets_append out at (at + taken) bs (encode (left (i + 1))) (omega (arith, same_size))
                ∙ ap (λ (l : List ℕ). sets l (at + taken) (encode (left (i + 1)))) (sym put);
          }

  pub laying_end : {out : List ℕ} {i at : ℕ} → Laying t out₀ out i at → t.count ≤ i → length (encode (records t.bytes.now (all t))) ≤ length out₀
      → out ≡ written (encode (records t.bytes.now (all t))) out₀
  unfolding encode
  laying_end {out} {i} {at} k h fits =
      sym (k.rest ∙ ap (λ (rs : List Row). sets out at (encode (records t.bytes.now rs))) (from_end t.count t.tags.now t.levels.now t.places.now t.lengths.now i h))
      ∙ sets-eq (encode (records t.bytes.now (all t))) out₀ 0 (omega arith)
      ∙ simp zero-add
