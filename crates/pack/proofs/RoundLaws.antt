-- The rows of a table that read wrote, and the records that rows point to. Assumes nothing.
use Prim.Native.Nat.{ℕ, zero, suc, ◌+◌, ◌≤◌}
use native.Mathlib.Omega.{arith}
use mathlib.Core.Path.{◌≡◌, refl, sym, ap, ap₂, ◌∙◌}
use mathlib.Core.List.{List, [], ◌∷◌, ◌++◌, map, append_assoc}
use lib.ListN.{length, get_or, take, drop, length-append, length-drop}
use lib.Seq.{take_at, drop_at, drop-drop, take-append_seam}
use Rattle.records.specs.Records.{Rec, limit, lead_of, header_of, encode_one, encode, size, Lawful}
use Rattle.records.specs.Table.{tag_of, level_of, length_of, places_from, written, Lists, tabled}
use Rattle.records.proofs.HeaderLaws.{length_part}
use Rattle.records.proofs.ReadingLaws.{length-header_of, length-encode_one, size_least}
use Rattle.records.proofs.ScanLaws.{length-encode}
use Rattle.pack.specs.declared.table.Row.{Row}
use Rattle.pack.specs.Rows.{record_of, row_of, rows, rows_in, pointed, records, Inside}
use Rattle.pack.specs.Packing.{SoundRows}
use Rattle.pack.proofs.RowLaws.{one_more}

-- ---- the rows of a table that read wrote

-- the rows of records of which the first header stands at `at`
unfoldable pub rows_of : ℕ → List Rec → List Row
rows_of at [] = []
rows_of at (r ∷ rs) = row_of r.tag r.level (at + lead_of (length r.body)) (length r.body) ∷ rows_of (at + size r) rs

table_rows : (at : ℕ) (rs : List Rec) (t l p q : List ℕ)
    → rows (length rs) (map tag_of rs ++ t) (map level_of rs ++ l) (places_from at rs ++ p) (map length_of rs ++ q) ≡ rows_of at rs
unfolding rows rows_of places_from
table_rows at [] t l p q = refl
table_rows at (r ∷ rs) t l p q =
    ap (λ (x : List Row). row_of r.tag r.level (at + lead_of (length r.body)) (length r.body) ∷ x) (table_rows (at + size r) rs t l p q)

pub table_of : (n : ℕ) (rs : List Rec) (k₀ k : Lists) → n ≡ length rs → k ≡ tabled rs k₀ → rows_in n k ≡ rows_of 0 rs
table_of n rs k₀ k e w =
    ap₂ rows_in e w ∙ table_rows 0 rs _ _ _ _

pub longer : (vs x x' : List ℕ) → x' ≡ written vs x → length vs ≤ length x'
longer vs x x' e = omega (arith, ap length e, length-append vs (drop (length vs) x))

-- ---- over the stream, the rows point to the records

module _ (s : List ℕ) where
  -- behind a record that stands at `at` stand the others
  behind : (at : ℕ) (r : Rec) (rs : List Rec) → drop at s ≡ encode (r ∷ rs) → drop (at + size r) s ≡ encode rs
  unfolding encode
  behind at r rs e = sym (drop-drop (size r) at s) ∙ ap (drop (size r)) e ∙ drop_at (encode_one r) (encode rs) (size r) (length-encode_one r)

  body_at_lem : (at : ℕ) (r : Rec) (rs : List Rec) → drop at s ≡ encode (r ∷ rs)
      → take (length r.body) (drop (at + lead_of (length r.body)) s) ≡ r.body
  unfolding encode encode_one
  body_at_lem at r rs e =
      let n = length r.body in
      let h = header_of r.tag r.level n in
      let there : drop (at + lead_of n) s ≡ r.body ++ encode rs
      = sym (drop-drop (lead_of n) at s)
      ∙ ap (drop (lead_of n)) (e ∙ append_assoc h r.body (encode rs))
      ∙ drop_at h (r.body ++ encode rs) (lead_of n) (length-header_of r.tag r.level n) in
      ap (take n) there ∙ take-append_seam r.body (encode rs)

  pub point_back : (at : ℕ) (rs : List Rec) → drop at s ≡ encode rs → records s (rows_of at rs) ≡ rs
  unfolding rows_of
  point_back at [] e = refl
  point_back at (r ∷ rs) e =
      ap₂ (λ (b : List ℕ) (x : List Rec). record_of r.tag r.level b ∷ x) (body_at_lem at r rs e) (point_back (at + size r) rs (behind at r rs e))

  pub sound_back : (at cap : ℕ) (rs : List Rec) → drop at s ≡ encode rs → Lawful cap rs → SoundRows cap (length s) (rows_of at rs)
  unfolding rows_of size
  sound_back at cap [] e o = tt
  sound_back at cap (r ∷ rs) e o = (
    record {
      tag_low = o.0.tag_low;
      tag_high = omega (arith, o.0.tag_high);
      level_cap = o.0.level_cap;
      level_high = omega (arith, o.0.level_high);
      inside = omega (arith, length-drop at s, ap length e, length-encode r rs, size_least r);
    },
    sound_back (at + size r) (r.level + 1) rs (behind at r rs e) o.1,
  )

-- ---- what was packed

-- what was packed, column by column (the levels: packed_levels)
pub packed_columns : (bytes : List ℕ) (n : ℕ) (t l p q : List ℕ) → n ≤ length t → n ≤ length q → Inside (length bytes) (rows n t l p q)
    → (map tag_of (records bytes (rows n t l p q)) ≡ take n t) × (map length_of (records bytes (rows n t l p q)) ≡ take n q)
unfolding rows
packed_columns bytes zero t l p q ht hq i = (refl, refl)
packed_columns bytes (suc n) t l p q ht hq i =
    let k = packed_columns bytes n (drop 1 t) (drop 1 l) (drop 1 p) (drop 1 q) (omega (arith, length-drop 1 t)) (omega (arith, length-drop 1 q)) i.1 in (
      ap (λ (x : List ℕ). get_or t 0 0 ∷ x) k.0 ∙ one_more n t ht,
      ap₂ (λ (m : ℕ) (x : List ℕ). m ∷ x) (length_part bytes (get_or p 0 0) (get_or q 0 0) i.0) k.1 ∙ one_more n q hq,
    )

-- the records of sound rows keep the tag and level rules
pub lawful_packed : (bytes : List ℕ) (cap : ℕ) (rs : List Row) → SoundRows cap (length bytes) rs → length (encode (records bytes rs)) ≤ limit → Lawful cap (records bytes rs)
unfolding size
lawful_packed bytes cap [] s h = tt
lawful_packed bytes cap (r ∷ rs) s h =
    let e = length-encode (pointed bytes r) (records bytes rs) in (
      record {
        tag_low = s.0.tag_low;
        tag_high = omega (arith, s.0.tag_high);
        level_cap = s.0.level_cap;
        level_high = omega (arith, s.0.level_high);
        body_fits = omega arith;
      },
      lawful_packed bytes (r.level + 1) rs s.1 (omega arith),
    )

-- the column that read wrote, where the list began with n entries
pub column : (vs x x' : List ℕ) (n : ℕ) → length vs ≡ n → x' ≡ written vs x → take n x' ≡ vs
column vs x x' n e w = ap (take n) w ∙ take_at vs (drop (length vs) x) n e
