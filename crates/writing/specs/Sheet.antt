-- The sheet by the bytes of the stream: what it writes in order (document 01, 'Filling a field').
use Rattle.std.specs.Prelude.{ℕ, suc, ◌+◌, true, cond, List, [], ◌∷◌, ◌++◌, ltb, length, take, drop}
use Rattle.records.specs.Records.{Rec, encode_one, size}
use Rattle.paragraph.specs.View.{view, side}
use Rattle.paragraph.specs.Stream.{records_in}
use Rattle.paragraph.specs.declared.view.Side.TheVariants as S
use Rattle.filling.specs.Fields.{Field}
use Rattle.filling.specs.Editing.{with_body, count_control}
use Rattle.filling.specs.Filling.{filling}
use Rattle.changing.specs.Child.{field_at, record_of, child_bytes}
use Rattle.changing.specs.declared.fill.Fill.{Fill}
use Rattle.changing.specs.declared.fill.Piece.{Piece}
use Rattle.writing.specs.declared.behind.Children.{Children}

-- a plain field by its numbers
abbrev pub field_of : ℕ → ℕ → ℕ → Field
field_of ordinal a b = record { ordinal = ordinal; a = a; b = b; plain = true }

-- what becomes of a record below a paragraph header whose children are at level n
unfoldable pub below_bytes : Field → List ℕ → ℕ → ℕ → Rec → List ℕ
below_bytes f value n j r =
    elim (side n r.tag r.level) [ S.Beyond ↦ encode_one r | S.Owned ↦ child_bytes f value j r | S.Passed ↦ encode_one r ]

abbrev pub below_put : Fill → Children → Piece → List ℕ
below_put fill c p = below_bytes (field_at fill.spot) fill.value.bytes.now c.n c.nth (record_of p)

-- how many control headers stand before the record behind it
unfoldable pub controls_passed : ℕ → ℕ → ℕ → ℕ → ℕ
controls_passed n j tag level = elim (side n tag level) [ S.Beyond ↦ j | S.Owned ↦ count_control tag j | S.Passed ↦ j ]

-- the bytes from `at` on, where the records rs stand; what stands behind the last descendant is copied
unfoldable pub behind_bytes : Field → List ℕ → ℕ → ℕ → List ℕ → ℕ → List Rec → List ℕ
behind_bytes f value n j s at [] = drop at s
behind_bytes f value n j s at (r ∷ rs) =
    cond (ltb r.level n) (drop at s)
    (below_bytes f value n j r ++ behind_bytes f value n (controls_passed n j r.tag r.level) s (at + size r) rs)

abbrev pub behind_put : Fill → ℕ → List ℕ → ℕ → List ℕ
behind_put fill n s from = behind_bytes (field_at fill.spot) fill.value.bytes.now n 0 s from (records_in (drop from s))

-- the bytes from the paragraph header on, which stands at `header` before rs; a header that is too short is copied with all behind it
unfoldable pub paragraph_bytes : Field → List ℕ → List ℕ → ℕ → List Rec → List ℕ
paragraph_bytes f value s header [] = drop header s
paragraph_bytes f value s header (r ∷ rs) =
    cond (ltb (length r.body) 22) (drop header s)
    (encode_one (with_body ((filling f value).head (view r rs)) r) ++ behind_bytes f value (suc r.level) 0 s (header + size r) rs)

unfoldable pub sheet_bytes : Field → List ℕ → List ℕ → ℕ → List ℕ
sheet_bytes f value s header = take header s ++ paragraph_bytes f value s header (records_in (drop header s))

abbrev pub sheet_put : Fill → List ℕ → ℕ → List ℕ
sheet_put fill s header = sheet_bytes (field_at fill.spot) fill.value.bytes.now s header

-- the sheet of a stream and a value whose lengths have 32 bits; of longer ones there is none
unfoldable pub sheet_written : Field → List ℕ → List ℕ → ℕ → List ℕ
sheet_written f value s header =
    cond (ltb 4294967295 (length s)) [] (cond (ltb 4294967295 (length value)) [] (sheet_bytes f value s header))
