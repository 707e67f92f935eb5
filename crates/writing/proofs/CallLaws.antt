-- For the calls over `measure` and `write`: what is written is the sheet. Assumes nothing.
use Prim.Native.Nat.{ℕ, ◌≤◌}
use mathlib.Core.Path.{◌≡◌, sym, ◌∙◌}
use mathlib.Core.List.{List, ◌∷◌}
use lib.ListN.{length, drop}
use Rattle.numbers.specs.Little.{Bytes}
use Rattle.records.specs.Records.{Rec, encode}
use Rattle.paragraph.specs.Stream.{records_in}
use Rattle.filling.specs.Filling.{sheet}
use Rattle.filling.specs.Search.{Hit, hits}
use Rattle.writing.specs.Sheet.{field_of, sheet_written}
use Rattle.writing.proofs.SheetLaws.{sheet_of_lem}
use Rattle.writing.proofs.WholeLaws.{sheet-is}

-- the sheet of a hit, as `measure` and `write` name it
pub sheet_of_is : (s : List ℕ) → Bytes s → encode (records_in s) ≡ s → length s ≤ 4294967295 → (id : ℕ) (h : Hit) (hs : List Hit)
    → hits id 0 0 (records_in s) ≡ h ∷ hs → (value : List ℕ) → length value ≤ 4294967295
    → ((r : Rec) (rs : List Rec) → records_in (drop h.header s) ≡ r ∷ rs → 22 ≤ length r.body)
    → sheet_written (field_of h.field.ordinal h.field.a h.field.b) value s h.header ≡ sheet h value (records_in s)
sheet_of_is s bs w n id h hs q value m long =
    sym (sheet_of_lem (field_of h.field.ordinal h.field.a h.field.b) value s h.header n m) ∙ sheet-is s bs w id h hs q value long
