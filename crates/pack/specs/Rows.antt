-- The rows of a table, and the records that they point to (document 01, 'Pack takes a record count, four such lists and the bytes they point into'; document
-- 02, A6, adds the list of parents).
use Rattle.std.specs.Prelude.{ℕ, zero, suc, ◌+◌, ◌≤◌, List, [], ◌∷◌, map, get_or, take, drop}
use Rattle.records.specs.Records.{Rec}
use Rattle.records.specs.Table.{Lists, lists}
use Rattle.pack.specs.declared.table.Row.{Row}
use Rattle.pack.specs.declared.table.Table.{Table}

-- a record by its parts
abbrev pub record_of : ℕ → ℕ → List ℕ → Rec
record_of tag level body = record { tag = tag; level = level; body = body }

-- the five lists of a table
abbrev pub lists_of : Table → Lists
lists_of t = lists t.tags.now t.levels.now t.places.now t.lengths.now t.parents.now

abbrev pub row_of : ℕ → ℕ → ℕ → ℕ → Row
row_of tag level place len = record { tag = tag; level = level; place = place; len = len }

-- the row at an index
abbrev pub row_at : Lists → ℕ → Row
row_at k i = row_of (get_or k.tags i 0) (get_or k.levels i 0) (get_or k.places i 0) (get_or k.lengths i 0)

-- the first n rows of four lists
unfoldable pub rows : ℕ → List ℕ → List ℕ → List ℕ → List ℕ → List Row
rows zero t l p q = []
rows (suc n) t l p q =
    row_of (get_or t 0 0) (get_or l 0 0) (get_or p 0 0) (get_or q 0 0) ∷ rows n (drop 1 t) (drop 1 l) (drop 1 p) (drop 1 q)

-- the first n rows of a table; its parents stand beside them
abbrev pub rows_in : ℕ → Lists → List Row
rows_in n k = rows n k.tags k.levels k.places k.lengths

-- the record that a row points to: its body is the lent bytes from its place on
abbrev pub pointed : List ℕ → Row → Rec
pointed bytes r = record_of r.tag r.level (take r.len (drop r.place bytes))

abbrev pub records : List ℕ → List Row → List Rec
records bytes rs = map (pointed bytes) rs

-- every body lies in the lent bytes
abbrev pub Inside : ℕ → List Row → Type 0
Inside lent [] = Unit {0}
Inside lent (r ∷ rs) = (r.place + r.len ≤ lent) × Inside lent rs
