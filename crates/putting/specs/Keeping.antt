-- The character shapes after a fill, entry by entry (document 01, 'Filling a field').
use Rattle.std.specs.Prelude.{ℕ, ◌-◌, ◌*◌, ◌/◌, cond, ◌&&◌, List, [], ◌∷◌, map, length, drop}
use Rattle.entries.specs.Entries.{entries}
use Rattle.filling.specs.Shapes.{Entry, entry_at, inside, any_inside, start_at, moved}

-- the entries of a shapes record from number i on
abbrev pub shapes_from : List ℕ → ℕ → List Entry
shapes_from body i = map entry_at (entries 8 (length body / 8 - i) (drop (8 * i) body))

-- what is left of an entry before es: nothing where it starts inside and a later one does too
unfoldable pub kept : ℕ → ℕ → ℕ → Entry → List Entry → List Entry
kept a b v e es = cond (inside a b e.start && any_inside a b es) [] (start_at (moved a b v e.start) e ∷ [])
