-- The character shapes of a paragraph, and where they start after a fill (document 01, 'Filling a field').
use Rattle.std.specs.Prelude.{ℕ, ◌+◌, ◌-◌, ◌/◌, Bool, false, cond, ◌&&◌, ◌||◌, List, [], ◌∷◌, ◌++◌, map, ltb, leb, length, drop}
use Rattle.entries.specs.Entries.{entries}
use Rattle.numbers.specs.Little.{little, bytes_of}

-- one entry of a shapes record: the position where it starts, and the shape
pub record Entry : Type 0 where
  pub start : ℕ
  pub shape : ℕ

unfoldable pub entry_at : List ℕ → Entry
entry_at s = record { start = little 4 s; shape = little 4 (drop 4 s) }

-- the entries of a shapes record, 8 bytes each
unfoldable pub shapes_in : List ℕ → List Entry
shapes_in body = map entry_at (entries 8 (length body / 8) body)

-- the bytes of entries
unfoldable pub packed : List Entry → List ℕ
packed [] = []
packed (e ∷ es) = bytes_of 4 e.start ++ (bytes_of 4 e.shape ++ packed es)

unfoldable pub start_at : ℕ → Entry → Entry
start_at p e = record { start = p; shape = e.shape }

-- a start from a to b inclusive
unfoldable pub inside : ℕ → ℕ → ℕ → Bool
inside a b s = leb a s && leb s b

unfoldable pub any_inside : ℕ → ℕ → List Entry → Bool
any_inside a b [] = false
any_inside a b (e ∷ es) = inside a b e.start || any_inside a b es

-- where a start goes that is kept: below a it stays, from a to b inclusive it goes to a + v, above b it moves by the change in count
unfoldable pub moved : ℕ → ℕ → ℕ → ℕ → ℕ
moved a b v s = cond (ltb s a) s (cond (ltb b s) (s + v - (b - a)) (a + v))

-- the entries after a fill: of those from a to b inclusive only the last is kept
unfoldable pub shapes_after : ℕ → ℕ → ℕ → List Entry → List Entry
shapes_after a b v [] = []
shapes_after a b v (e ∷ es) =
    cond (inside a b e.start && any_inside a b es) (shapes_after a b v es)
    (start_at (moved a b v e.start) e ∷ shapes_after a b v es)
