-- The entries of character shapes and of marks (document 01, 'Paragraphs').
use Rattle.std.specs.Prelude.{ℕ, zero, suc, ◌+◌, ◌/◌, max, cond, ◌&&◌, List, [], ◌∷◌, map, ltb, leb, eqb, length, drop, None, Option, Some}
use Rattle.numbers.specs.Little.{little}

-- the first n entries of a body, w bytes each: the bytes from each entry on
unfoldable pub entries : ℕ → ℕ → List ℕ → List (List ℕ)
entries w zero b = []
entries w (suc n) b = b ∷ entries w n (drop w b)

-- the index of the first start at fault of those behind the start `before`, the next of which has index i: 'starts strictly rise', and
-- each is below the bound
unfoldable pub later_fault : ℕ → ℕ → ℕ → List ℕ → Option ℕ
later_fault i before bound [] = None
later_fault i before bound (s ∷ ss) = cond (ltb before s && ltb s bound) (later_fault (i + 1) s bound ss) (Some i)

-- the index of the first at fault of all starts: 'The first start is 0'
unfoldable pub start_fault : ℕ → List ℕ → Option ℕ
start_fault bound [] = None
start_fault bound (s ∷ ss) = cond (eqb s 0) (later_fault 1 s bound ss) (Some 0)

-- that of a body, '8 bytes each (start, shape)': 'each start is below the count (below 1 when the count is 0)'
unfoldable pub shapes_fault : ℕ → List ℕ → Option ℕ
shapes_fault count b = start_fault (max 1 count) (map (little 4) (entries 8 (length b / 8) b))

-- the index of the first mark at fault: 'start at most end, end at most count'
unfoldable pub mark_fault : ℕ → ℕ → List (List ℕ) → Option ℕ
mark_fault i count [] = None
mark_fault i count (e ∷ es) =
    cond (leb (little 4 e) (little 4 (drop 4 e)) && leb (little 4 (drop 4 e)) count) (mark_fault (i + 1) count es) (Some i)

-- that of a body, '12 bytes each'
unfoldable pub marks_fault : ℕ → List ℕ → Option ℕ
marks_fault count b = mark_fault 0 count (entries 12 (length b / 12) b)
