-- What the climb to a parent works on: lists of levels and parents. Nothing of it has to be believed: what a parent is stands in Parents, what
-- the reads enter in Table, and what pack checks in its own Packing.
use Rattle.std.specs.Prelude.{ℕ, suc, ◌≤◌, ◌≡◌, cond, List, [], ◌∷◌, map, eqb, length, get_or}
use Rattle.records.specs.Records.{Rec}
use Rattle.records.specs.Parents.{parent_index}
use Rattle.records.specs.Table.{level_of, parents_from}

-- the lists hold the levels and the parents of the records `earlier`, the nearest of which comes first
abbrev pub Held : List ℕ → List ℕ → List Rec → Type 0
Held levels parents [] = Unit {0}
Held levels parents (r ∷ earlier) =
    (get_or levels (length earlier) 0 ≡ r.level) × (get_or parents (length earlier) 0 ≡ parent_index r.level earlier) × Held levels parents earlier

-- before an index they hold those of some records
pub record Behind (levels parents : List ℕ) (index : ℕ) : Type 0 where
  pub earlier : List Rec
  pub count : length earlier ≡ index
  pub held : Held levels parents earlier
  pub in_levels : index ≤ length levels
  pub in_parents : index ≤ length parents

-- the index of the parent of a record at a level behind whatever records those are
abbrev pub ParentBehind : List ℕ → List ℕ → ℕ → ℕ → ℕ → Type 0
ParentBehind levels parents index level n = (b : Behind levels parents index) → n ≡ parent_index level b.earlier

-- how many entries of two lists agree, from the front on
unfoldable pub agreeing : List ℕ → List ℕ → ℕ
agreeing [] ys = 0
agreeing (x ∷ xs) [] = 0
agreeing (x ∷ xs) (y ∷ ys) = cond (eqb x y) (suc (agreeing xs ys)) 0

-- of records with these levels, whatever else they hold, n entries from the front on are the parents' indexes, and no more
abbrev pub RightParents : List ℕ → List ℕ → ℕ → Type 0
RightParents levels parents n = (rs : List Rec) → map level_of rs ≡ levels → n ≡ agreeing (parents_from [] rs) parents
