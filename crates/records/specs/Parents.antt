-- Parent and child (document 01, 'Records': a record's parent is the nearest earlier record of smaller level). Earlier records are given
-- the nearest first. What is meant is `Parent`; `parent_of` and `children` compute it (proofs/ParentLaws.antt: parent_exactly, children_exactly).
use Rattle.std.specs.Prelude.{ℕ, ◌≤◌, ◌<◌, ◌≡◌, Bool, true, false, cond, List, [], ◌∷◌, ◌++◌, ltb, eqb, length}
use Rattle.records.specs.Records.{Rec}

-- no record has the tag
abbrev pub Lacks : ℕ → List Rec → Type 0
Lacks t [] = Unit {0}
Lacks t (r ∷ rs) = (r.tag ≡ t → ⊥) × Lacks t rs

-- no record has a level below n
abbrev pub NoneBelow : ℕ → List Rec → Type 0
NoneBelow n [] = Unit {0}
NoneBelow n (r ∷ rs) = (n ≤ r.level) × NoneBelow n rs

-- the parent of a record at a level is p, which stands behind the records `before`: the nearest earlier record of smaller level
pub record Parent (level : ℕ) (earlier : List Rec) (p : Rec) (before : List Rec) : Type 0 where
  pub between : List Rec
  pub split : earlier ≡ between ++ p ∷ before
  pub smaller : p.level < level
  pub nearest : NoneBelow level between

-- behind the records `earlier`, ks are those records of rs whose parent is p: of every tag, and in their order
pub data WithParent (p : Rec) (before : List Rec) : (earlier rs ks : List Rec) → Type 0 where
  end : {earlier : List Rec} → WithParent p before earlier [] []
  child : {earlier : List Rec} {r : Rec} {rs ks : List Rec} → Parent r.level earlier p before → WithParent p before (r ∷ earlier) rs ks
      → WithParent p before earlier (r ∷ rs) (r ∷ ks)
  other : {earlier : List Rec} {r : Rec} {rs ks : List Rec} → (Parent r.level earlier p before → ⊥) → WithParent p before (r ∷ earlier) rs ks
      → WithParent p before earlier (r ∷ rs) ks

-- the parent of a record at a level, with the records before it; nothing where there is none
unfoldable pub parent_of : ℕ → List Rec → List Rec
parent_of level [] = []
parent_of level (p ∷ before) = cond (ltb p.level level) (p ∷ before) (parent_of level before)

-- the index of that parent, records counted from 0; the record's own where it has none (document 02, A6). Of records that keep the level rule
-- only those at level 0 have none: `parents_exactly` in proofs/ColumnLaws.antt
abbrev pub index_or : ℕ → List Rec → ℕ
index_or own [] = own
index_or own (p ∷ before) = length before

unfoldable pub parent_index : ℕ → List Rec → ℕ
parent_index level earlier = index_or (length earlier) (parent_of level earlier)

-- an element before a list where the test holds
unfoldable pub keep_if : {A : Type 0} → Bool → A → List A → List A
keep_if true x xs = x ∷ xs
keep_if false x xs = xs

-- the children of a record that stands one level above n, from the records behind it: those at level n, up to the first level below n
unfoldable pub children : ℕ → List Rec → List Rec
children n [] = []
children n (r ∷ rs) = cond (ltb r.level n) [] (keep_if (eqb r.level n) r (children n rs))
