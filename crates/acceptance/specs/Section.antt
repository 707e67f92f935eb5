-- What document 01 asks of a section, by no order of refusals: where records 67 to 70 stand, and each paragraph ('Paragraphs'). Earlier records
-- are given the nearest first; `Parent` says that a record's parent is the nearest earlier record of smaller level ('Records').
use Rattle.std.specs.Prelude.{◌≡◌, List, [], ◌∷◌, ℕ, ◌≤◌, length}
use Rattle.records.specs.Kinds as kind
use Rattle.records.specs.Records.{Rec, limit, Encodes}
use Rattle.records.specs.Parents.{Parent}
use Rattle.paragraph.specs.View.{view}
use Rattle.acceptance.specs.Keeps.{Keeps}

-- records 67 to 70
abbrev pub IsLeaf : ℕ → Type 0
IsLeaf tag = (kind.text ≤ tag) × (tag ≤ kind.marks)

-- a record at a level has a parent, and its tag is this
pub record ChildOf (tag level : ℕ) (earlier : List Rec) : Type 0 where
  pub parent : Rec
  pub before : List Rec
  pub is_parent : Parent level earlier parent before
  pub tag_is : parent.tag ≡ tag

-- one of the earlier records has the tag and the parent p, which stands behind the records `before`
pub data Twin (tag : ℕ) (p : Rec) (before : List Rec) : List Rec → Type 0 where
  here : {q : Rec} {earlier : List Rec} → q.tag ≡ tag → Parent q.level earlier p before → Twin tag p before (q ∷ earlier)
  further : {q : Rec} {earlier : List Rec} → Twin tag p before earlier → Twin tag p before (q ∷ earlier)

-- of a record r behind the earlier ones
pub record Placed (r : Rec) (earlier : List Rec) : Type 0 where
  -- records 67 to 70 must be children of a 66
  pub below-header : IsLeaf r.tag → ChildOf kind.paragraph_header r.level earlier
  -- at most one of each: no earlier record with the same parent has its tag
  pub single : IsLeaf r.tag → (p : Rec) (before : List Rec) → Parent r.level earlier p before → Twin r.tag p before earlier → ⊥
  -- and have no children: the parent of no record is one of them
  pub no_leaf_above : (p : Rec) (before : List Rec) → Parent r.level earlier p before → IsLeaf p.tag → ⊥

abbrev pub AllPlaced : List Rec → List Rec → Type 0
AllPlaced earlier [] = Unit {0}
AllPlaced earlier (r ∷ rs) = Placed r earlier × AllPlaced (r ∷ earlier) rs

-- each paragraph keeps its rules. What its view owns are the records with tags 67 to 71 whose parent is its header: `view_exactly` in
-- paragraph/proofs/ChildLaws.antt
abbrev pub AllKeep : List Rec → Type 0
AllKeep [] = Unit {0}
AllKeep (r ∷ rs) = (r.tag ≡ kind.paragraph_header → Keeps (view r rs)) × AllKeep rs

pub record SectionObeys (rs : List Rec) : Type 0 where
  pub placed : AllPlaced [] rs
  pub paragraphs : AllKeep rs

-- s is a section of n records: the encoding of a list of records that obeys the tag and level rules and the rules above
pub record IsSection (s : List ℕ) (n : ℕ) (rs : List Rec) : Type 0 where
  pub within : length s ≤ limit
  pub encodes : Encodes 0 s rs
  pub count : n ≡ length rs
  pub obeys : SectionObeys rs
