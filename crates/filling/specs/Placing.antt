-- Rule 9 by what follows a record, and how long bodies may be, as an edit's proofs ask it. What is accepted is said in `acceptance` alone
-- (AllPlaced, by what stands before a record); that Followed says the same is `followed` and `placed` in proofs/FollowLaws.antt.
use Rattle.std.specs.Prelude.{ℕ, suc, ◌≤◌, ◌<◌, ◌≡◌, List, [], ◌∷◌, length}
use Rattle.records.specs.Kinds as kind
use Rattle.records.specs.Records.{Rec}
use Rattle.records.specs.Parents.{Lacks}
use Rattle.paragraph.specs.View.{kids}

-- what follows a record of level n is no child of it
abbrev pub Stops : ℕ → List Rec → Type 0
Stops n [] = Unit {0}
Stops n (r ∷ rs) = r.level ≤ n

-- a layout record has no children
abbrev pub Leaves : List Rec → Type 0
Leaves [] = Unit {0}
Leaves (r ∷ rs) = (r.tag ≡ kind.layout → Stops r.level rs) × Leaves rs

-- each body's length fits its 32 bits
abbrev pub Bodies : List Rec → Type 0
Bodies [] = Unit {0}
Bodies (r ∷ rs) = (length r.body < 4294967296) × Bodies rs

-- at most one record of each tag up to 70
abbrev pub Once : List Rec → Type 0
Once [] = Unit {0}
Once (r ∷ k) = (r.tag ≤ kind.marks → Lacks r.tag k) × Once k

-- none of the tags 67 to 70 among owned children
abbrev pub Free : List Rec → Type 0
Free [] = Unit {0}
Free (r ∷ k) = (kind.marks < r.tag) × Free k

-- of one record and what follows it: a 67 to 70 has no children, a 66 has at most one of each, and no other record has one
pub record Rule (r : Rec) (rs : List Rec) : Type 0 where
  pub leaf : kind.text ≤ r.tag → r.tag ≤ kind.marks → Stops r.level rs
  pub paragraph : r.tag ≡ kind.paragraph_header → Once (kids (suc r.level) rs)
  pub other : (r.tag ≡ kind.paragraph_header → ⊥) → Free (kids (suc r.level) rs)

abbrev pub Each : List Rec → Type 0
Each [] = Unit {0}
Each (r ∷ rs) = Rule r rs × Each rs

-- of a section, whose records at level 0 have no parent
pub record Followed (rs : List Rec) : Type 0 where
  pub roots : Free (kids 0 rs)
  pub each : Each rs
