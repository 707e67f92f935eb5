-- The records of an accepted section: the reader's statement of a section (`acceptance`, IsSection), for a stream of bytes.
use Rattle.std.specs.Prelude.{ℕ, List, [], ◌∷◌, length}
use Rattle.numbers.specs.Little.{Bytes}
use Rattle.records.specs.Records.{Rec, encode}
use Rattle.acceptance.specs.Section.{IsSection}

-- what holds of each record's body
abbrev pub AllBodies : (List ℕ → Type 0) → List Rec → Type 0
AllBodies P [] = Unit {0}
AllBodies P (r ∷ rs) = P r.body × AllBodies P rs

pub record Accepted (rs : List Rec) : Type 0 where
  pub bytes : AllBodies Bytes rs
  pub section : IsSection (encode rs) (length rs) rs
