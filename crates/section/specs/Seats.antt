-- A mirror of the code of rule 9's pass, of which nothing has to be believed: `seating` (proofs/SeatLaws.antt) says that a record takes its seat
-- exactly where `misplaced`, by `parent_of`, does not name it, and what the pass promises is in Parents. The pass keeps one number for each level:
-- 32 below a record 67 to 70, 16 below any other record that is no paragraph header, and below a paragraph header one bit for each of 67 to 70
-- that it has already.
use Rattle.std.specs.Prelude.{ℕ, ◌+◌, ◌/◌, ◌%◌, Bool, cond, leb, eqb, None, Some, Option}
use Rattle.records.specs.Kinds as kind
use Rattle.section.specs.Parents.{leaf, header}

-- what becomes of the number kept for a level where a record stands there: nothing where 9 names the record
abbrev pub Seat : Type 0
Seat = Option ℕ

-- what a record with a tag is to its first child
unfoldable pub own_code : ℕ → ℕ
own_code tag = cond (header tag) 0 (cond (leaf tag) 32 16)

-- the bit of a record 67 to 70
unfoldable pub bit_of : ℕ → ℕ
bit_of tag = cond (eqb tag kind.text) 1 (cond (eqb tag kind.shapes) 2 (cond (eqb tag kind.layout) 4 8))

unfoldable pub has : ℕ → ℕ → Bool
has code tag = eqb (code / bit_of tag % 2) 1

-- what becomes of the number where a record stands: 9, or the number with the record's bit
unfoldable pub seat_leaf : ℕ → ℕ → Seat
seat_leaf code tag = cond (leb 16 code) None (cond (has code tag) None (Some (code + bit_of tag)))

unfoldable pub seat_of : ℕ → ℕ → Seat
seat_of code tag = cond (eqb code 32) None (cond (leaf tag) (seat_leaf code tag) (Some code))
