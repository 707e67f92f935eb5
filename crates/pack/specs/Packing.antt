-- What pack answers, and the bytes it leaves (document 01, 'Records', the table of numbers, and 'Order'; document 02, A6).
use Rattle.std.specs.Prelude.{ℕ, ◌+◌, ◌≤◌, ◌≡◌, Bool, cond, List, [], ◌∷◌, ltb, eqb, length, get_or, take, drop, Result, Err, Ok}
use Rattle.records.specs.declared.fault.Fault.{Fault}
use Rattle.records.specs.declared.fault.Fault.TheVariants as F
use Rattle.records.specs.Answers.{number_of, number_by, place_by}
use Rattle.records.specs.Records.{Rec, limit, encode}
use Rattle.records.specs.Table.{parents_from, written, Lists, room_in}
use Rattle.pack.specs.declared.table.Row.{Row}
use Rattle.pack.specs.Rows.{rows_in, records}
use Rattle.pack.specs.declared.judge.Index.{Index}
use Rattle.pack.specs.declared.judge.RowRefusal.{RowRefusal}

-- what one row's numbers say: nothing, or a fault
abbrev pub Verdict : Type 0
Verdict = Result Unit Fault

-- what pack answers: the length written, or a refusal
abbrev pub Packed : Type 0
Packed = Result ℕ RowRefusal

-- a fault, and the index of its record
abbrev pub row_refusal : Fault → Index → RowRefusal
row_refusal f i = record { fault = f; index = i }

-- the refusal of a fault; in pack the place is the record's index
abbrev pub refused_at : Fault → ℕ → Packed
refused_at f i = Err (row_refusal f (record { 0 = i }))

-- the first of two faults
abbrev pub first_of : Verdict → Verdict → Verdict
first_of (Ok tt) v = v
first_of (Err f) v = Err f

-- a tag and a level, which may be at most cap: 5, 6
unfoldable pub numbers_verdict : ℕ → ℕ → ℕ → Verdict
numbers_verdict cap tag level =
    cond (ltb tag 16) (Err F.TagOutside)
    (cond (ltb 1023 tag) (Err F.TagOutside)
    (cond (ltb cap level) (Err F.LevelRule)
    (cond (ltb 1023 level) (Err F.LevelRule) (Ok tt))))

-- a parent that is the right one or not: 28
unfoldable pub parent_verdict : Bool → Verdict
parent_verdict right = cond right (Ok tt) (Err F.ParentWrong)

-- a body that ends so far into `lent` bytes: 4
unfoldable pub body_verdict : ℕ → ℕ → Verdict
body_verdict lent end = cond (ltb lent end) (Err F.BodyPastEnd) (Ok tt)

-- a row whose level may be at most cap, with the right parent or not, over `lent` bytes: 5, 6, 28, 4
unfoldable pub verdict : ℕ → Bool → ℕ → Row → Verdict
verdict cap right lent r =
    first_of (numbers_verdict cap r.tag r.level) (first_of (parent_verdict right) (body_verdict lent (r.place + r.len)))

-- record by record from index i on, each level at most one above the one before, each parent that is given the one that the record has;
-- `after` where none has a fault
unfoldable pub row_by_row : ℕ → ℕ → ℕ → List Row → List ℕ → List ℕ → Packed → Packed
row_by_row lent i cap [] given has after = after
row_by_row lent i cap (r ∷ rs) given has after =
    elim (verdict cap (eqb (get_or given 0 0) (get_or has 0 0)) lent r) [
      | Err f ↦ refused_at f i
      | Ok tt ↦ row_by_row lent (i + 1) (r.level + 1) rs (drop 1 given) (drop 1 has) after
    ]

-- a stream of n bytes into a buffer of `room`: 1, 26
unfoldable pub closing : ℕ → ℕ → Packed
closing room n = cond (ltb limit n) (refused_at F.StreamTooLong 0) (cond (ltb room n) (refused_at F.BufferTooShort 0) (Ok n))

-- the rows over the lent bytes: the first level is 0, the parents are those of the records, and the total is the length of the stream
unfoldable pub rows_answer : List ℕ → ℕ → List Row → List ℕ → Packed
rows_answer bytes room rs parents =
    row_by_row (length bytes) 0 0 rs parents (parents_from [] (records bytes rs)) (closing room (length (encode (records bytes rs))))

-- pack's answer: 27, then the rows
unfoldable pub pack_answer : ℕ → Lists → List ℕ → ℕ → Packed
pack_answer count k bytes room =
    cond (ltb (room_in k) count) (refused_at F.ListTooShort 0) (rows_answer bytes room (rows_in count k) k.parents)

-- the buffer: the stream of the records at its front and what stood behind them; a refusal changes nothing
abbrev pub leaves : Packed → List Rec → List ℕ → List ℕ
leaves (Ok n) rs out = written (encode rs) out
leaves (Err r) rs out = out

-- what document 01 asks of a row whose level may be at most cap, over `lent` bytes
pub record SoundRow (cap lent : ℕ) (r : Row) : Type 0 where
  pub tag_low : 16 ≤ r.tag
  pub tag_high : r.tag ≤ 1023
  pub level_cap : r.level ≤ cap
  pub level_high : r.level ≤ 1023
  pub inside : r.place + r.len ≤ lent

abbrev pub SoundRows : ℕ → ℕ → List Row → Type 0
SoundRows cap lent [] = Unit {0}
SoundRows cap lent (r ∷ rs) = SoundRow cap lent r × SoundRows (r.level + 1) lent rs

-- when pack accepts, and with which length: the reader's statement
pub record Accepts (count : ℕ) (k : Lists) (bytes : List ℕ) (room n : ℕ) : Type 0 where
  pub listed : count ≤ room_in k
  pub sound : SoundRows 0 (length bytes) (rows_in count k)
  pub parents_are : take count k.parents ≡ parents_from [] (records bytes (rows_in count k))
  pub length-is : n ≡ length (encode (records bytes (rows_in count k)))
  pub limited : n ≤ limit
  pub roomy : n ≤ room

-- document 01's number of an answer, 0 where it is accepted
abbrev pub number : Packed → ℕ
number a = number_by (λ (r : RowRefusal). number_of r.fault) a

-- the index that goes with it, or the length that stands in its column for 0
abbrev pub place : Packed → ℕ
place a = place_by (λ (r : RowRefusal). r.index.0) a
