-- What read answers, and the table it writes (document 01, 'Read writes ..' and 'Order'; document 02, A6).
use Rattle.std.specs.Prelude.{ℕ, ◌+◌, min, ◌≡◌, cond, List, [], ◌∷◌, ◌++◌, map, ltb, leb, length, take, drop, Err, None, Ok, Option, Some}
use Rattle.records.specs.Records.{Rec, limit, encode, lead_of, size}
use Rattle.records.specs.Parents.{Parent, parent_index}
use Rattle.records.specs.Answers.{further, refused_at, Answer}
use Rattle.records.specs.Reading.{Read, read_all}
use Rattle.records.specs.declared.fault.Fault.TheVariants as F
use Rattle.records.specs.declared.fault.Refusal.{Refusal}

-- how many records there are, or 7 at the first that does not fit
unfoldable pub room_for : ℕ → List Rec → Answer
room_for room rs = cond (leb (length rs) room) (Ok (length rs)) (refused_at F.NoRoom (length (encode (take room rs))))

-- the fault that stopped the reading behind p bytes, and else the answer a
unfoldable pub stopped : Option Refusal → ℕ → Answer → Answer
stopped None p a = a
stopped (Some f) p a = Err (further p f)

-- the fault that stopped the reading, behind the records, and else the answer of the room
unfoldable pub answer_of : ℕ → Read → Answer
answer_of room x = stopped x.stop (length (encode x.recs)) (room_for room x.recs)

-- read's answer where the shortest list has `room` entries: 1, then the records, then 7
unfoldable pub read_answer : List ℕ → ℕ → Answer
read_answer s room = cond (ltb limit (length s)) (refused_at F.StreamTooLong 0) (answer_of room (read_all s))

-- accepted with n where nothing is at fault
abbrev pub settled : ℕ → Option Refusal → Answer
settled n None = Ok n
settled n (Some r) = Err r

-- read's answer, then what is at fault with the records beyond that: the section read and the DocInfo read
abbrev pub after_read : Answer → Option Refusal → Answer
after_read (Ok n) fault = settled n fault
after_read (Err r) fault = Err r

-- the records that an answer enters into the table: a refusal enters none
abbrev pub entered : Answer → List Rec → List Rec
entered (Ok n) rs = rs
entered (Err r) rs = []

-- the five columns: tag, level, body place (the first record's header stands at `at`), body length, and the parent's index (the first record
-- stands behind the records `earlier`, the nearest first)
abbrev pub tag_of : Rec → ℕ
tag_of r = r.tag

abbrev pub level_of : Rec → ℕ
level_of r = r.level

abbrev pub length_of : Rec → ℕ
length_of r = length r.body

unfoldable pub places_from : ℕ → List Rec → List ℕ
places_from at [] = []
places_from at (r ∷ rs) = (at + lead_of (length r.body)) ∷ places_from (at + size r) rs

unfoldable pub parents_from : List Rec → List Rec → List ℕ
parents_from earlier [] = []
parents_from earlier (r ∷ rs) = parent_index r.level earlier ∷ parents_from (r ∷ earlier) rs

-- what the fifth column says, without a search: a record at level 0 carries its own index, every other that of its parent (document 02, A6).
-- Of records that keep the level rule the column is the list of which this holds: `parents_exactly` in proofs/ColumnLaws.antt
pub data Carries (level : ℕ) (earlier : List Rec) : ℕ → Type 0 where
  own : level ≡ 0 → Carries level earlier (length earlier)
  parent's : (p : Rec) (before : List Rec) → Parent level earlier p before → Carries level earlier (length before)

abbrev pub Carried : List Rec → List Rec → List ℕ → Type 0
Carried earlier [] [] = Unit {0}
Carried earlier [] (n ∷ ns) = ⊥
Carried earlier (r ∷ rs) [] = ⊥
Carried earlier (r ∷ rs) (n ∷ ns) = Carries r.level earlier n × Carried (r ∷ earlier) rs ns

-- a list with vs written from its front; what stands behind them stays
abbrev pub written : List ℕ → List ℕ → List ℕ
written vs l = vs ++ drop (length vs) l

-- the five lent lists
pub record Lists : Type 0 where
  pub tags : List ℕ
  pub levels : List ℕ
  pub places : List ℕ
  pub lengths : List ℕ
  pub parents : List ℕ

abbrev pub lists : List ℕ → List ℕ → List ℕ → List ℕ → List ℕ → Lists
lists t l p n q = record { tags = t; levels = l; places = p; lengths = n; parents = q }

-- the lists after the table of rs was written into them
abbrev pub tabled : List Rec → Lists → Lists
tabled rs k =
    lists (written (map tag_of rs) k.tags) (written (map level_of rs) k.levels) (written (places_from 0 rs) k.places)
    (written (map length_of rs) k.lengths) (written (parents_from [] rs) k.parents)

-- the shortest of four lists
abbrev pub shortest : List ℕ → List ℕ → List ℕ → List ℕ → ℕ
shortest a b c d = min (min (length a) (length b)) (min (length c) (length d))

-- room is the shortest of the five
abbrev pub room_in : Lists → ℕ
room_in k = min (shortest k.tags k.levels k.places k.lengths) (length k.parents)

-- the records that have room, of a stream within the limit: all of a stream that read accepts (`fitting_all` in proofs/TableLaws.antt)
unfoldable pub fitting : List ℕ → ℕ → List Rec
fitting s room = cond (ltb limit (length s)) [] (take room (read_all s).recs)
