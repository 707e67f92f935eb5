-- Reading a stream record by record: what stands at its front, and the records up to the first fault (document 01, 'Records' and 'Order').
use Rattle.std.specs.Prelude.{ℕ, zero, suc, ◌+◌, ◌-◌, ◌/◌, ◌%◌, Bool, true, false, cond, List, [], ◌∷◌, ltb, eqb, length, take, drop, Result, Err, None, Ok, Option, Some}
use Rattle.numbers.specs.Little.{little}
use Rattle.records.specs.Records.{Rec, lead_of, size}
use Rattle.records.specs.Answers.{refusal, further}
use Rattle.records.specs.declared.fault.Fault.{Fault}
use Rattle.records.specs.declared.fault.Fault.TheVariants as F
use Rattle.records.specs.declared.fault.Offset.{Offset}
use Rattle.records.specs.declared.fault.Refusal.{Refusal}
use Rattle.records.specs.declared.header.Header.{Header}
use Rattle.records.specs.declared.header.Record.{Record}

-- what stands at the front of a stream: a record, or a fault and where, counted from the front
pub data Stands : Type 0 where
  whole : Rec → Stands
  fault : Refusal → Stands

-- the fault at its place where the test holds, and else what follows
unfoldable pub guard : Bool → Fault → ℕ → Stands → Stands
guard true f p x = fault (refusal f p)
guard false f p x = x

-- the record whose body is the n bytes behind the first `skip`: 4 at the header
unfoldable pub body_at : ℕ → ℕ → List ℕ → ℕ → ℕ → Stands
body_at tag level s skip n =
    guard (ltb (length s) (skip + n)) F.BodyPastEnd 0 (whole (record { tag = tag; level = level; body = take n (drop skip s) }))

-- a header of size 4095, with its long length behind it: 2 at the end of the stream, 3 at the long length, 4 (document 02, A12)
unfoldable pub long_at : ℕ → ℕ → List ℕ → Stands
long_at tag level s =
    guard (ltb (length s) 8) F.HeaderCut (length s)
    (guard (ltb (little 4 (drop 4 s)) 4095) F.LongLengthTooSmall 4 (body_at tag level s 8 (little 4 (drop 4 s))))

-- behind the header's 32 bits w: 5 and 6 at the header, and the size
unfoldable pub word_at : ℕ → List ℕ → ℕ → Stands
word_at cap s w =
    guard (ltb (w % 1024) 16) F.TagOutside 0
    (guard (ltb cap (w / 1024 % 1024)) F.LevelRule 0
    (cond (eqb (w / 1048576) 4095) (long_at (w % 1024) (w / 1024 % 1024) s)
    (body_at (w % 1024) (w / 1024 % 1024) s 4 (w / 1048576))))

-- what stands at the front of a stream where the level may be at most cap, by the order 2, 5, 6, 2, 3, 4; 2 is at the end of the stream
unfoldable pub stands_at : ℕ → List ℕ → Stands
stands_at cap s = guard (ltb (length s) 4) F.HeaderCut (length s) (word_at cap s (little 4 s))

-- a header's numbers, or a refusal
abbrev pub Front : Type 0
Front = Result Header Refusal

-- the same as a header's numbers
abbrev pub front_of : Stands → Front
front_of (whole r) =
    Ok (record { tag = r.tag; level = r.level; lead = lead_of (length r.body); len = length r.body })
front_of (fault f) = Err f

-- a byte place
abbrev pub offset : ℕ → Offset
offset p = record { 0 = p }

-- the record r whose header stands at a place: its body is behind the header, the next record behind the body
abbrev pub record_at : ℕ → Rec → Record
record_at at r =
    record {
      at = offset at;
      tag = r.tag;
      level = r.level;
      body = offset (at + lead_of (length r.body));
      len = length r.body;
      next = offset (at + size r);
    }

-- a record, or a refusal; or nothing, at the end
abbrev pub Ahead : Type 0
Ahead = Option (Result Record Refusal)

-- what stands at a place
abbrev pub ahead_by : ℕ → Stands → Ahead
ahead_by at (whole r) = Some (Ok (record_at at r))
ahead_by at (fault f) = Some (Err (further at f))

-- the same of a stream that may end there
unfoldable pub ahead_of : ℕ → List ℕ → ℕ → Ahead
ahead_of cap s at = cond (ltb at (length s)) (ahead_by at (stands_at cap (drop at s))) None

-- the records before the first fault, and the fault if there is one, with its place counted from behind those records
pub record Read : Type 0 where
  pub recs : List Rec
  pub stop : Option Refusal

unfoldable pub onto : Rec → Read → Read
onto r x = record { recs = r ∷ x.recs; stop = x.stop }

-- reading where the next level may be at most cap and k bytes of the record before are still to be passed over. What it reads need not be
-- followed here: of the encoding of lawful records it reads those records, and what it reads without a fault is such an encoding
-- (`stream_records`, `accepted_stream` and `stream_accepted` in proofs/Reader.antt)
unfoldable pub read_from : ℕ → ℕ → List ℕ → Read
read_from cap k [] = record { recs = []; stop = None }
read_from cap (suc k) (x ∷ s) = read_from cap k s
read_from cap zero (x ∷ s) =
    elim (stands_at cap (x ∷ s)) [
      | fault f ↦ record { recs = []; stop = Some f }
      | whole r ↦ onto r (read_from (r.level + 1) (size r - 1) s)
    ]

-- the records of a stream: the first level is 0
unfoldable pub read_all : List ℕ → Read
read_all s = read_from 0 0 s
