-- What a refusal by read says of a stream, its place included and with no order of tests (document 01, the table of numbers; document 02,
-- A12): `refused_stream` in proofs/Reader.antt.
use Rattle.std.specs.Prelude.{ℕ, ◌+◌, ◌/◌, ◌%◌, ◌≤◌, ◌<◌, ◌≡◌, List, [], ◌∷◌, ◌++◌, length, take, drop}
use Rattle.numbers.specs.Little.{little}
use Rattle.records.specs.Records.{Rec, limit, encode, Lawful, Encodes}
use Rattle.records.specs.Answers.{refusal, further}
use Rattle.records.specs.declared.fault.Fault.TheVariants as F
use Rattle.records.specs.declared.fault.Refusal.{Refusal}

-- the size in the header at the front of s
abbrev pub size_in : List ℕ → ℕ
size_in s = little 4 s / 1048576

-- a fault at the front of s, where the level may be at most cap, and where it is, counted from the front
pub data AtFront (cap : ℕ) (s : List ℕ) : Refusal → Type 0 where
  -- 2 is at the end: the four bytes of the header are not there, or those of the long length
  cut : length s < 4 → AtFront cap s (refusal F.HeaderCut (length s))
  long_cut : size_in s ≡ 4095 → length s < 8 → AtFront cap s (refusal F.HeaderCut (length s))
  -- 3 is at the long length
  small : size_in s ≡ 4095 → 8 ≤ length s → little 4 (drop 4 s) < 4095 → AtFront cap s (refusal F.LongLengthTooSmall 4)
  -- 4, 5 and 6 are at the header
  past : (size_in s ≡ 4095 → ⊥) → length s < 4 + size_in s → AtFront cap s (refusal F.BodyPastEnd 0)
  long_past : size_in s ≡ 4095 → length s < 8 + little 4 (drop 4 s) → AtFront cap s (refusal F.BodyPastEnd 0)
  reserved : little 4 s % 1024 < 16 → AtFront cap s (refusal F.TagOutside 0)
  deep : cap < little 4 s / 1024 % 1024 → AtFront cap s (refusal F.LevelRule 0)

-- the highest level that may stand behind records: one above the last of them, and cap where there is none
unfoldable pub cap_behind : ℕ → List Rec → ℕ
cap_behind cap [] = cap
cap_behind cap (r ∷ rs) = cap_behind (r.level + 1) rs

-- what read refuses, where the shortest list has `room` entries
pub data Refuses (s : List ℕ) (room : ℕ) : Refusal → Type 0 where
  -- 1
  too_long : limit < length s → Refuses s room (refusal F.StreamTooLong 0)
  -- 2 to 6: lawful records, and behind them a fault
  wrong : (rs : List Rec) (rest : List ℕ) (f : Refusal) → Lawful 0 rs → encode rs ++ rest ≡ s → AtFront (cap_behind 0 rs) rest f
      → Refuses s room (further (length (encode rs)) f)
  -- 7 at the first record that does not fit
  full : (rs : List Rec) → Encodes 0 s rs → room < length rs → Refuses s room (refusal F.NoRoom (length (encode (take room rs))))
