-- Records, and the stream that a list of records is (document 01, 'Records').
use Rattle.std.specs.Prelude.{ℕ, ◌+◌, ◌*◌, ◌≤◌, ◌<◌, ◌≡◌, cond, List, [], ◌∷◌, ◌++◌, ltb, length}
use Rattle.numbers.specs.Little.{bytes_of}

-- a stream has at most this many bytes (document 01, 'Limits')
abbrev pub limit : ℕ
limit = 16777216

pub record Rec : Type 0 where
  pub tag : ℕ
  pub level : ℕ
  pub body : List ℕ

-- the 32 bits of a header: bits 0 to 9 the tag, 10 to 19 the level, 20 to 31 the size
unfoldable pub header_word : ℕ → ℕ → ℕ → ℕ
header_word tag level size = tag + 1024 * level + 1048576 * size

-- how many bytes a header takes before a body of n bytes
unfoldable pub lead_of : ℕ → ℕ
lead_of n = cond (ltb n 4095) 4 8

-- the header before a body of n bytes: size 4095 means that a 32-bit length follows
unfoldable pub header_of : ℕ → ℕ → ℕ → List ℕ
header_of tag level n =
    cond (ltb n 4095) (bytes_of 4 (header_word tag level n)) (bytes_of 4 (header_word tag level 4095) ++ bytes_of 4 n)

-- a record's bytes: the body follows the header
unfoldable pub encode_one : Rec → List ℕ
encode_one r = header_of r.tag r.level (length r.body) ++ r.body

-- records tile the stream; an empty stream has none
unfoldable pub encode : List Rec → List ℕ
encode [] = []
encode (r ∷ rs) = encode_one r ++ encode rs

-- how many bytes a record takes
unfoldable pub size : Rec → ℕ
size r = lead_of (length r.body) + length r.body

-- what document 01 asks of a record whose level may be at most cap
pub record RecordObeys (cap : ℕ) (r : Rec) : Type 0 where
  pub tag_low : 16 ≤ r.tag
  pub tag_high : r.tag < 1024
  pub level_cap : r.level ≤ cap
  pub level_high : r.level < 1024
  pub body_fits : length r.body < 4294967296

-- the tag and level rules: each later level is at most one above the record before it
abbrev pub Lawful : ℕ → List Rec → Type 0
Lawful cap [] = Unit {0}
Lawful cap (r ∷ rs) = RecordObeys cap r × Lawful (r.level + 1) rs

-- a stream is the encoding of a lawful list of records, the first of which has at most the level cap (0 for a whole stream)
pub record Encodes (cap : ℕ) (s : List ℕ) (rs : List Rec) : Type 0 where
  pub lawful : Lawful cap rs
  pub stream : encode rs ≡ s
