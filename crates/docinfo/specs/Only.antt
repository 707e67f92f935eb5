-- The only record with a tag, at level 0 (document 01, 'DocInfo', and number 16).
use Rattle.std.specs.Prelude.{ℕ, ◌+◌, ◌≤◌, ◌≡◌, cond, List, [], ◌∷◌, eqb, length, take, drop, Err, None, Ok, Some, Result, Option}
use Rattle.records.specs.Records.{Rec, lead_of, size}
use Rattle.records.specs.Parents.{keep_if}
use Rattle.records.specs.Reading.{offset, record_at, read_from}
use Rattle.records.specs.declared.header.Record.{Record}
use Rattle.records.specs.Answers.{refusal}
use Rattle.records.specs.declared.fault.Fault.TheVariants as F
use Rattle.records.specs.declared.fault.Offset.{Offset}
use Rattle.records.specs.declared.fault.Refusal.{Refusal}

-- a record of a stream: the place of its header, the record, and the records behind it
pub record Located : Type 0 where
  pub at : ℕ
  pub it : Rec
  pub behind : List Rec

-- the place of its body
abbrev pub body_place : Located → ℕ
body_place p = p.at + lead_of (length p.it.body)

-- the records with a tag, in stream order, where the first header stands at `at`
unfoldable pub tagged : ℕ → ℕ → List Rec → List Located
tagged t at [] = []
tagged t at (r ∷ rs) = keep_if (eqb r.tag t) (record { at = at; it = r; behind = rs }) (tagged t (at + size r) rs)

-- the one record, or the place of a refusal
pub data Only : Type 0 where
  one : Located → Only
  wrong : ℕ → Only

-- 0 where it is absent, else the first that is not at level 0 or is the second
unfoldable pub only_of : List Located → Only
only_of [] = wrong 0
only_of (p ∷ []) = cond (eqb p.it.level 0) (one p) (wrong p.at)
only_of (p ∷ q ∷ qs) = wrong (cond (eqb p.it.level 0) q.at p.at)

unfoldable pub only : ℕ → List Rec → Only
only t rs = only_of (tagged t 0 rs)

-- ---- the same as the code's records

abbrev pub record_of : Located → Record
record_of p = record_at p.at p.it

-- the first of them
abbrev pub sought_of : List Located → Option Record
sought_of [] = None
sought_of (p ∷ ps) = Some (record_of p)

abbrev pub sole_of : Only → Result Record Offset
sole_of (one p) = Ok (record_of p)
sole_of (wrong a) = Err (offset a)

-- the same with 16 for its fault
abbrev pub required_of : Only → Result Record Refusal
required_of (one p) = Ok (record_of p)
required_of (wrong a) = Err (refusal F.DocInfoRecord a)

-- what a record is in a stream
abbrev pub located_at : List ℕ → Record → Located
located_at s r =
    record {
      at = r.at.0;
      it = record { tag = r.tag; level = r.level; body = take r.len (drop r.body.0 s) };
      behind = (read_from (r.level + 1) 0 (drop r.next.0 s)).recs;
    }

-- its body is behind its header, and its last byte is in the stream
abbrev pub InStream : List ℕ → Record → Type 0
InStream s r = (r.body.0 ≡ r.at.0 + lead_of r.len) × (r.body.0 + r.len ≤ length s)
