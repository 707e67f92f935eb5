-- A step over the records of a stream.
use Rattle.std.specs.Prelude.{◌≡◌, ◌+◌, ◌-◌, length, Option, None, Some, Result, Ok, Err}
use Rattle.std.specs.Iterator.{Count, at_most}
use Rattle.records.specs.Reading.{offset, ahead_of, Ahead}
use Rattle.records.specs.declared.fault.Refusal.{Refusal}
use Rattle.records.specs.declared.header.Record.{Record}
use Rattle.records.specs.declared.walk.Records.{Records}

-- what stands at the place
abbrev pub at_place : Records → Ahead
at_place p = ahead_of p.cap p.stream.now p.at.0

-- a record, and the place is behind it; a fault, and the place is the end; or the end
abbrev pub steps_over : Records → Option (Result Record Refusal) → Records → Type 0
steps_over p None q = at_place p ≡ None
steps_over p (Some (Ok r)) q = (at_place p ≡ Some (Ok r)) × (q ≡ record { stream = p.stream; at = r.next; cap = r.level + 1 })
steps_over p (Some (Err f)) q = (at_place p ≡ Some (Err f)) × (q ≡ record { stream = p.stream; at = offset (length p.stream.now); cap = p.cap })

-- at most as many as bytes
abbrev pub left_in : Records → Count
left_in p = at_most (length p.stream.now - p.at.0)
