-- A step over the records of a part of a stream.
use Rattle.std.specs.Prelude.{◌≡◌, ◌-◌, [], length, drop, Option, None, Some, Ok}
use Rattle.std.specs.Iterator.{Count, at_most}
use Rattle.records.specs.Reading.{ahead_of}
use Rattle.records.specs.declared.header.Record.{Record}
use Rattle.paragraph.specs.declared.stream.RecordsFrom.{RecordsFrom}
use Rattle.paragraph.specs.Stream.{records_in}

-- the record at the place, and the place is behind it; or there is none, and the place stays
abbrev pub steps_over : RecordsFrom → Option Record → RecordsFrom → Type 0
steps_over p None q = (records_in (drop p.at.0 p.stream.now) ≡ []) × (q ≡ p)
steps_over p (Some r) q = (ahead_of 1023 p.stream.now p.at.0 ≡ Some (Ok r)) × (q ≡ record { stream = p.stream; at = r.next })

-- at most as many records as bytes
abbrev pub left_in : RecordsFrom → Count
left_in p = at_most (length p.stream.now - p.at.0)
