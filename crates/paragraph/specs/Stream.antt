-- The records of a part of a stream: any part that begins with a header, whatever level stands before it (document 01, 'Records').
use Rattle.std.specs.Prelude.{ℕ, zero, suc, ◌-◌, List, [], ◌∷◌}
use Rattle.records.specs.Records.{Rec, size}
use Rattle.records.specs.Reading.{whole, fault, stands_at}

-- up to the first fault, where k bytes of the record before are still to be passed over; a level has ten bits, so no level is too high
unfoldable pub within : ℕ → List ℕ → List Rec
within k [] = []
within (suc k) (x ∷ s) = within k s
within zero (x ∷ s) = elim (stands_at 1023 (x ∷ s)) [ fault f ↦ [] | whole r ↦ r ∷ within (size r - 1) s ]

unfoldable pub records_in : List ℕ → List Rec
records_in s = within 0 s
