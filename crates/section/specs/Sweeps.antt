-- A mirror of the code of rule 9's passes, of which nothing has to be believed: `found` (proofs/SweepLaws.antt) says that the passes together find
-- what `stray_from` names. A pass keeps the numbers of Seats for 200 levels, from lo on.
use Rattle.std.specs.Prelude.{ℕ, ◌+◌, ◌-◌, ◌*◌, min, ◌≤◌, ◌≡◌, Bool, true, false, cond, List, [], ltb, length, get_or, set, Err, None, Ok, Option, Some, Result}
use Rattle.records.specs.Records.{Rec}
use Rattle.records.specs.Reading.{offset, read_all}
use Rattle.records.specs.Table.{read_answer}
use Rattle.section.specs.Parents.{misplaced}
use Rattle.section.specs.Seats.{own_code, seat_of, Seat}
use Rattle.section.specs.Windows.{first_in}
use Rattle.records.specs.declared.fault.Offset.{Offset}
use Rattle.records.specs.declared.fault.Refusal.{Refusal}
use Rattle.section.specs.declared.opening.Opening.{Opening}

-- where the number for a level stands: level - lo, and 200 for a level less than lo. It is less than 200 exactly where the level is in the window
abbrev pub index_in : ℕ → ℕ → ℕ
index_in lo level = level - lo + 200 * min 1 (lo - level)

-- the seat of a record with a tag at a level; whether 9 names it; and the numbers then
abbrev pub seat_in : ℕ → List ℕ → ℕ → ℕ → Seat
seat_in lo table tag level = seat_of (get_or table (index_in lo level) 0) tag

abbrev pub is_stray : Seat → Bool
is_stray None = true
is_stray (Some c) = false

abbrev pub seated_by : Seat → ℕ → List ℕ → ℕ → ℕ → List ℕ
seated_by None lo table tag level = table
seated_by (Some c) lo table tag level = set (set table (index_in lo level) c) (index_in lo (level + 1)) (own_code tag)

abbrev pub seated_in : ℕ → List ℕ → ℕ → ℕ → List ℕ
seated_in lo table tag level = seated_by (seat_in lo table tag level) lo table tag level

-- the place of the earliest record of a level in the window that 9 can name, and e where there is none
abbrev pub stray_in : ℕ → ℕ → ℕ → ℕ → List Rec → List Rec → ℕ
stray_in = first_in (λ (r : Rec). r.level) (λ (earlier : List Rec) (r : Rec) (rs : List Rec). misplaced r earlier)

-- the same as a pass answers it: what a place says, where e is the end; and so of a window of a stream
abbrev pub found_at : ℕ → ℕ → Option Offset
found_at e x = cond (ltb x e) (Some (offset x)) None

unfoldable pub stray_at : ℕ → ℕ → List ℕ → Option Offset
stray_at lo hi s = found_at (length s) (stray_in lo hi (length s) 0 [] (read_all s).recs)

-- what the first pass finds where the reading ends well, or a refusal of the reading
abbrev pub Opened : Type 0
Opened = Result Opening Refusal

-- what the first pass finds: read's refusal, whatever the room; or that read accepts where there is room, the earliest stray of the first window,
-- and the stream
abbrev pub Opens : List ℕ → Opened → Type 0
Opens s (Err f) = (room : ℕ) → read_answer s room ≡ Err f
Opens s (Ok o) =
    ((room : ℕ) → o.n ≤ room → read_answer s room ≡ Ok o.n)
    × (o.stray ≡ stray_at 0 200 s)
    × (o.whole.stream.now ≡ s)
