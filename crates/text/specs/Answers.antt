-- What the walk's calls answer (document 01, 'Text units': each step reports where it stood and what stands there, and hands back the
-- walk at the next position).
use Rattle.std.specs.Prelude.{Err, None, Ok, Option, Some, ℕ, ◌+◌, List, drop, Result}
use Rattle.text.specs.Asked.{width}
use Rattle.text.specs.Walk.{Front, stands, broken, over, front, run, text_fault, extended_count}
use Rattle.text.specs.declared.Position.{Position}
use Rattle.text.specs.declared.Cursor.{Cursor}
use Rattle.text.specs.declared.Step.{Step}
use Rattle.text.specs.declared.Step.TheVariants.{Stands, Broken, End}

-- a whole text judged: its number of extended controls, or the position at fault
abbrev pub Judged : Type 0
Judged = Result ℕ Position

-- a position of the text, in units
abbrev pub position : ℕ → Position
position p = record { 0 = p }

-- the walk at a position
abbrev pub cursor : ℕ → Cursor
cursor p = record { at = position p }

-- the step from position p: 'where it stood and what stands there', and 'the walk at the next position'
abbrev pub step_of : ℕ → Front → Step
step_of p (stands s) = Stands (position p) s (cursor (p + width s))
step_of p (broken d) = Broken (position (p + d))
step_of p over = End

-- the step in a text
unfoldable pub step_at : List ℕ → ℕ → Step
step_at us p = step_of p (front (drop p us))

-- the step at the next unit below 32 from position p on; End where there is none (document 01, 'Filling a field': 'the next unit below 32
-- after it')
unfoldable pub control_at : List ℕ → ℕ → Step
control_at us p = step_at us (p + run (drop p us))

-- a sound text with its number of extended controls, else its first fault
abbrev pub verdict : Option ℕ → ℕ → Judged
verdict None n = Ok n
verdict (Some p) n = Err (position p)

-- the same of a text's units
unfoldable pub judged : List ℕ → Judged
judged us = verdict (text_fault us) (extended_count us)

-- document 01's number of a judgement (0 accepted, 12 text rule broken), and what stands beside it: the extended controls, or the
-- position at fault
abbrev pub number : Judged → ℕ
number (Ok n) = 0
number (Err p) = 12

abbrev pub beside : Judged → ℕ
beside (Ok n) = n
beside (Err p) = p.0
