-- The calls field text and fill over the bytes of a stream (document 01, 'Order': the section's numbers without 7, then 21 to 23, and 20 to
-- 26).
use Rattle.records.specs.Answers.{Answer, number}
use Rattle.std.specs.Prelude.{ℕ, Bool, ◌||◌, List, [], eqb, Err, Ok}
use Rattle.records.specs.Reading.{read_all}
use Rattle.section.specs.Section.{check_answer}
use Rattle.filling.specs.Filling.{text_answer, fill_answer, fill_bytes, TextAnswer}

-- the section's refusal, and else what follows
abbrev pub text_after_section : Answer → TextAnswer → TextAnswer
text_after_section (Ok n) rest = rest
text_after_section (Err r) rest = Err r

-- what field text answers of a stream
unfoldable pub field_text_of : List ℕ → ℕ → TextAnswer
field_text_of s id = text_after_section (check_answer s) (text_answer id (read_all s).recs)

-- the section's refusal, and else what follows
abbrev pub after_section : Answer → Answer → Answer
after_section (Ok n) rest = rest
after_section (Err r) rest = Err r

-- what fill answers of a stream, with a buffer of `room` bytes
unfoldable pub fill_of : List ℕ → ℕ → List ℕ → ℕ → Answer
fill_of s id value room = after_section (check_answer s) (fill_answer id value (read_all s).recs room)

-- what it writes to the front of the buffer: a refusal nothing
unfoldable pub sheet_of : List ℕ → ℕ → List ℕ → ℕ → List ℕ
sheet_of s id value room = elim (check_answer s) [ Ok n ↦ fill_bytes id value (read_all s).recs room | Err r ↦ [] ]

-- refused by 25 or 26
abbrev pub lacks_room : Answer → Bool
lacks_room a = eqb (number a) 25 || eqb (number a) 26
