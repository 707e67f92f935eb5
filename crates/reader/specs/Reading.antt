-- The walk that keeps the bytes and the position together (document 01, 'Text units': the text walk keeps the paragraph's bytes and its
-- present position together).
use Rattle.std.specs.Prelude.{ℕ, ◌+◌, List, drop}
use Rattle.std.specs.Borrow.{Bor}
use Rattle.text.specs.Units.{units}
use Rattle.text.specs.Walk.{run}
use Rattle.text.specs.Answers.{position, step_at}
use Rattle.text.specs.declared.Position.{Position}
use Rattle.text.specs.declared.Step.{Step}
use Rattle.reader.specs.declared.Reader.{Reader}

abbrev pub reader : Bor (List ℕ) → Position → Reader
reader text at = record { text = text; at = at }

-- the same walk at the next unit below 32, or at the end
abbrev pub ahead : Reader → Reader
ahead r = reader r.text (position (r.at.0 + run (drop r.at.0 (units r.text.now))))

-- what stands where the walk stands
abbrev pub standing : Reader → Step
standing r = step_at (units r.text.now) r.at.0
