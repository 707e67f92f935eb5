-- What the calls below know of a section that check accepted (document 01, 'Records' and 'Paragraphs').
use Rattle.std.specs.Prelude.{ℕ, ◌≡◌, List}
use Rattle.records.specs.Records.{Rec, encode}
use Rattle.paragraph.specs.Stream.{records_in}
use Rattle.acceptance.specs.Section.{AllKeep}

-- every paragraph keeps its rules (`acceptance`)
abbrev pub Keep : List Rec → Type 0
Keep rs = AllKeep rs

-- the stream is its records, and they keep the paragraphs' rules
pub record Searchable (s : List ℕ) : Type 0 where
  pub whole : encode (records_in s) ≡ s
  pub keep : Keep (records_in s)
