-- What the search of a section comes to (document 01, 'The field search' and 'Order'): check's refusal, or what was met of the fields with the
-- id, which `hits` (filling) lists as document 01 has them. How the code's steps come to it is in Steps.
use Rattle.records.specs.Answers.{Answer}
use Rattle.std.specs.Prelude.{ℕ, List, [], ◌∷◌, Err, Ok, Result}
use Rattle.records.specs.Reading.{read_all}
use Rattle.section.specs.Section.{check_answer}
use Rattle.filling.specs.Search as Search
use Rattle.search.specs.declared.seek.Hit.{Hit}
use Rattle.search.specs.declared.seek.Met.{Met}
use Rattle.search.specs.declared.seek.Met.TheVariants as M
use Rattle.records.specs.declared.fault.Refusal.{Refusal}

-- a hit in the code's own numbers
abbrev pub told : Search.Hit → Hit
told h =
    record {
      paragraph = h.paragraph;
      header = record { 0 = h.header };
      text = record { 0 = h.text };
      control = record { 0 = h.control };
      marks = h.marks;
      field = record { ordinal = h.field.ordinal; a = record { 0 = h.field.a }; b = record { 0 = h.field.b }; plain = h.field.plain };
    }

-- one more hit
abbrev pub met_next : Met → Hit → Met
met_next M.Nothing h = M.One h
met_next (M.One k) h = M.Twice h.control
met_next (M.Twice p) h = M.Twice p

unfoldable pub met_with : Met → List Search.Hit → Met
met_with m [] = m
met_with m (h ∷ hs) = met_with (met_next m (told h)) hs

-- what the search of a section comes to: what was met, or check's refusal
abbrev pub SectionSearch : Type 0
SectionSearch = Result Met Refusal

-- what the search of a section comes to: check's refusal, and else what was met (document 01, 'Order')
abbrev pub section_search_of : Answer → Met → SectionSearch
section_search_of (Ok n) m = Ok m
section_search_of (Err r) m = Err r

unfoldable pub section_search : List ℕ → ℕ → SectionSearch
section_search s id = section_search_of (check_answer s) (met_with M.Nothing (Search.hits id 0 0 (read_all s).recs))
