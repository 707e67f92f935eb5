-- DocInfo at its edges, as one table that antt computes: records, and the number and place that they get (0 for accepted).
use Rattle.std.specs.Prelude.{ℕ, List, [], ◌∷◌, ◌++◌, Bool, true, ◌&&◌, T, eqb, replicate}
use Rattle.numbers.specs.Little.{little, span, bytes_of}
use Rattle.records.specs.Records.{Rec, lead_of, size}
use Rattle.records.specs.Parents.{keep_if, children}
use Rattle.records.specs.Answers.{number, place}
use Rattle.records.specs.Table.{settled}
use Rattle.docinfo.specs.Only.{tagged, only_of, only}
use Rattle.docinfo.specs.Widths.{count_bytes, form_of}
use Rattle.docinfo.specs.Counts.{once, tally, count_at, negative, negative_from, sum_from, groups, matched, unmatched, or_else, count_fault}
use Rattle.docinfo.specs.DocInfo.{kids_of, bodies_fault, judged, docinfo_fault}

pub record Example : Type 0 where
  pub recs : List Rec
  pub gets : ℕ
  pub at : ℕ

unfoldable pub right : Example → Bool
right k = eqb (number (settled 0 (docinfo_fault k.recs))) k.gets && eqb (place (settled 0 (docinfo_fault k.recs))) k.at

unfoldable pub all_right : List Example → Bool
all_right [] = true
all_right (k ∷ ks) = right k && all_right ks

-- a record with an empty body, record 16 of n bytes, and record 17 with its counts of w bytes
unfoldable pub bare : ℕ → ℕ → Rec
bare tag level = record { tag = tag; level = level; body = [] }

unfoldable pub properties : ℕ → Rec
properties n = record { tag = 16; level = 0; body = replicate n 0 }

unfoldable pub bits : ℕ → List ℕ → List ℕ
bits w [] = []
bits w (c ∷ cs) = bytes_of w c ++ bits w cs

unfoldable pub mappings : ℕ → List ℕ → Rec
mappings w cs = record { tag = 17; level = 0; body = bits w cs }

unfoldable pub zeros : ℕ → List ℕ
zeros n = replicate n 0

unfoldable pub examples : List Example
examples =
    record { recs = properties 30 ∷ mappings 2 (zeros 16) ∷ []; gets = 0; at = 0 }
    -- in either order, and with children: one of 18, two of 19 by counts 1 and 7, one of 20 and of 92
    ∷ record {
      recs =
          mappings 2 (1 ∷ 1 ∷ zeros 5 ++ (1 ∷ 1 ∷ zeros 6 ++ (1 ∷ [])))
          ∷ bare 18 1 ∷ bare 19 1 ∷ bare 40 2 ∷ bare 19 1 ∷ bare 20 1 ∷ bare 92 1 ∷ properties 31 ∷ [];
      gets = 0;
      at = 0;
    }
    -- absent, doubled, not at level 0
    ∷ record { recs = []; gets = 16; at = 0 }
    ∷ record { recs = bare 40 0 ∷ properties 30 ∷ []; gets = 16; at = 0 }
    ∷ record { recs = bare 40 0 ∷ properties 30 ∷ mappings 2 (zeros 16) ∷ properties 30 ∷ []; gets = 16; at = 74 }
    ∷ record { recs = bare 40 0 ∷ bare 16 1 ∷ mappings 2 (zeros 16) ∷ properties 30 ∷ []; gets = 16; at = 4 }
    ∷ record { recs = properties 30 ∷ mappings 2 (zeros 16) ∷ bare 17 1 ∷ []; gets = 16; at = 70 }
    -- lengths: record 16 before record 17
    ∷ record { recs = mappings 2 (zeros 15) ∷ properties 29 ∷ []; gets = 17; at = 34 }
    ∷ record { recs = mappings 2 (zeros 15) ∷ properties 30 ∷ []; gets = 17; at = 0 }
    ∷ record { recs = mappings 2 (zeros 17) ∷ properties 30 ∷ []; gets = 17; at = 0 }
    -- counts: negative, unmatched, a grandchild, a child of another record
    ∷ record { recs = properties 30 ∷ mappings 2 (zeros 15 ++ (65535 ∷ [])) ∷ []; gets = 18; at = 68 }
    ∷ record { recs = properties 30 ∷ mappings 2 (32768 ∷ zeros 15) ∷ []; gets = 18; at = 38 }
    ∷ record { recs = properties 30 ∷ mappings 2 (zeros 16) ∷ bare 18 1 ∷ []; gets = 18; at = 38 }
    ∷ record { recs = properties 30 ∷ mappings 2 (1 ∷ zeros 15) ∷ bare 40 1 ∷ bare 18 2 ∷ []; gets = 18; at = 38 }
    ∷ record { recs = properties 30 ∷ bare 18 1 ∷ mappings 2 (1 ∷ zeros 15) ∷ bare 40 0 ∷ bare 18 1 ∷ []; gets = 18; at = 42 }
    -- other children are carried unexamined
    ∷ record { recs = properties 30 ∷ bare 18 1 ∷ mappings 2 (zeros 16) ∷ bare 27 1 ∷ bare 40 0 ∷ bare 18 1 ∷ []; gets = 0; at = 0 }
    -- 32-bit counts (document 02, A4): the sixteenth is not asked where it is not there, and later ones are ignored
    ∷ record { recs = mappings 4 (zeros 15) ∷ bare 92 1 ∷ properties 30 ∷ []; gets = 0; at = 0 }
    ∷ record { recs = mappings 4 (zeros 16) ∷ bare 92 1 ∷ properties 30 ∷ []; gets = 18; at = 64 }
    ∷ record { recs = mappings 4 (zeros 15 ++ (1 ∷ 4294967295 ∷ 2147483648 ∷ [])) ∷ bare 92 1 ∷ properties 30 ∷ []; gets = 0; at = 0 }
    ∷ record { recs = mappings 4 (0 ∷ 1 ∷ zeros 5 ++ (1 ∷ zeros 7)) ∷ bare 19 1 ∷ bare 19 1 ∷ properties 30 ∷ []; gets = 0; at = 0 }
    -- eight counts of four bytes are 32 bytes, and so sixteen of two
    ∷ record { recs = mappings 4 (1 ∷ zeros 7) ∷ bare 18 1 ∷ properties 30 ∷ []; gets = 0; at = 0 }
    ∷ record { recs = mappings 4 (0 ∷ 1 ∷ zeros 6) ∷ bare 19 1 ∷ properties 30 ∷ []; gets = 0; at = 0 }
    ∷ record { recs = mappings 4 (zeros 7 ++ (1 ∷ [])) ∷ properties 30 ∷ []; gets = 18; at = 32 }
    -- every other length
    ∷ record { recs = mappings 4 (zeros 9) ∷ properties 30 ∷ []; gets = 17; at = 0 }
    ∷ record { recs = mappings 4 (zeros 14) ∷ properties 30 ∷ []; gets = 17; at = 0 }
    ∷ record { recs = mappings 2 (zeros 31) ∷ properties 30 ∷ []; gets = 17; at = 0 }
    -- at the sign bit, and a sum of 2 to the power 32
    ∷ record { recs = mappings 4 (2147483648 ∷ zeros 14) ∷ properties 30 ∷ []; gets = 18; at = 4 }
    ∷ record { recs = mappings 4 (zeros 15 ++ (4294967295 ∷ [])) ∷ properties 30 ∷ []; gets = 18; at = 64 }
    ∷ record { recs = mappings 4 (0 ∷ replicate 4 1073741824 ++ zeros 10) ∷ properties 30 ∷ []; gets = 18; at = 8 }
    -- a negative count before any group that is not matched, and of counts 1 to 7 the first (document 02, A12)
    ∷ record { recs = mappings 2 (1 ∷ zeros 8 ++ (32768 ∷ zeros 6)) ∷ properties 30 ∷ []; gets = 18; at = 22 }
    ∷ record { recs = mappings 2 (zeros 7 ++ (1 ∷ zeros 8)) ∷ properties 30 ∷ []; gets = 18; at = 6 }
    ∷ []

pub all_right_lem : T (all_right examples)
unfolding all_right right examples bare properties bits mappings zeros docinfo_fault judged bodies_fault form_of count_bytes kids_of count_fault or_else unmatched matched groups sum_from negative_from negative count_at only only_of tagged tally once children keep_if size lead_of little span bytes_of
all_right_lem = tt
