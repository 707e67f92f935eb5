-- What acceptance means, in the words of document 01 ('DocInfo') and document 02 (A4) and by no order of tests.
use Rattle.std.specs.Prelude.{ℕ, ◌+◌, ◌*◌, ◌%◌, ◌≤◌, ◌<◌, ◌≡◌, List, ◌∷◌, ◌++◌, length}
use Rattle.records.specs.Records.{Rec}
use Rattle.records.specs.Parents.{Lacks, children}
use Rattle.docinfo.specs.Counts.{count_at, tally}

-- exactly one record has the tag, and it is at level 0
pub record Single (t : ℕ) (rs : List Rec) : Type 0 where
  pub before : List Rec
  pub it : Rec
  pub behind : List Rec
  pub whole : rs ≡ before ++ it ∷ behind
  pub tag_is : it.tag ≡ t
  pub level_is : it.level ≡ 0
  pub none_before : Lacks t before
  pub none_behind : Lacks t behind

-- count i is in the body, where each count has w bytes
abbrev pub There : ℕ → List ℕ → ℕ → Type 0
There w body i = w * (i + 1) ≤ length body

-- signed counts of w bytes against the children of their record (document 01, 'DocInfo'): the bits of a negative count are `sign` or more.
-- The sixteenth is asked where it is there, and later ones are ignored
pub record CountsHold (w sign : ℕ) (body : List ℕ) (kids : List Rec) : Type 0 where
  pub none_negative : (i : ℕ) → i < 16 → There w body i → count_at w body i < sign
  pub count_0 : count_at w body 0 ≡ tally 18 kids
  pub counts_1_to_7 :
      count_at w body 1 + count_at w body 2 + count_at w body 3 + count_at w body 4 + count_at w body 5 + count_at w body 6 + count_at w body 7
      ≡ tally 19 kids
  pub counts_8_to_14 : (k : ℕ) → k < 7 → count_at w body (8 + k) ≡ tally (20 + k) kids
  pub count_15 : There w body 15 → count_at w body 15 ≡ tally 92 kids

-- record 17 has one of two forms (document 02, A4)
pub data MappingsHold (body : List ℕ) (kids : List Rec) : Type 0 where
  -- 32 bytes are sixteen signed 16-bit counts
  of_16_bits : length body ≡ 32 → CountsHold 2 32768 body kids → MappingsHold body kids
  -- from 60 bytes up, in multiples of four, it holds signed 32-bit counts, and the sixteenth exists from 64 bytes
  of_32_bits : 60 ≤ length body → length body % 4 ≡ 0 → CountsHold 4 2147483648 body kids → MappingsHold body kids

-- DocInfo's records obey document 01 and document 02
pub record SoundDocInfo (rs : List Rec) : Type 0 where
  pub properties : Single 16 rs
  pub mappings : Single 17 rs
  pub properties-long : 30 ≤ length properties.it.body
  -- the children of 17, the records whose parent it is: `children_of_17` in proofs/Reader.antt
  pub mappings_hold : MappingsHold mappings.it.body (children 1 mappings.behind)
