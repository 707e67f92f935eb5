-- What document 01 asks of one paragraph, a line for each of its sentences ('Paragraphs'), by no order of refusals.
use Rattle.std.specs.Prelude.{ℕ, ◌+◌, ◌*◌, ◌/◌, ◌≤◌, ◌<◌, max, ◌≡◌, List, [], ◌∷◌, map, length, drop, None, Some}
use Rattle.numbers.specs.Little.{little}
use Rattle.records.specs.Kinds as kind
use Rattle.text.specs.Units.{units}
use Rattle.text.specs.Asked.{SoundText}
use Rattle.text.specs.Walk.{tokens, extended_count}
use Rattle.paragraph.specs.View.{View, child, controls}
use Rattle.entries.specs.Entries.{entries}
use Rattle.paragraph.specs.Rules.{counts_of, bytes_in, codes_in}

-- ---- the entries of a body

-- the starts of character shapes
abbrev pub starts_of : List ℕ → List ℕ
starts_of b = map (little 4) (entries 8 (length b / 8) b)

-- a mark: from a start to an end
pub record Mark : Type 0 where
  pub start : ℕ
  pub end : ℕ

abbrev pub mark_of : List ℕ → Mark
mark_of e = record { start = little 4 e; end = little 4 (drop 4 e) }

abbrev pub marks_of : List ℕ → List Mark
marks_of b = map mark_of (entries 12 (length b / 12) b)

-- ---- what is asked of lists

-- the first, if there is one, is x
abbrev pub First : ℕ → List ℕ → Type 0
First x [] = Unit {0}
First x (y ∷ ys) = y ≡ x

-- each is above the one before
abbrev pub Above : ℕ → List ℕ → Type 0
Above x [] = Unit {0}
Above x (y ∷ ys) = (x < y) × Above y ys

abbrev pub Rise : List ℕ → Type 0
Rise [] = Unit {0}
Rise (x ∷ xs) = Above x xs

-- each is below a bound
abbrev pub Below : ℕ → List ℕ → Type 0
Below bound [] = Unit {0}
Below bound (x ∷ xs) = (x < bound) × Below bound xs

-- start at most end, end at most count
abbrev pub MarksWithin : ℕ → List Mark → Type 0
MarksWithin count [] = Unit {0}
MarksWithin count (m ∷ ms) = (m.start ≤ m.end) × ((m.end ≤ count) × MarksWithin count ms)

-- at least 15 + 2 x length bytes
pub record LongEnough (b : List ℕ) : Type 0 where
  pub fixed : 15 ≤ length b
  pub command : 15 + 2 * little 2 (drop 9 b) ≤ length b

-- the nth control header under the nth code is long enough where the code is 3
abbrev pub Fields : List ℕ → List (List ℕ) → Type 0
Fields [] bs = Unit {0}
Fields (c ∷ cs) [] = Unit {0}
Fields (c ∷ cs) (b ∷ bs) = (c ≡ 3 → LongEnough b) × Fields cs bs

-- ---- the paragraph

-- a record that is there has a number above 0, and `each` bytes for each
pub record Sized (each number : ℕ) (b : List ℕ) : Type 0 where
  pub above : 0 < number
  pub bytes : length b ≡ each * number

pub record Keeps (v : View) : Type 0 where
  -- the body of the header has 22 bytes or more
  pub header-long : 22 ≤ length v.head
  -- text: 2 x count bytes; with count 0 absent, with count 1 it may be absent
  pub text-absent : child kind.text v.own ≡ None → (counts_of v.head).count < 2
  pub text_sized : (b : List ℕ) → child kind.text v.own ≡ Some b → Sized 2 (counts_of v.head).count b
  pub text_sound : (b : List ℕ) → child kind.text v.own ≡ Some b → SoundText (units b)
  -- character shapes: always present and at least one, 8 bytes each; the first start is 0, starts strictly rise, each is below the
  -- count (below 1 when the count is 0)
  pub shapes_there : child kind.shapes v.own ≡ None → ⊥
  pub shapes_sized : (b : List ℕ) → child kind.shapes v.own ≡ Some b → Sized 8 (counts_of v.head).shapes b
  pub shapes_first : First 0 (starts_of (bytes_in (child kind.shapes v.own)))
  pub shapes_rise : Rise (starts_of (bytes_in (child kind.shapes v.own)))
  pub shapes-below : Below (max 1 (counts_of v.head).count) (starts_of (bytes_in (child kind.shapes v.own)))
  -- line layout: present exactly if lines is above 0; its body is not examined
  pub layout-absent : child kind.layout v.own ≡ None → (counts_of v.head).lines ≡ 0
  pub layout_there : (b : List ℕ) → child kind.layout v.own ≡ Some b → 0 < (counts_of v.head).lines
  -- marks: present exactly if marks is above 0, 12 bytes each; start at most end, end at most count
  pub marks-absent : child kind.marks v.own ≡ None → (counts_of v.head).marks ≡ 0
  pub marks_sized : (b : List ℕ) → child kind.marks v.own ≡ Some b → Sized 12 (counts_of v.head).marks b
  pub marks-within : MarksWithin (counts_of v.head).count (marks_of (bytes_in (child kind.marks v.own)))
  -- the numbers of extended controls and of control headers are equal; under code 3 the header is long enough
  pub controls_equal : extended_count (units (bytes_in (child kind.text v.own))) ≡ length (controls v.own)
  pub fields-long : Fields (codes_in (tokens (units (bytes_in (child kind.text v.own))))) (controls v.own)
