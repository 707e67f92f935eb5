-- The counts of record 17 and what they are matched with (document 01, 'DocInfo', tables 10 and 11; document 02, A4), over the width of a count.
use Rattle.std.specs.Prelude.{ℕ, zero, suc, ◌+◌, ◌*◌, Bool, true, false, cond, List, [], ◌∷◌, leb, ltb, eqb, length, drop, None, Option, Some}
use Rattle.numbers.specs.Little.{little, span}
use Rattle.records.specs.Records.{Rec}
use Rattle.docinfo.specs.declared.counts.Group.{Group}

-- one where the test holds, and else none
unfoldable pub once : Bool → ℕ
once true = 1
once false = 0

-- how many records have a tag
unfoldable pub tally : ℕ → List Rec → ℕ
tally t [] = 0
tally t (r ∷ rs) = once (eqb r.tag t) + tally t rs

-- the bits of count i, where each count has w bytes
unfoldable pub count_at : ℕ → List ℕ → ℕ → ℕ
count_at w body i = little w (drop (w * i) body)

-- signed: the upper half of what w bytes can hold is negative
unfoldable pub negative : ℕ → ℕ → Bool
negative w x = leb (span w) (2 * x)

-- the first negative count from i on, of k; one that is not there has no bits, and is not negative
unfoldable pub negative_from : ℕ → List ℕ → ℕ → ℕ → Option ℕ
negative_from w body i zero = None
negative_from w body i (suc k) = cond (negative w (count_at w body i)) (Some i) (negative_from w body (i + 1) k)

-- the sum of k counts from i on
unfoldable pub sum_from : ℕ → List ℕ → ℕ → ℕ → ℕ
sum_from w body i zero = 0
sum_from w body i (suc k) = count_at w body i + sum_from w body (i + 1) k

-- how many counts of record 17 are asked at most; later ones are ignored
abbrev pub counts_in : ℕ
counts_in = 16

-- the counts from `first` on, `many` of them, sum to the number of children with the tag
abbrev group : ℕ → ℕ → ℕ → Group
group first many tag = record { first = first; many = many; tag = tag }

-- count 0 is tag 18, counts 1 to 7 sum to tag 19, counts 8 to 14 are tags 20 to 26 in order, count 15 is tag 92
unfoldable pub groups : List Group
groups =
    group 0 1 18 ∷ group 1 7 19 ∷ group 8 1 20 ∷ group 9 1 21 ∷ group 10 1 22 ∷ group 11 1 23 ∷ group 12 1 24 ∷ group 13 1 25
    ∷ group 14 1 26 ∷ group 15 1 92 ∷ []

-- a group's counts sum to the number of children with its tag; where the body ends before they do, nothing is asked
unfoldable pub matched : ℕ → List ℕ → List Rec → Group → Bool
matched w body kids g =
    cond (ltb (length body) (w * (g.first + g.many))) true (eqb (sum_from w body g.first g.many) (tally g.tag kids))

-- the first count of the first group that is not matched
unfoldable pub unmatched : ℕ → List ℕ → List Rec → List Group → Option ℕ
unmatched w body kids [] = None
unmatched w body kids (g ∷ gs) = cond (matched w body kids g) (unmatched w body kids gs) (Some g.first)

-- one finding, and else the other
unfoldable pub or_else : Option ℕ → Option ℕ → Option ℕ
or_else None y = y
or_else (Some i) y = Some i

-- the count at fault, if there is one: the first that is negative, else the first in a group that is not matched
unfoldable pub count_fault : ℕ → List ℕ → List Rec → Option ℕ
count_fault w body kids = or_else (negative_from w body 0 counts_in) (unmatched w body kids groups)
