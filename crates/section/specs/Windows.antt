-- A mirror of the code of the passes by windows, of which nothing has to be believed: a pass judges the records whose depth is in a window, and
-- windows are joined (`first_join` in proofs/FirstLaws.antt).
use Rattle.std.specs.Prelude.{ℕ, ◌+◌, ◌-◌, min, max, Bool, cond, ◌&&◌, List, [], ◌∷◌, ltb, leb, None, Option, Some}
use Rattle.records.specs.Records.{Rec, size}

-- from lo up to and not including hi
abbrev pub between : ℕ → ℕ → ℕ → Bool
between lo hi d = leb lo d && ltb d hi

-- where a depth stands among the n from lo on
abbrev pub index_of : ℕ → ℕ → ℕ → Option ℕ
index_of n lo d = cond (between lo (lo + n) d) (Some (d - lo)) None

-- the least place of a record whose depth is in the window and of which the test holds, by the records before it (the nearest first) and behind
-- it; e where there is none. The first of the records stands at `at`
unfoldable pub first_in : (Rec → ℕ) → (List Rec → Rec → List Rec → Bool) → ℕ → ℕ → ℕ → ℕ → List Rec → List Rec → ℕ
first_in depth test lo hi e at earlier [] = e
first_in depth test lo hi e at earlier (r ∷ rs) =
    min (cond (between lo hi (depth r) && test earlier r rs) at e) (first_in depth test lo hi e (at + size r) (r ∷ earlier) rs)

-- the greatest level, from m on
unfoldable pub deepest_from : ℕ → List Rec → ℕ
deepest_from m [] = m
deepest_from m (r ∷ rs) = deepest_from (max m r.level) rs

-- of two the one whose place is first
abbrev pub sooner : {A : Type 0} → (A → ℕ) → Option A → Option A → Option A
sooner place None b = b
sooner place (Some x) None = Some x
sooner place (Some x) (Some y) = cond (ltb (place x) (place y)) (Some x) (Some y)
