-- Every place that a search or a fill names stands among the records, and a sheet's length is within the limit. Assumes nothing.
use mathlib.Core.Path.{◌≡◌, refl}
use Prim.Native.Nat.{ℕ, suc, ◌+◌, ◌≤◌}
use native.Mathlib.Omega.{arith}
use mathlib.Core.Logic.{inl, inr}
use mathlib.Core.Bool.{Bool, true, false, cond}
use mathlib.Core.List.{List, [], ◌∷◌, ◌++◌, map}
use lib.Dec.{eqb}
use lib.ListN.{length}
use Rattle.records.specs.Records.{Rec, limit, encode, size}
use Rattle.records.specs.Answers.{place}
use Rattle.records.specs.declared.fault.Fault.TheVariants as F
use Rattle.records.proofs.ScanLaws.{length-encode}
use Rattle.text.proofs.Cases.{eq_or, lt_or}
use Rattle.paragraph.specs.View.{view}
use Rattle.paragraph.proofs.NearLaws.{found_near}
use Rattle.filling.specs.Fields.{Field, fields, with_id}
use Rattle.filling.specs.Search.{Hit, hit_of, hits, Outcome, one, refused, outcome, search}
use Rattle.filling.specs.Filling.{value_wrong, unmarked, fillable, sheet, fits, fill_answer}
use Rattle.filling.proofs.SearchLaws.{hits_here, hits_past}
use Rattle.filling.proofs.AnswerLaws.{fits_not, fits_room, fits_all}

-- ---- the search

-- the paragraph header and the control header of each stand at `end` or before it
abbrev AllNear : ℕ → List Hit → Type 0
AllNear end [] = Unit {0}
AllNear end (h ∷ hs) = (h.header ≤ end) × (h.control ≤ end) × AllNear end hs

near_append : (end : ℕ) (x y : List Hit) → AllNear end x → AllNear end y → AllNear end (x ++ y)
near_append end [] y p q = q
near_append end (h ∷ x) y p q = (p.0, p.1, near_append end x y p.2 q)

near_here : (i at end : ℕ) (r : Rec) (rs : List Rec) (fs : List Field) → at + length (encode (r ∷ rs)) ≤ end → AllNear end (map (hit_of i at r rs) fs)
unfolding hit_of
near_here i at end r rs [] h = tt
near_here i at end r rs (f ∷ fs) h = (
  omega (arith, h),
  omega (arith, h, length-encode r rs, found_near (suc r.level) 71 f.ordinal (at + size r) 0 rs (omega arith)),
  near_here i at end r rs fs h,
)

hits_near : (id i at end : ℕ) (rs : List Rec) → at + length (encode rs) ≤ end → AllNear end (hits id i at rs)
hits_near id i at end [] h = unfold hits in tt
hits_near id i at end (r ∷ rs) h = elim (eq_or r.tag 66) [
  | inl t ↦ rw (hits_here id i at r rs t)
      (near_append end (map (hit_of i at r rs) (with_id id (view r rs) (fields (view r rs)))) (hits id (suc i) (at + size r) rs)
      (near_here i at end r rs (with_id id (view r rs) (fields (view r rs))) h)
      (hits_near id (suc i) (at + size r) end rs (omega (arith, h, length-encode r rs))))
  | inr t ↦ rw (hits_past id i at r rs t) (hits_near id i (at + size r) end rs (omega (arith, h, length-encode r rs)))
]

-- the place that a refusal names, or that of the paragraph header
abbrev pub OutcomeNear : ℕ → Outcome → Type 0
OutcomeNear end (one h) = h.header ≤ end
OutcomeNear end (refused f p) = p ≤ end

outcome_near : (end : ℕ) (hs : List Hit) → AllNear end hs → OutcomeNear end (outcome hs)
unfolding outcome
outcome_near end [] a = omega arith
outcome_near end (h ∷ []) a = by h.field.plain
  where
    by : (b : Bool) → OutcomeNear end (cond b (one h) (refused F.FieldNotPlain h.control))
    by true = a.0
    by false = a.1
outcome_near end (h ∷ k ∷ hs) a = a.2.1

pub search_near : (id : ℕ) (rs : List Rec) → OutcomeNear (length (encode rs)) (search id rs)
unfolding search
search_near id rs = outcome_near (length (encode rs)) (hits id 0 0 rs) (hits_near id 0 0 (length (encode rs)) rs (omega arith))

-- ---- the fill

unmarked_near : (end : ℕ) (o : Outcome) → OutcomeNear end o → OutcomeNear end (unmarked o)
unfolding unmarked
unmarked_near end (one h) a = by (eqb h.marks 0)
  where
    by : (b : Bool) → OutcomeNear end (cond b (one h) (refused F.MarksInParagraph h.header))
    by true = a
    by false = a
unmarked_near end (refused f p) a = a

fillable_near : (id : ℕ) (value : List ℕ) (rs : List Rec) → OutcomeNear (length (encode rs)) (fillable id value rs)
fillable_near id value rs = by (value_wrong value) refl
  where
    by : (b : Bool) → value_wrong value ≡ b → OutcomeNear (length (encode rs)) (fillable id value rs)
    by true e = unfold fillable in rw (e, fillable) (omega arith)
    by false e = unfold fillable in rw (e, fillable) (unmarked_near (length (encode rs)) (search id rs) (search_near id rs))

fits_near : (n room : ℕ) → place (fits n room) ≤ limit
fits_near n room = elim (lt_or limit n) [
  | inl h ↦ rw (fits_not n room h) (omega arith)
  | inr h ↦ elim (lt_or room n) [ inl k ↦ rw (fits_room n room h k) (omega arith) | inr k ↦ rw (fits_all n room h k) h ]
]

pub fill_near : (id : ℕ) (value : List ℕ) (rs : List Rec) (room : ℕ) → length (encode rs) ≤ limit → place (fill_answer id value rs room) ≤ limit
fill_near id value rs room h = by (fillable id value rs) refl (fillable_near id value rs)
  where
    by : (o : Outcome) → fillable id value rs ≡ o → OutcomeNear (length (encode rs)) o → place (fill_answer id value rs room) ≤ limit
    by (one k) e a = unfold fill_answer in rw (e, fill_answer) (fits_near (length (sheet k value rs)) room)
    by (refused f p) e a = unfold fill_answer in rw (e, fill_answer) (omega (arith, a, h))
