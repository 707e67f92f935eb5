-- The laws of fill: who may be filled, what its sheet comes to, and the call over a stream. Assumes nothing.
use Rattle.std.specs.Prelude.{Err, Ok}
use Prim.Native.Nat.{ℕ, ◌≤◌, ◌<◌, min}
use native.Mathlib.Omega.{arith}
use native.Mathlib.Nat.{zero-add}
use mathlib.Core.Path.{◌≡◌, refl, sym, ap, ◌∙◌, subst}
use mathlib.Core.Bool.{Bool, true, false, cond}
use mathlib.Core.List.{List, [], ◌∷◌}
use lib.ListN.{length, drop}
use lib.Seq.{sets-eq}
use lib.Dec.{eqb}
use Rattle.numbers.specs.Little.{Bytes}
use Rattle.records.specs.Records.{Rec, limit}
use Rattle.records.specs.Table.{written}
use Rattle.records.specs.Answers.{refused_at, Answer}
use Rattle.records.specs.declared.fault.Fault.TheVariants as F
use Rattle.records.specs.declared.fault.Refusal.{Refusal}
use Rattle.paragraph.specs.View.{view}
use Rattle.paragraph.specs.Stream.{records_in}
use Rattle.section.specs.Section.{check_answer}
use Rattle.filling.specs.Search as Search
use Rattle.filling.specs.Search.{Outcome, one, refused, search, hits}
use Rattle.filling.specs.Filling.{value_wrong, unmarked, fillable, sheet, fits, fill_answer, fill_bytes}
use Rattle.filling.proofs.AnswerLaws.{fits_not, fits_room, fits_all}
use Rattle.putting.specs.Putting.{Puts, largest}
use Rattle.orders.specs.Calls.{fill_of, sheet_of}
use Rattle.orders.specs.Promise.{Filled}
use Rattle.search.specs.Searching.{told, met_with}
use Rattle.search.specs.declared.seek.Met.{Met}
use Rattle.search.specs.declared.seek.Met.TheVariants as M
use Rattle.records.specs.Reading.{offset}
use Rattle.fields.specs.Outcomes.{refusal, plain_field, unmarked_field, fillable_field, leaves, hit_sheet, Searched}
use Rattle.search.specs.Accepted.{Searchable}
use Rattle.search.specs.declared.seek.Hit.{Hit}
use Rattle.search.proofs.AcceptLaws.{sectioned}
use Rattle.fields.proofs.LocateLaws.{searched_of, searched_cond, field_met, only_one, here_is}
use Rattle.writing.proofs.CallLaws.{sheet_of_is}
use Rattle.filling.proofs.OrderLaws.{value_right, fillable_wrong, fillable-right}

-- ---- who may be filled

-- a value that is wrong, and one that is not
module _ (value : List ℕ) (m : Met) where
  exit_wrong : value_wrong value ≡ true → refusal F.ValueWrong (offset 0) ≡ fillable_field value m
  unfolding fillable_field
  exit_wrong e = sym (rw e refl)

  exit_right : value_wrong value ≡ false → unmarked_field (plain_field m) ≡ fillable_field value m
  unfolding fillable_field
  exit_right e = sym (rw e refl)

-- which is that of a search
unmarked_searched : (o : Outcome) → unmarked_field (searched_of o) ≡ searched_of (unmarked o)
unfolding unmarked unmarked_field
unmarked_searched (one h) = sym (searched_cond (eqb h.marks 0) _ _)
unmarked_searched (refused f p) = refl

pub fillable_met : (id : ℕ) (value : List ℕ) (rs : List Rec) {m : Met} → m ≡ met_with M.Nothing (hits id 0 0 rs)
    → fillable_field value m ≡ searched_of (fillable id value rs)
unfolding search
fillable_met id value rs {m} e = go (value_wrong value) refl
  where
    go : (b : Bool) → value_wrong value ≡ b → fillable_field value m ≡ searched_of (fillable id value rs)
    go true q = sym (exit_wrong value m q) ∙ sym (ap searched_of (fillable_wrong id value rs q))
    go false q =
        sym (exit_right value m q) ∙ ap unmarked_field (field_met id rs e) ∙ unmarked_searched (search id rs) ∙ sym (ap searched_of (fillable-right id value rs q))

-- ---- a sheet of the bytes bs, measured as n, for the buffer out

module _ (bs out : List ℕ) (n : ℕ) (is : n ≡ min largest (length bs)) where
  pub sheet-long : limit < n → (refused_at F.SheetTooLong 0 ≡ fits (length bs) (length out)) × (out ≡ written (leaves (refused_at F.SheetTooLong 0) bs) out)
  sheet-long h = (sym (fits_not (length bs) (length out) (omega arith)), refl)

  pub sheet_roomless : n ≤ limit → length out < n
      → (refused_at F.BufferTooShort 0 ≡ fits (length bs) (length out)) × (out ≡ written (leaves (refused_at F.BufferTooShort 0) bs) out)
  sheet_roomless h k = (sym (fits_room (length bs) (length out) (omega arith) (omega arith)), refl)

  pub sheet-put : (next : ℕ) (after : List ℕ) → n ≤ limit → n ≤ length out → Puts out 0 bs next after
      → (Ok n ≡ fits (length bs) (length out)) × (after ≡ written (leaves (Ok n) bs) out)
  sheet-put next after h k p =
      let e : n ≡ length bs = omega arith in (
        ap Ok e ∙ sym (fits_all (length bs) (length out) (omega arith) (omega arith)),
        p.after_is ∙ sets-eq bs out 0 (omega arith) ∙ simp zero-add,
      )

-- with the answer that tells them
pub told-long : (bs out : List ℕ) (n : ℕ) → n ≡ min largest (length bs) → (r : Answer) → r ≡ refused_at F.SheetTooLong 0 → limit < n
    → (r ≡ fits (length bs) (length out)) × (out ≡ written (leaves r bs) out)
told-long bs out n is r e h = rw e (sheet-long bs out n is h)

pub told_roomless : (bs out : List ℕ) (n : ℕ) → n ≡ min largest (length bs) → (r : Answer) → r ≡ refused_at F.BufferTooShort 0 → n ≤ limit → length out < n
    → (r ≡ fits (length bs) (length out)) × (out ≡ written (leaves r bs) out)
told_roomless bs out n is r e h k = rw e (sheet_roomless bs out n is h k)

-- its refusals
pub ruleset put_laws = (told-long, told_roomless)

-- ---- the fill of a sound section, by what was found

abbrev Outcomes : ℕ → List ℕ → List Rec → List ℕ → Answer → List ℕ → Type 0
Outcomes id value rs out r after = (r ≡ fill_answer id value rs (length out)) × (after ≡ written (fill_bytes id value rs (length out)) out)

module _ (id : ℕ) (value : List ℕ) (rs : List Rec) (out : List ℕ) (x : Searched) (is : x ≡ searched_of (fillable id value rs)) where
  pub fill_refused : (r : Refusal) → x ≡ Err r → Outcomes id value rs out (Err r) out
  unfolding fill_answer fill_bytes
  fill_refused r e = go (fillable id value rs) refl
    where
      go : (o : Outcome) → fillable id value rs ≡ o → Outcomes id value rs out (Err r) out
      go (one h) q = absurd (let z : ◌≡◌ {A = ℕ} 0 1 = cc in omega arith)
      go (refused f p) q =
          let same : record { fault = f; place = record { 0 = p } } ≡ r = cc in
          (sym (rw (q, fill_answer) (ap Err same)), rw (q, fill_bytes) refl)

  -- the hit whose sheet is the section's
  pub fill_one : (h : Hit) (s : List ℕ) (r : Answer) (after : List ℕ) → x ≡ Ok h
      → ((k : Search.Hit) → fillable id value rs ≡ one k → hit_sheet (told k) value s ≡ sheet k value rs)
      → (r ≡ fits (length (hit_sheet h value s)) (length out)) × (after ≡ written (leaves r (hit_sheet h value s)) out)
      → Outcomes id value rs out r after
  unfolding fill_answer fill_bytes
  fill_one h s r after e whole put = go (fillable id value rs) refl
    where
      left_by : (k : Search.Hit) → fillable id value rs ≡ one k → (a : Answer) → a ≡ fits (length (sheet k value rs)) (length out)
          → leaves a (sheet k value rs) ≡ fill_bytes id value rs (length out)
      left_by k q (Ok n) w = rw (q, fill_bytes, ← w) refl
      left_by k q (Err z) w = rw (q, fill_bytes, ← w) refl

      go : (o : Outcome) → fillable id value rs ≡ o → Outcomes id value rs out r after
      go (one k) q =
          let same : told k ≡ h = cc in
          let the-sheet : hit_sheet h value s ≡ sheet k value rs = ap (λ (y : Hit). hit_sheet y value s) (sym same) ∙ whole k q in
          let answer : r ≡ fits (length (sheet k value rs)) (length out) = put.0 ∙ ap (λ (b : List ℕ). fits (length b) (length out)) the-sheet in
          let left : leaves r (sheet k value rs) ≡ fill_bytes id value rs (length out) = left_by k q r answer in (
            rw (q, fill_answer) answer,
            put.1 ∙ ap (λ (b : List ℕ). written b out) (ap (leaves r) the-sheet ∙ left),
          )
      go (refused f p) q = absurd (let z : ◌≡◌ {A = ℕ} 0 1 = cc in omega arith)

-- ---- the sheet that is written for a hit is the section's

unmarked_one : (o : Outcome) (k : Search.Hit) → unmarked o ≡ one k → o ≡ one k
unfolding unmarked
unmarked_one (one h) k e = go (eqb h.marks 0) e
  where
    go : (b : Bool) → cond b (one h) (refused F.MarksInParagraph h.header) ≡ one k → one h ≡ one k
    go true q = q
    go false q = absurd (let z : ◌≡◌ {A = ℕ} 0 1 = cc in omega arith)
unmarked_one (refused f p) k e = absurd (let z : ◌≡◌ {A = ℕ} 0 1 = cc in omega arith)

fillable_found : (id : ℕ) (value : List ℕ) (rs : List Rec) (k : Search.Hit) → fillable id value rs ≡ one k → (value_wrong value ≡ false) × (search id rs ≡ one k)
unfolding search
fillable_found id value rs k e = go (value_wrong value) refl
  where
    go : (b : Bool) → value_wrong value ≡ b → (value_wrong value ≡ false) × (search id rs ≡ one k)
    go true q = absurd (let y = sym (fillable_wrong id value rs q) ∙ e in let z : ◌≡◌ {A = ℕ} 0 1 = cc in omega arith)
    go false q = (q, unmarked_one (search id rs) k (sym (fillable-right id value rs q) ∙ e))

pub hit_sheet_lem : (s : List ℕ) (id : ℕ) (value : List ℕ) → Searchable s → length s ≤ limit → Bytes s → (k : Search.Hit) → fillable id value (records_in s) ≡ one k
    → hit_sheet (told k) value s ≡ sheet k value (records_in s)
unfolding search view
hit_sheet_lem s id value a small bs k e =
    let f = fillable_found id value (records_in s) k e in
    let o = only_one (hits id 0 0 (records_in s)) k f.1 in
    let l = here_is s bs id k a o.0 in
    let head : 22 ≤ length l.rec.body = l.keeps.header-long in
    let short = (value_right value f.0).short in
    sheet_of_is s bs a.whole (omega arith) id k [] o.0 value (omega arith)
    (λ r rs q.
    let same : r ∷ rs ≡ l.rec ∷ l.rs = sym q ∙ ap (λ (p : ℕ). records_in (drop p s)) l.place_is ∙ l.stands in
    let first : r ≡ l.rec = cc in
    subst (λ (x : Rec). 22 ≤ length x.body) (sym first) head)

-- ---- the call over a stream

module _ (s : List ℕ) (id : ℕ) (value out : List ℕ) (x : Answer) (is : x ≡ check_answer s) where
  pub call_accepted : (n : ℕ) (r : Answer) (after : List ℕ) → Bytes s → x ≡ Ok n → Outcomes id value (records_in s) out r after
      → Filled s id value out r after
  unfolding fill_of sheet_of
  call_accepted n r after bs e put =
      let g = sectioned s bs n (sym is ∙ e) in
      let c : check_answer s ≡ Ok n = sym is ∙ e in
      record {
        answer = put.0 ∙ ap (λ (rs : List Rec). fill_answer id value rs (length out)) g.records ∙ sym (rw c refl);
        sheet = put.1 ∙ ap (λ (rs : List Rec). written (fill_bytes id value rs (length out)) out) g.records ∙ sym (rw (c, sheet_of) refl);
      }

  pub call_refused : (r : Refusal) → x ≡ Err r → Filled s id value out (Err r) out
  unfolding fill_of sheet_of
  call_refused r e = let c : check_answer s ≡ Err r = sym is ∙ e in record { answer = sym (rw c refl); sheet = sym (rw (c, sheet_of) refl) }
