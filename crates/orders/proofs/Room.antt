-- The room that a sheet takes: a fill is accepted with at most the section's length, the value's and four bytes more, and 26 is given only
-- where the buffer is shorter than that. Assumes nothing.
use Rattle.std.specs.Prelude.{Err, Ok}
use mathlib.Core.Path.{◌≡◌, refl, sym, ap, ◌∙◌}
use mathlib.Core.Logic.{inl, inr}
use Prim.Native.Nat.{ℕ, ◌+◌, ◌≤◌, ◌<◌}
use native.Mathlib.Omega.{arith}
use mathlib.Core.Bool.{Bool, true, false, cond}
use mathlib.Core.List.{List, [], ◌∷◌}
use lib.Dec.{eqb}
use lib.ListN.{length}
use Rattle.numbers.specs.Little.{Bytes}
use Rattle.records.specs.Records.{Rec, limit, encode}
use Rattle.records.specs.Reading.{read_all}
use Rattle.records.specs.Answers.{number_of, number, Answer}
use Rattle.records.specs.declared.fault.Fault.TheVariants as F
use Rattle.records.specs.declared.fault.Refusal.{Refusal}
use Rattle.text.proofs.Cases.{lt_or}
use Rattle.section.specs.Section.{check_answer}
use Rattle.acceptance.proofs.NeverSeven.{below_sixteen}
use Rattle.filling.specs.Search.{Hit, Outcome, one, refused, outcome, hits, search}
use Rattle.filling.specs.Filling.{value_wrong, unmarked, fillable, filled, fits, fill_answer}
use Rattle.filling.proofs.AnswerLaws.{fits_not, fits_all}
use Rattle.filling.proofs.OrderLaws.{done}
use Rattle.filling.proofs.LengthLaws.{sheet-long}
use Rattle.orders.specs.Calls.{after_section, fill_of}
use Rattle.orders.specs.Promise.{Filled}
use Rattle.orders.proofs.CheckLaws.{checked}
use Rattle.orders.proofs.Orders.{answer_one, answer_refused, fits_accepted}

-- ---- the refusals before a sheet is made are below 25

abbrev Below : Outcome → Type 0
Below (one h) = Unit {0}
Below (refused f p) = number_of f ≤ 24

below-outcome : (hs : List Hit) → Below (outcome hs)
unfolding outcome
below-outcome [] = omega arith
below-outcome (h ∷ []) = go h.field.plain
  where
    go : (t : Bool) → Below (cond t (one h) (refused F.FieldNotPlain h.control))
    go true = tt
    go false = omega arith
below-outcome (h ∷ k ∷ hs) = omega arith

below-unmarked : (o : Outcome) → Below o → Below (unmarked o)
unfolding unmarked
below-unmarked (one h) b = go (eqb h.marks 0)
  where
    go : (t : Bool) → Below (cond t (one h) (refused F.MarksInParagraph h.header))
    go true = tt
    go false = omega arith
below-unmarked (refused f p) b = b

below-fillable : (id : ℕ) (w : List ℕ) (rs : List Rec) → Below (fillable id w rs)
unfolding fillable search
below-fillable id w rs = go (value_wrong w) refl
  where
    go : (t : Bool) → value_wrong w ≡ t → Below (fillable id w rs)
    go true e = rw (e, fillable) (omega arith)
    go false e = rw (e, fillable) (below-unmarked (outcome (hits id 0 0 rs)) (below-outcome (hits id 0 0 rs)))

-- ---- what a fill comes to

-- a refusal before a sheet is made, or a sheet that is short enough, judged by its length
data Comes (s : List ℕ) (id : ℕ) (w : List ℕ) (room : ℕ) : Type 0 where
  before : (r : Refusal) → fill_of s id w room ≡ Err r → number_of r.fault ≤ 24 → Comes s id w room
  made : (n : ℕ) → fill_of s id w room ≡ fits n room → n ≤ length s + length w + 4 → Comes s id w room

comes : (s : List ℕ) (id : ℕ) (w : List ℕ) (room : ℕ) → Bytes s → Comes s id w room
unfolding fill_of
comes s id w room bs = go (check_answer s) refl
  where
    rs : List Rec
    rs = (read_all s).recs

    by : (m : ℕ) → check_answer s ≡ Ok m → (o : Outcome) → fillable id w rs ≡ o → Below o → Comes s id w room
    by m q (refused f p) e b = before _ (ap (λ (c : Answer). after_section c (fill_answer id w rs room)) q ∙ answer_refused id w rs room f p e) b
    by m q (one h) e b =
        let c = checked s m bs q in
        let l = sheet-long id w rs h c.accepted (done id w rs h e) in
        made (length (encode (filled h w rs))) (ap (λ (x : Answer). after_section x (fill_answer id w rs room)) q ∙ answer_one id w rs room h e)
        (omega (arith, l, ap length c.stream))

    go : (c : Answer) → check_answer s ≡ c → Comes s id w room
    go (Ok m) q = by m q (fillable id w rs) refl (below-fillable id w rs)
    go (Err r) q =
        before r (ap (λ (c : Answer). after_section c (fill_answer id w rs room)) q) (let b = below_sixteen s in omega (arith, ap number q))

-- ---- the theorems, over fill's promise

module _ (s : List ℕ) (id : ℕ) (w out : List ℕ) (r : Answer) (out' : List ℕ) (bs : Bytes s) (k : Filled s id w out r out') where
  -- the length that an accepted fill tells
  pub accepted_length : (n : ℕ) → r ≡ Ok n → n ≤ length s + length w + 4
  accepted_length n e = elim (comes s id w (length out) bs) [
    | before x q b ↦ absurd (let y = sym k.answer ∙ e in let z : ◌≡◌ {A = ℕ} 0 1 = cc in omega arith)
    | made m q l ↦ omega (arith, (fits_accepted m n (length out) (sym q ∙ sym k.answer ∙ e)).0, l)
  ]

  -- 26: the buffer was shorter than that
  pub short_buffer : number r ≡ 26 → length out < length s + length w + 4
  short_buffer e = elim (comes s id w (length out) bs) [
    | before x q b ↦ absurd (omega (arith, ap number (k.answer ∙ q), b, e))
    | made m q l ↦ elim (lt_or (length out) m) [
      | inl h ↦ omega (arith, l)
      | inr h ↦ absurd (elim (lt_or limit m) [
        | inl j ↦ omega (arith, e, ap number (k.answer ∙ q ∙ fits_not m (length out) j))
        | inr j ↦ omega (arith, e, ap number (k.answer ∙ q ∙ fits_all m (length out) j h))
      ])
    ]
  ]

  -- so a buffer of that length never gets 26
  pub enough_room : length s + length w + 4 ≤ length out → number r ≡ 26 → ⊥
  enough_room h e = omega (arith, short_buffer e)
