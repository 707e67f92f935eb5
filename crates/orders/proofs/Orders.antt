-- Fill over a stream by its definition, as the theorems over its promise (Promises) use it: two fills of different ids give the same sheet in both turns; where one turn is accepted, the other is stopped by 25 or 26 only. Assumes nothing.
use Rattle.std.specs.Prelude.{Err, Ok}
use mathlib.Core.Path.{◌≡◌, refl, sym, ap, ◌∙◌}
use mathlib.Core.Logic.{◌⊎◌, inl, inr}
use Prim.Native.Nat.{ℕ, ◌≤◌}
use native.Mathlib.Omega.{arith}
use mathlib.Core.Bool.{true}
use mathlib.Core.List.{List}
use lib.ListN.{length}
use Rattle.numbers.specs.Little.{Bytes}
use Rattle.records.specs.Records.{Rec, limit, encode}
use Rattle.records.specs.Reading.{read_all}
use Rattle.records.specs.Answers.{refused_at, Answer}
use Rattle.records.specs.declared.fault.Fault.{Fault}
use Rattle.text.proofs.Cases.{lt_or}
use Rattle.section.specs.Section.{check_answer}
use Rattle.filling.specs.Search.{Hit, Outcome, one, refused}
use Rattle.filling.specs.Filling.{fillable, filled, sheet, fits, fill_answer, fill_bytes}
use Rattle.filling.specs.Accepted.{Accepted}
use Rattle.filling.specs.Placing.{Leaves}
use Rattle.filling.proofs.AnswerLaws.{fits_not, fits_room, fits_all}
use Rattle.filling.proofs.OrderLaws.{done, fillable_done, done_before, both_orders}
use Rattle.filling.proofs.AcceptedLaws.{ready, layout-leaves, accepted_filled}
use Rattle.orders.specs.Calls.{after_section, fill_of, sheet_of, lacks_room}
use Rattle.orders.proofs.CheckLaws.{Checked, checked, read_back, checks}

-- ---- fill's answer, by what its search finds

module _ (id : ℕ) (w : List ℕ) (rs : List Rec) (room : ℕ) where
  pub answer_one : (h : Hit) → fillable id w rs ≡ one h → fill_answer id w rs room ≡ fits (length (encode (filled h w rs))) room
  unfolding fill_answer sheet
  answer_one h e = rw (e, fill_answer)

  pub answer_refused : (f : Fault) (p : ℕ) → fillable id w rs ≡ refused f p → fill_answer id w rs room ≡ refused_at f p
  unfolding fill_answer
  answer_refused f p e = rw (e, fill_answer)

  bytes_one : (h : Hit) (n : ℕ) → fillable id w rs ≡ one h → fits (length (encode (filled h w rs))) room ≡ Ok n
      → fill_bytes id w rs room ≡ encode (filled h w rs)
  unfolding fill_bytes sheet
  bytes_one h n e q = rw (e, fill_bytes, q)

-- a sheet fits, or it lacks room
fits_or : (n room : ℕ) → ((fits n room ≡ Ok n) × (n ≤ limit)) ⊎ (lacks_room (fits n room) ≡ true)
fits_or n room = elim (lt_or limit n) [
  | inl h ↦ inr (rw (fits_not n room h))
  | inr h ↦ elim (lt_or room n) [
    | inl k ↦ inr (rw (fits_room n room h k))
    | inr k ↦ inl (fits_all n room h k, h)
  ]
]

pub fits_accepted : (n m room : ℕ) → fits n room ≡ Ok m → (m ≡ n) × (n ≤ limit)
fits_accepted n m room e = elim (lt_or limit n) [
  | inl h ↦ absurd (let q = fits_not n room h in let z : ◌≡◌ {A = ℕ} 0 1 = cc in omega arith)
  | inr h ↦ elim (lt_or room n) [
    | inl k ↦ absurd (let q = fits_room n room h k in let z : ◌≡◌ {A = ℕ} 0 1 = cc in omega arith)
    | inr k ↦ (let q = fits_all n room h k in (cc, h))
  ]
]

-- what an accepted fill of the records of an accepted section did
pub record Made (id : ℕ) (w : List ℕ) (rs : List Rec) (room n : ℕ) : Type 0 where
  pub hit : Hit
  pub found : fillable id w rs ≡ one hit
  pub number : n ≡ length (encode (filled hit w rs))
  pub short : length (encode (filled hit w rs)) ≤ limit
  pub bytes : fill_bytes id w rs room ≡ encode (filled hit w rs)

pub was_made : (id : ℕ) (w : List ℕ) (rs : List Rec) (room n : ℕ) → fill_answer id w rs room ≡ Ok n → Made id w rs room n
was_made id w rs room n e = go (fillable id w rs) refl
  where
    go : (o : Outcome) → fillable id w rs ≡ o → Made id w rs room n
    go (one h) q =
        let a : fits (length (encode (filled h w rs))) room ≡ Ok n = sym (answer_one id w rs room h q) ∙ e in
        let f = fits_accepted (length (encode (filled h w rs))) n room a in
        record { hit = h; found = q; number = f.0; short = f.1; bytes = bytes_one id w rs room h n q a }
    go (refused f p) q = absurd (let a = answer_refused id w rs room f p q in let z : ◌≡◌ {A = ℕ} 0 1 = cc in omega arith)

-- ---- the call over a stream is fill over its records

module _ (rs : List Rec) (a : Accepted rs) (id : ℕ) (w : List ℕ) (room : ℕ) where
  call_is : fill_of (encode rs) id w room ≡ fill_answer id w rs room
  unfolding fill_of
  call_is = rw (checks rs a, read_back rs a)

  sheet-is : sheet_of (encode rs) id w room ≡ fill_bytes id w rs room
  unfolding sheet_of
  sheet-is = rw (checks rs a, read_back rs a, sheet_of)

-- an accepted call is over the encoding of an accepted section
section_of : (s : List ℕ) (id : ℕ) (w : List ℕ) (room n : ℕ) → Bytes s → fill_of s id w room ≡ Ok n → Checked s
unfolding fill_of
section_of s id w room n bs e = go (check_answer s) refl e
  where
    go : (c : Answer) → check_answer s ≡ c → after_section c (fill_answer id w (read_all s).recs room) ≡ Ok n → Checked s
    go (Ok m) q d = checked s m bs q
    go (Err r) q d = absurd (let z : ◌≡◌ {A = ℕ} 0 1 = cc in omega arith)

-- ---- over the records of an accepted section

module _ (rs : List Rec) (a : Accepted rs) where
  leaves_of : Leaves rs
  leaves_of = layout-leaves rs a

  -- the records after an accepted fill are again those of an accepted section
  pub accepted_after : (id : ℕ) (w : List ℕ) (room n : ℕ) → Bytes w → (f : Made id w rs room n) → Accepted (filled f.hit w rs)
  accepted_after id w room n bw f = accepted_filled id w rs f.hit a (done id w rs f.hit f.found) bw f.short

  -- where the second fill is accepted after the first, it may be done before it, and both orders meet
  pub record Turned (id id' : ℕ) (w u : List ℕ) (h k : Hit) : Type 0 where
    pub first : Hit
    pub first_is : fillable id' u rs ≡ one first
    pub second : Hit
    pub second_is : fillable id w (filled first u rs) ≡ one second
    pub same : filled k u (filled h w rs) ≡ filled second w (filled first u rs)

  pub turned : (id id' : ℕ) → (id ≡ id' → ⊥) → (w u : List ℕ) (h k : Hit) → fillable id w rs ≡ one h → fillable id' u (filled h w rs) ≡ one k
      → Turned id id' w u h k
  turned id id' ne w u h k e e' =
      let d = done id w rs h e in
      let p = done_before id id' w rs h leaves_of (ready rs a) d u k (done id' u (filled h w rs) k e') in
      let q = fillable_done id' u rs p.0 p.1 in
      let b = both_orders id id' ne w u rs h p.0 leaves_of (ready rs a) e q in
      let s : b.second ≡ k = (let x = b.second_is in cc) in
      record { first = p.0; first_is = q; second = b.second'; second_is = b.second'_is; same = ap (λ (x : Hit). filled x u (filled h w rs)) (sym s) ∙ b.same }

-- ---- the theorems, over streams

-- what is known of an accepted call
pub record Call (s : List ℕ) (id : ℕ) (w : List ℕ) (room n : ℕ) : Type 0 where
  pub rs : List Rec
  pub section : Accepted rs
  pub stream : encode rs ≡ s
  pub fill : Made id w rs room n
  pub sheet : sheet_of s id w room ≡ encode (filled fill.hit w rs)

pub call : (s : List ℕ) (id : ℕ) (w : List ℕ) (room n : ℕ) → Bytes s → fill_of s id w room ≡ Ok n → Call s id w room n
call s id w room n bs e =
    let c = section_of s id w room n bs e in
    let k : fill_answer id w (read_all s).recs room ≡ Ok n
    = sym (call_is (read_all s).recs c.accepted id w room) ∙ ap (λ (t : List ℕ). fill_of t id w room) c.stream ∙ e in
    let f = was_made id w (read_all s).recs room n k in
    record {
      rs = (read_all s).recs;
      section = c.accepted;
      stream = c.stream;
      fill = f;
      sheet = ap (λ (t : List ℕ). sheet_of t id w room) (sym c.stream) ∙ sheet-is (read_all s).recs c.accepted id w room ∙ f.bytes;
    }

-- two fills, one after the other, the second over the first one's sheet
pub record InTurn (s : List ℕ) (id : ℕ) (w : List ℕ) (id' : ℕ) (u : List ℕ) (room room' n n' : ℕ) : Type 0 where
  pub first : fill_of s id w room ≡ Ok n
  pub second : fill_of (sheet_of s id w room) id' u room' ≡ Ok n'

-- what the other order comes to: refused by 25 or 26, or accepted with the same sheet of the same length
pub data OtherTurn (s : List ℕ) (id : ℕ) (w : List ℕ) (id' : ℕ) (u : List ℕ) (room room' n' : ℕ) (made : List ℕ) : Type 0 where
  first_lacks : lacks_room (fill_of s id' u room) ≡ true → OtherTurn s id w id' u room room' n' made
  second_lacks : (m : ℕ) → fill_of s id' u room ≡ Ok m → lacks_room (fill_of (sheet_of s id' u room) id w room') ≡ true
      → OtherTurn s id w id' u room room' n' made
  accepted : (m : ℕ) → fill_of s id' u room ≡ Ok m → fill_of (sheet_of s id' u room) id w room' ≡ Ok n'
      → sheet_of (sheet_of s id' u room) id w room' ≡ made → OtherTurn s id w id' u room room' n' made

module _ (s : List ℕ) (id id' : ℕ) (ne : id ≡ id' → ⊥) (w u : List ℕ) (bs : Bytes s) (bw : Bytes w) (bu : Bytes u) where
  -- the second call of an order, over the records of the first one's sheet
  record Pair (room room' n n' : ℕ) : Type 0 where
    one : Call s id w room n
    two : Made id' u (filled one.fill.hit w one.rs) room' n'
    made : sheet_of (sheet_of s id w room) id' u room' ≡ encode (filled two.hit u (filled one.fill.hit w one.rs))

  pair : (room room' n n' : ℕ) → InTurn s id w id' u room room' n n' → Pair room room' n n'
  pair room room' n n' o =
      let c = call s id w room n bs o.first in
      let out = filled c.fill.hit w c.rs in
      let a = accepted_after c.rs c.section id w room n bw c.fill in
      let k : fill_answer id' u out room' ≡ Ok n'
      = sym (call_is out a id' u room') ∙ ap (λ (t : List ℕ). fill_of t id' u room') (sym c.sheet) ∙ o.second in
      let f = was_made id' u out room' n' k in
      record {
        one = c;
        two = f;
        made = ap (λ (t : List ℕ). sheet_of t id' u room') c.sheet ∙ sheet-is out a id' u room' ∙ f.bytes;
      }

  -- the other order, over the records of an accepted section
  module _ (rs : List Rec) (a : Accepted rs) (h k : Hit) (t : Turned rs a id id' w u h k) (made : List ℕ) (n' : ℕ)
      (is : made ≡ encode (filled k u (filled h w rs))) (long : n' ≡ length (encode (filled k u (filled h w rs)))) (r r' : ℕ) where
    second_turn : (m : ℕ) → m ≡ length (encode (filled t.first u rs)) → fill_of (encode rs) id' u r ≡ Ok m
        → sheet_of (encode rs) id' u r ≡ encode (filled t.first u rs) → Accepted (filled t.first u rs) → OtherTurn (encode rs) id w id' u r r' n' made
    second_turn m e f g b =
        let out = filled t.first u rs in
        let q : fill_of (sheet_of (encode rs) id' u r) id w r' ≡ fits (length (encode (filled t.second w out))) r'
        = ap (λ (x : List ℕ). fill_of x id w r') g ∙ call_is out b id w r' ∙ answer_one id w out r' t.second t.second_is in
        elim (fits_or (length (encode (filled t.second w out))) r') [
          | inr l ↦ second_lacks m f (ap lacks_room q ∙ l)
          | inl l ↦ accepted m f
              (q ∙ l.0 ∙ ap Ok (sym (long ∙ ap (λ (x : List Rec). length (encode x)) t.same)))
              (ap (λ (x : List ℕ). sheet_of x id w r') g ∙ sheet-is out b id w r' ∙ bytes_one id w out r' t.second _ t.second_is l.0
              ∙ ap encode (sym t.same) ∙ sym is)
        ]

    other_order : OtherTurn (encode rs) id w id' u r r' n' made
    other_order =
        let out = filled t.first u rs in
        let q : fill_of (encode rs) id' u r ≡ fits (length (encode out)) r = call_is rs a id' u r ∙ answer_one id' u rs r t.first t.first_is in
        elim (fits_or (length (encode out)) r) [
          | inr l ↦ first_lacks (ap lacks_room q ∙ l)
          | inl l ↦ second_turn (length (encode out)) refl (q ∙ l.0) (sheet-is rs a id' u r ∙ bytes_one id' u rs r t.first _ t.first_is l.0)
              (accepted_filled id' u rs t.first a (done id' u rs t.first t.first_is) bu l.1)
        ]

  -- where one turn is accepted, the other is refused by 25 or 26 only, or gives the same sheet; whatever the rooms
  pub turns : (room room' n n' r r' : ℕ) → InTurn s id w id' u room room' n n'
      → OtherTurn s id w id' u r r' n' (sheet_of (sheet_of s id w room) id' u room')
  turns room room' n n' r r' o =
      let p = pair room room' n n' o in
      let t = turned p.one.rs p.one.section id id' ne w u p.one.fill.hit p.two.hit p.one.fill.found p.two.found in
      carry (encode p.one.rs) p.one.stream (sheet_of (sheet_of s id w room) id' u room')
      (other_order p.one.rs p.one.section p.one.fill.hit p.two.hit t (sheet_of (sheet_of s id w room) id' u room') n' p.made p.two.number r r')
    where
      carry : (x : List ℕ) → x ≡ s → (made : List ℕ) → OtherTurn x id w id' u r r' n' made → OtherTurn s id w id' u r r' n' made
      carry x e made c = rw e at c

  -- the second sheet is as long as its fill tells
  pub second_length : (room room' n n' : ℕ) → InTurn s id w id' u room room' n n' → n' ≡ length (sheet_of (sheet_of s id w room) id' u room')
  second_length room room' n n' o = let p = pair room room' n n' o in p.two.number ∙ sym (ap length p.made)
