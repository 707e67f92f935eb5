-- What the promises of field text and fill come to, over the promises themselves (demands 2 and 3): a sheet is the first bytes of the buffer
-- that a fill left. Assumes nothing.
use Rattle.std.specs.Prelude.{Ok, Some, slice_get}
use Rattle.records.specs.Answers.{Answer}
use mathlib.Core.Path.{◌≡◌, sym, ap, ◌∙◌}
use Prim.Native.Nat.{ℕ}
use native.Mathlib.Omega.{arith}
use mathlib.Core.Bool.{Bool, true, cond}
use mathlib.Core.List.{List}
use lib.ListN.{length, take, drop}
use lib.Seq.{take_at}
use Rattle.numbers.specs.Little.{Bytes}
use Rattle.records.specs.Records.{Rec, encode}
use Rattle.records.specs.Reading.{Read, read_all}
use Rattle.records.specs.declared.fault.Fault.TheVariants as F
use Rattle.paragraph.specs.View.{View, views}
use Rattle.section.specs.Section.{check_answer}
use Rattle.filling.specs.Search.{Hit, one, refused, outcome, search}
use Rattle.filling.specs.Filling.{filled, text_answer, TextAnswer}
use Rattle.filling.specs.Accepted.{Accepted}
use Rattle.filling.proofs.OrderLaws.{Done, done}
use Rattle.filling.proofs.FieldTextLaws.{field_text}
use Rattle.filling.proofs.TemplateLaws as filling
use Rattle.filling.proofs.TemplateLaws.{FilledAlready}
use Rattle.orders.specs.Calls.{field_text_of, fill_of, sheet_of, lacks_room}
use Rattle.orders.specs.Promise.{Filled}
use Rattle.orders.proofs.CheckLaws.{read_back, checks}
use Rattle.orders.proofs.Orders.{Call, call, accepted_after, InTurn, first_lacks, second_lacks, accepted, turns, second_length}

-- the first n bytes that an accepted fill left are the sheet of its definition, where that has n bytes
front : (s : List ℕ) (id : ℕ) (w out : List ℕ) (n : ℕ) (out' : List ℕ) → Filled s id w out (Ok n) out'
    → n ≡ length (sheet_of s id w (length out)) → take n out' ≡ sheet_of s id w (length out)
front s id w out n out' k e =
    let x = sheet_of s id w (length out) in ap (take n) k.sheet ∙ take_at x (drop (length x) out) n (sym e)

-- ---- one fill

-- field text's answer r is the place of the value in the sheet, and its length
pub record Tells (r : TextAnswer) (value sheet : List ℕ) : Type 0 where
  pub place : ℕ
  pub answer : r ≡ Ok (record { place = record { 0 = place }; len = length value })
  pub bytes : take (length value) (drop place sheet) ≡ value

text_of : (rs : List Rec) → Accepted rs → (id : ℕ) → field_text_of (encode rs) id ≡ text_answer id rs
unfolding field_text_of
text_of rs a id = rw (checks rs a, read_back rs a)

search_one : (id : ℕ) (w : List ℕ) (rs : List Rec) (h : Hit) → Done id w rs h → search id rs ≡ one h
unfolding search outcome
search_one id w rs h d = rw (d.is, outcome) (ap (λ (b : Bool). cond b (one h) (refused F.FieldNotPlain h.control)) d.plain)

module _ (s : List ℕ) (id : ℕ) (w out : List ℕ) (n : ℕ) (out' : List ℕ) (bs : Bytes s) (bw : Bytes w) (k : Filled s id w out (Ok n) out') where
  did : Call s id w (length out) n
  did = call s id w (length out) n bs (sym k.answer)

  abbrev made : List Rec
  made = filled did.fill.hit w did.rs

  its_done : Done id w did.rs did.fill.hit
  its_done = done id w did.rs did.fill.hit did.fill.found

  long : n ≡ length (sheet_of s id w (length out))
  long = did.fill.number ∙ sym (ap length did.sheet)

  sheet-is : take n out' ≡ encode made
  sheet-is = front s id w out n out' k long ∙ did.sheet

  made_accepted : Accepted made
  made_accepted = accepted_after did.rs did.section id w (length out) n bw did.fill

  -- check accepts the sheet
  pub sheet_accepted : (r : Answer) → r ≡ check_answer (take n out') → (m : ℕ) × (r ≡ Ok m)
  sheet_accepted r e = (length made, e ∙ ap check_answer sheet-is ∙ checks made made_accepted)

  -- field text of the sheet, with the same id, is accepted, and the bytes it points to are the value
  pub sheet-text : (r : TextAnswer) → r ≡ field_text_of (take n out') id → Tells r w (take n out')
  sheet-text r e =
      let f = field_text id w did.rs did.fill.hit did.section its_done in
      record {
        place = f.place;
        answer = e ∙ ap (λ (x : List ℕ). field_text_of x id) sheet-is ∙ text_of made made_accepted id ∙ f.answer;
        bytes = ap (λ (x : List ℕ). take (length w) (drop f.place x)) sheet-is ∙ f.bytes;
      }

  -- the records of the section, and those of its sheet, where the sheet is the section
  read_is : (read_all s).recs ≡ did.rs
  read_is = ap (λ (x : List ℕ). (read_all x).recs) (sym did.stream) ∙ ap (λ (x : Read). x.recs) (read_back did.rs did.section)

  same-records : take n out' ≡ s → made ≡ did.rs
  same-records e =
      ap (λ (x : Read). x.recs) (sym (read_back made made_accepted)) ∙ ap (λ (x : List ℕ). (read_all x).recs) (sym sheet-is ∙ e) ∙ read_is

  -- the sheet is the template only when the one field with the id has the value already, with its count, and bit 15 set
  pub template_sheet : take n out' ≡ s → (h : Hit) → search id (read_all s).recs ≡ one h
      → (v : View) → slice_get (views (read_all s).recs) h.paragraph ≡ Some v → FilledAlready h.field w v
  template_sheet e h q v z =
      let found : one did.fill.hit ≡ one h = sym (search_one id w did.rs did.fill.hit its_done) ∙ ap (search id) (sym read_is) ∙ q in
      let same : did.fill.hit ≡ h = cc in
      ap_field same
      (filling.template_sheet id w did.rs did.fill.hit did.section its_done (same-records e) v
      (ap (λ (x : Hit). slice_get (views did.rs) x.paragraph) same ∙ ap (λ (rs : List Rec). slice_get (views rs) h.paragraph) (sym read_is) ∙ z))
    where
      ap_field : {x y : Hit} → x ≡ y → FilledAlready x.field w v → FilledAlready y.field w v
      ap_field e a = rw (← e) a

-- ---- two fills of different ids

-- one after the other, the second over the sheet that the first left
pub record InOrder (s : List ℕ) (id : ℕ) (w : List ℕ) (id' : ℕ) (u out₁ out₂ : List ℕ) (n₁ n₂ : ℕ) (left₁ left₂ : List ℕ) : Type 0 where
  pub first : Filled s id w out₁ (Ok n₁) left₁
  pub second : Filled (take n₁ left₁) id' u out₂ (Ok n₂) left₂

-- what the other order comes to, whose fills answer r₃ and r₄ and leave left₄: stopped by 25 or 26, or the same sheet of n₂ bytes
pub data Other (r₃ r₄ : Answer) (n₂ : ℕ) (left₂ left₄ : List ℕ) : Type 0 where
  first_stopped : lacks_room r₃ ≡ true → Other r₃ r₄ n₂ left₂ left₄
  second_stopped : (n₃ : ℕ) → r₃ ≡ Ok n₃ → lacks_room r₄ ≡ true → Other r₃ r₄ n₂ left₂ left₄
  same : (n₃ : ℕ) → r₃ ≡ Ok n₃ → r₄ ≡ Ok n₂ → take n₂ left₄ ≡ take n₂ left₂ → Other r₃ r₄ n₂ left₂ left₄

module _ (s : List ℕ) (id id' : ℕ) (ne : id ≡ id' → ⊥) (w u : List ℕ) (bs : Bytes s) (bw : Bytes w) (bu : Bytes u)
    (out₁ out₂ : List ℕ) (n₁ n₂ : ℕ) (left₁ left₂ : List ℕ) (o : InOrder s id w id' u out₁ out₂ n₁ n₂ left₁ left₂) where
  first_sheet : take n₁ left₁ ≡ sheet_of s id w (length out₁)
  first_sheet = front s id w out₁ n₁ left₁ o.first (long s id w out₁ n₁ left₁ bs bw o.first)

  turn : InTurn s id w id' u (length out₁) (length out₂) n₁ n₂
  turn =
      record {
        first = sym o.first.answer;
        second = ap (λ (x : List ℕ). fill_of x id' u (length out₂)) (sym first_sheet) ∙ sym o.second.answer;
      }

  last_length : n₂ ≡ length (sheet_of (sheet_of s id w (length out₁)) id' u (length out₂))
  last_length = second_length s id id' ne w u bs bw bu (length out₁) (length out₂) n₁ n₂ turn

  second_sheet : take n₂ left₂ ≡ sheet_of (sheet_of s id w (length out₁)) id' u (length out₂)
  second_sheet =
      front (take n₁ left₁) id' u out₂ n₂ left₂ o.second (last_length ∙ ap (λ (x : List ℕ). length (sheet_of x id' u (length out₂))) (sym first_sheet))
      ∙ ap (λ (x : List ℕ). sheet_of x id' u (length out₂)) first_sheet

  -- the other order, with any buffers; its second fill is asked only where its first was accepted
  module _ (out₃ out₄ : List ℕ) (r₃ r₄ : Answer) (left₃ left₄ : List ℕ) (third : Filled s id' u out₃ r₃ left₃)
      (fourth : (n₃ : ℕ) → r₃ ≡ Ok n₃ → Filled (take n₃ left₃) id w out₄ r₄ left₄) where
    third_sheet : (n₃ : ℕ) → r₃ ≡ Ok n₃ → take n₃ left₃ ≡ sheet_of s id' u (length out₃)
    third_sheet n₃ e =
        let k : Filled s id' u out₃ (Ok n₃) left₃ = record { answer = sym e ∙ third.answer; sheet = third.sheet } in
        front s id' u out₃ n₃ left₃ k (long s id' u out₃ n₃ left₃ bs bu k)

    fourth_answer : (n₃ : ℕ) → r₃ ≡ Ok n₃ → r₄ ≡ fill_of (sheet_of s id' u (length out₃)) id w (length out₄)
    fourth_answer n₃ e = (fourth n₃ e).answer ∙ ap (λ (x : List ℕ). fill_of x id w (length out₄)) (third_sheet n₃ e)

    -- demand 3: where one order is accepted, the other is stopped by 25 or 26 only, or gives the same sheet
    pub orders : Other r₃ r₄ n₂ left₂ left₄
    orders = elim (turns s id id' ne w u bs bw bu (length out₁) (length out₂) n₁ n₂ (length out₃) (length out₄) turn) [
      | first_lacks l ↦ first_stopped (ap lacks_room third.answer ∙ l)
      | second_lacks n₃ e l ↦ second_stopped n₃ (third.answer ∙ e) (ap lacks_room (fourth_answer n₃ (third.answer ∙ e)) ∙ l)
      | accepted n₃ e f g ↦ end n₃ (third.answer ∙ e) f g
    ]
      where
        end : (n₃ : ℕ) → r₃ ≡ Ok n₃ → fill_of (sheet_of s id' u (length out₃)) id w (length out₄) ≡ Ok n₂
            → sheet_of (sheet_of s id' u (length out₃)) id w (length out₄) ≡ sheet_of (sheet_of s id w (length out₁)) id' u (length out₂)
            → Other r₃ r₄ n₂ left₂ left₄
        end n₃ e f g =
            let q : r₄ ≡ Ok n₂ = fourth_answer n₃ e ∙ f in
            let k : Filled (take n₃ left₃) id w out₄ (Ok n₂) left₄ = record { answer = sym q ∙ (fourth n₃ e).answer; sheet = (fourth n₃ e).sheet } in
            let z : sheet_of (take n₃ left₃) id w (length out₄) ≡ sheet_of (sheet_of s id w (length out₁)) id' u (length out₂)
            = ap (λ (x : List ℕ). sheet_of x id w (length out₄)) (third_sheet n₃ e) ∙ g in
            same n₃ e q (front (take n₃ left₃) id w out₄ n₂ left₄ k (last_length ∙ sym (ap length z)) ∙ z ∙ sym second_sheet)

  -- so, where both orders are accepted, the sheets are equal and so are their lengths
  pub same-sheet : (out₃ out₄ : List ℕ) (n₃ n₄ : ℕ) (left₃ left₄ : List ℕ) → InOrder s id' u id w out₃ out₄ n₃ n₄ left₃ left₄
      → (n₄ ≡ n₂) × (take n₄ left₄ ≡ take n₂ left₂)
  same-sheet out₃ out₄ n₃ n₄ left₃ left₄ o' =
      by (orders out₃ out₄ (Ok n₃) (Ok n₄) left₃ left₄ o'.first (λ m e. rw (number_of_lem m e) o'.second))
    where
      number_of_lem : (m : ℕ) → ◌≡◌ {A = Answer} (Ok n₃) (Ok m) → m ≡ n₃
      number_of_lem m e = cc

      by : Other (Ok n₃) (Ok n₄) n₂ left₂ left₄ → (n₄ ≡ n₂) × (take n₄ left₄ ≡ take n₂ left₂)
      by (first_stopped l) = absurd (let z : ◌≡◌ {A = ℕ} 0 1 = cc in omega arith)
      by (second_stopped m e l) = absurd (let z : ◌≡◌ {A = ℕ} 0 1 = cc in omega arith)
      by (same m e f g) = let q : n₄ ≡ n₂ = cc in (q, rw q g)
