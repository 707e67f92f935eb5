-- What the host reads back, over the promises of the C face: where a fill tells number 0, check of the sheet and field text of it with the same
-- id tell number 0, and the bytes that field text points to are the value. Assumes nothing.
use Rattle.std.specs.Prelude.{Ok}
use Prim.Native.Nat.{ℕ, ◌≤◌}
use native.Mathlib.Omega.{arith}
use mathlib.Core.Path.{◌≡◌, refl, sym, ap, ap₂, ◌∙◌, subst}
use mathlib.Core.List.{List}
use lib.ListN.{length, take, drop}
use Rattle.numbers.specs.Little.{Bytes}
use Rattle.numbers.proofs.LittleLaws.{bytes_take}
use Rattle.records.specs.Records.{limit}
use Rattle.records.specs.Answers.{host_form, number, place, sum_of, Answer}
use Rattle.records.proofs.AnswerLaws.{Apart, told_apart, answer_number, zero_accepts}
use Rattle.section.specs.Section.{check_answer}
use Rattle.section.proofs.NearLaws.{check_near}
use Rattle.filling.specs.Filling.{text_place, text_sum, TextAnswer}
use Rattle.orders.specs.Calls.{field_text_of}
use Rattle.orders.specs.Promise.{Filled}
use Rattle.orders.proofs.Promises.{sheet_accepted, sheet-text}
use Rattle.fields.proofs.NearLaws.{fill_call_near, text_call_near}
use Rattle.host.specs.Promise.{number_told, place_told, further_told, ToldFill}

-- what field text tells points to the value in the sheet
pub record PointsTo (told : ℕ) (value sheet : List ℕ) : Type 0 where
  pub accepted : number_told told ≡ 0
  pub bytes : take (further_told told) (drop (place_told told) sheet) ≡ value

-- an answer whose place is within the limit, taken apart
apart_of : (a : Answer) → place a ≤ limit → Apart (number a) (place a) 0 (sum_of a)
apart_of a h = told_apart (number a) (place a) 0 (answer_number a) h

module _ (s : List ℕ) (id : ℕ) (value out : List ℕ) (m : ℕ) (out' : List ℕ) (bs : Bytes s) (bv : Bytes value) (bo : Bytes out')
    (k : ToldFill s id value out m out') (accepted : number_told m ≡ 0) where
  abbrev n : ℕ
  n = place k.answer

  parts : Apart (number k.answer) n 0 m
  parts =
      subst (Apart (number k.answer) n 0) (sym k.sum)
      (apart_of k.answer (subst (λ (a : Answer). place a ≤ limit) (sym k.filled.answer) (fill_call_near s bs id value (length out))))

  -- the sheet is the first bytes of the buffer, as many as the place column has
  length-is : place_told m ≡ n
  length-is = parts.place_is

  filled_so : Filled s id value out (Ok n) out'
  filled_so =
      record { answer = sym (zero_accepts k.answer (sym parts.number_is ∙ accepted)) ∙ k.filled.answer; sheet = k.filled.sheet }

  sheet-same : take (place_told m) out' ≡ take n out'
  sheet-same = ap (λ (i : ℕ). take i out') length-is

  -- check of the sheet
  pub check_back : (t : ℕ) → t ≡ sum_of (check_answer (take (place_told m) out')) → number_told t ≡ 0
  check_back t e =
      let c = sheet_accepted s id value out n out' bs bv filled_so (check_answer (take n out')) refl in
      let a = apart_of (check_answer (take n out')) (check_near (take n out') (bytes_take n out' bo)) in
      ap number_told (e ∙ ap (λ (x : List ℕ). sum_of (check_answer x)) sheet-same) ∙ a.number_is ∙ ap number c.1

  -- field text of the sheet
  pub text_back : (t : ℕ) → t ≡ text_sum (field_text_of (take (place_told m) out') id) → PointsTo t value (take (place_told m) out')
  text_back t e =
      let f = sheet-text s id value out n out' bs bv filled_so (field_text_of (take n out') id) refl in
      let near : f.place ≤ limit
      = subst (λ (a : TextAnswer). text_place a ≤ limit) f.answer (text_call_near (take n out') (bytes_take n out' bo) id).0 in
      let told : t ≡ host_form 0 f.place (length value)
      = e ∙ ap (λ (x : List ℕ). text_sum (field_text_of x id)) sheet-same ∙ ap text_sum f.answer in
      let a : Apart 0 f.place (length value) t = subst (Apart 0 f.place (length value)) (sym told) (told_apart 0 f.place (length value) (omega arith) near) in
      record {
        accepted = a.number_is;
        bytes =
            ap (λ (x : List ℕ). take (further_told t) (drop (place_told t) x)) sheet-same
            ∙ ap₂ (λ (i j : ℕ). take i (drop j (take n out'))) a.further-is a.place_is ∙ f.bytes;
      }
