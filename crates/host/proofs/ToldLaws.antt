-- What the host is told, in full: every place, count and length of an answer is within the limit. Assumes nothing.
use Prim.Native.Nat.{ℕ, ◌+◌, ◌*◌, ◌≤◌}
use native.Mathlib.Omega.{arith}
use mathlib.Core.Path.{◌≡◌, sym, ap, ap₂, ◌∙◌, subst}
use mathlib.Core.List.{List}
use lib.ListN.{length}
use Rattle.numbers.specs.Little.{Bytes}
use Rattle.records.specs.Records.{limit}
use Rattle.records.specs.Answers.{place_bits, host_form, number, place, sum_of, Answer}
use Rattle.records.proofs.AnswerLaws.{in_full}
use Rattle.section.specs.Section.{check_answer}
use Rattle.section.proofs.NearLaws.{check_near}
use Rattle.filling.specs.Filling.{text_number, text_place, text_length, text_sum, TextAnswer}
use Rattle.orders.specs.Calls.{field_text_of}
use Rattle.orders.specs.Promise.{Filled}
use Rattle.fields.proofs.NearLaws.{fill_call_near, text_call_near}
use Rattle.host.specs.Promise.{ToldFill}

module _ (p n : ℕ) {h b : ℕ} (form : h ≡ host_form 0 p 0) (bits : b ≡ n) where
  pub told_at : h + 68719476736 * b ≡ host_form 0 p n
  unfolding host_form
  told_at = omega (arith, form, bits)

-- an answer whose place is within the limit
sum_is : {told : ℕ} (a : Answer) → told ≡ host_form (number a) (place_bits (place a)) 0 → place a ≤ limit → told ≡ sum_of a
sum_is a e h = e ∙ ap (λ (p : ℕ). host_form (number a) p 0) (in_full h)

module _ (s : List ℕ) (bs : Bytes s) where
  pub check_sum : {told : ℕ} {a : Answer} → told ≡ host_form (number a) (place_bits (place a)) 0 → a ≡ check_answer s → told ≡ sum_of (check_answer s)
  check_sum e q = sum_is (check_answer s) (e ∙ ap (λ (a : Answer). host_form (number a) (place_bits (place a)) 0) q) (check_near s bs)

  pub text-sum : (id : ℕ) {told : ℕ} {a : TextAnswer} → told ≡ host_form (text_number a) (place_bits (text_place a)) (place_bits (text_length a))
      → a ≡ field_text_of s id → told ≡ text_sum (field_text_of s id)
  text-sum id e q =
      let near = text_call_near s bs id in
      e ∙ ap (λ (a : TextAnswer). host_form (text_number a) (place_bits (text_place a)) (place_bits (text_length a))) q
      ∙ ap₂ (λ (p n : ℕ). host_form (text_number (field_text_of s id)) p n) (in_full near.0) (in_full near.1)

  pub fill_sum : {id : ℕ} {value out out' : List ℕ} {told : ℕ} {a : Answer} → told ≡ host_form (number a) (place_bits (place a)) 0
      → Filled s id value out a out' → ToldFill s id value out told out'
  fill_sum {id} {value} {out} {out'} {told} {a} e k =
      record {
        answer = a;
        filled = k;
        sum = sum_is a e (subst (λ (x : Answer). place x ≤ limit) (sym k.answer) (fill_call_near s bs id value (length out)));
      }
