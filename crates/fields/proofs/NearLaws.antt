-- Every place and length that field text and fill answer is within the limit. Assumes nothing.
use Rattle.std.specs.Prelude.{Err, Ok}
use Rattle.records.specs.Answers.{Answer, place}
use mathlib.Core.Path.{◌≡◌, refl, sym, ap, ◌∙◌, subst}
use Prim.Native.Nat.{ℕ, ◌≤◌}
use native.Mathlib.Omega.{arith}
use mathlib.Core.List.{List}
use lib.ListN.{length}
use Rattle.numbers.specs.Little.{Bytes}
use Rattle.records.specs.Records.{Rec, limit, encode}
use Rattle.records.specs.Reading.{read_all}
use Rattle.paragraph.specs.Stream.{records_in}
use Rattle.section.specs.Section.{check_answer}
use Rattle.section.proofs.NearLaws.{check_near}
use Rattle.filling.specs.Search.{Outcome, one, refused, search}
use Rattle.filling.specs.Filling.{text_answer, text_place, text_length, fill_answer, TextAnswer}
use Rattle.filling.proofs.NearLaws.{OutcomeNear, search_near, fill_near}
use Rattle.orders.specs.Calls.{text_after_section, field_text_of, after_section, fill_of}
use Rattle.search.proofs.AcceptLaws.{Sectioned, sectioned}
use Rattle.fields.proofs.LocateLaws.{only}

-- the records of an accepted section, as bytes
stream_near : (s : List ℕ) → Sectioned s → length (encode (read_all s).recs) ≤ limit
stream_near s g = omega (arith, g.small, ap length (sym (ap encode g.records) ∙ g.sound.whole))

module _ (s : List ℕ) (bs : Bytes s) where
  pub fill_call_near : (id : ℕ) (value : List ℕ) (room : ℕ) → place (fill_of s id value room) ≤ limit
  unfolding fill_of
  fill_call_near id value room = by (check_answer s) refl
    where
      by : (a : Answer) → check_answer s ≡ a → place (after_section a (fill_answer id value (read_all s).recs room)) ≤ limit
      by (Ok n) e = fill_near id value (read_all s).recs room (stream_near s (sectioned s bs n e))
      by (Err r) e = subst (λ (a : Answer). place a ≤ limit) e (check_near s bs)

  -- the place and the length
  abbrev TextNear : TextAnswer → Type 0
  TextNear a = (text_place a ≤ limit) × (text_length a ≤ limit)

  answer_near : (id : ℕ) → Sectioned s → TextNear (text_answer id (records_in s))
  answer_near id g = by (search id (records_in s)) refl (search_near id (records_in s))
    where
      by : (o : Outcome) → search id (records_in s) ≡ o → OutcomeNear (length (encode (records_in s))) o → TextNear (text_answer id (records_in s))
      by (one h) e a =
          let k = only s bs g.sound id h e in
          unfold text_answer in rw (e, text_answer) (omega (arith, g.small, k.a_b, k.inside), omega (arith, g.small, k.inside))
      by (refused f p) e a = unfold text_answer in rw (e, text_answer) (omega (arith, a, g.small, ap length g.sound.whole), omega arith)

  pub text_call_near : (id : ℕ) → TextNear (field_text_of s id)
  unfolding field_text_of
  text_call_near id = by (check_answer s) refl
    where
      by : (a : Answer) → check_answer s ≡ a → TextNear (text_after_section a (text_answer id (read_all s).recs))
      by (Ok n) e = let g = sectioned s bs n e in subst (λ (rs : List Rec). TextNear (text_answer id rs)) g.records (answer_near id g)
      by (Err r) e = (subst (λ (a : Answer). place a ≤ limit) e (check_near s bs), omega arith)
