-- The passes of a section over the stream are the rules over its records. Assumes nothing.
use Rattle.std.specs.Prelude.{Err, Ok}
use Prim.Native.Nat.{ℕ, ◌<◌}
use native.Mathlib.Omega.{arith}
use mathlib.Core.Path.{◌≡◌, refl, sym, ap, ◌∙◌}
use mathlib.Core.List.{List, []}
use Rattle.numbers.specs.Little.{Bytes}
use Rattle.records.specs.Records.{Rec}
use Rattle.records.specs.Reading.{read_all}
use Rattle.records.specs.Answers.{Answer}
use Rattle.records.specs.Table.{read_answer, settled, after_read}
use Rattle.records.specs.declared.fault.Refusal.{Refusal}
use Rattle.records.proofs.AnswerLaws.{judged_accepted}
use Rattle.records.proofs.ScanLaws.{Accepted, accepted}
use Rattle.paragraph.specs.Stream.{records_in}
use Rattle.paragraph.proofs.StreamLaws.{in_read}
use Rattle.section.specs.Parents.{stray_from}
use Rattle.section.specs.Section.{paragraphs_fault, stray_or, section_fault, section_answer}

-- ---- read's answer, then the rules

module _ (s : List ℕ) (room : ℕ) where
  pub answer_rules : (n : ℕ) (y : Answer) → Bytes s → read_answer s room ≡ Ok n
      → y ≡ settled n (stray_or (stray_from 0 [] (read_all s).recs) (paragraphs_fault 0 (records_in s))) → y ≡ section_answer s room
  unfolding section_answer section_fault
  answer_rules n y bs e q =
      let k = accepted s room n e in
      q
      ∙ ap (λ (l : List Rec). settled n (stray_or (stray_from 0 [] (read_all s).recs) (paragraphs_fault 0 l))) (in_read s bs k.whole)
      ∙ ap (λ (a : Answer). after_read a (section_fault (read_all s).recs)) (sym e)

  pub answer_refused : (f : Refusal) → read_answer s room ≡ Err f → Err f ≡ section_answer s room
  unfolding section_answer
  answer_refused f e = ap (λ (a : Answer). after_read a (section_fault (read_all s).recs)) (sym e)

  -- where there are more records than room, read's answer is a refusal
  crowded : (n : ℕ) → Accepted s n n → room < n → (a : Answer) → read_answer s room ≡ a → a ≡ after_read a (section_fault (read_all s).recs)
  crowded n k h (Ok m) e = absurd (omega (arith, k.count, (accepted s room m e).fits))
  crowded n k h (Err f) e = refl

  pub answer_crowded : (n : ℕ) (y : Answer) → read_answer s n ≡ Ok n → room < n → y ≡ read_answer s room → y ≡ section_answer s room
  unfolding section_answer
  answer_crowded n y e h q = q ∙ crowded n (accepted s n n e) h (read_answer s room) refl

-- ---- what an acceptance says: read accepts too, and enters all records

pub section_accepted : (s : List ℕ) (room n : ℕ) → section_answer s room ≡ Ok n → read_answer s room ≡ Ok n
unfolding section_answer
section_accepted s room n e = (judged_accepted (read_answer s room) (section_fault (read_all s).recs) n e).0
