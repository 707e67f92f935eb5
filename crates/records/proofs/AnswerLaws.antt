-- The laws of answers: what is judged behind read, and what the host reads off its form. Assumes nothing.
use Rattle.std.specs.Prelude.{Err, None, Ok, Option, Some}
use Prim.Native.Nat.{ℕ, ◌/◌, ◌%◌, ◌≤◌, ◌<◌}
use native.Mathlib.Omega.{arith}
use mathlib.Core.Path.{◌≡◌, refl}
use Rattle.records.specs.Records.{limit}
use Rattle.records.specs.Table.{after_read}
use Rattle.records.specs.Answers.{number_of, place_bits, host_form, number, place, Answer}
use Rattle.records.specs.declared.fault.Fault.{Fault}
use Rattle.records.specs.declared.fault.Fault.TheVariants as F
use Rattle.records.specs.declared.fault.Refusal.{Refusal}

-- what is judged behind read is accepted only where read accepts and nothing is at fault
pub judged_accepted : (a : Answer) (o : Option Refusal) (n : ℕ) → after_read a o ≡ Ok n → (a ≡ Ok n) × (o ≡ None)
judged_accepted (Ok m) None n e = (e, refl)
judged_accepted (Ok m) (Some r) n e = absurd (let z : ◌≡◌ {A = ℕ} 0 1 = cc in omega arith)
judged_accepted (Err r) o n e = absurd (let z : ◌≡◌ {A = ℕ} 0 1 = cc in omega arith)

-- a place within the limit stands in full
pub in_full : {p : ℕ} → p ≤ limit → place_bits p ≡ p
in_full h = omega arith

-- and the host reads number, place and further number off the sum
pub record Apart (n p further sum : ℕ) : Type 0 where
  pub number_is : sum % 256 ≡ n
  pub place_is : sum / 256 % 268435456 ≡ p
  pub further-is : sum / 68719476736 ≡ further

pub told_apart : (n p further : ℕ) → n < 256 → p ≤ limit → Apart n p further (host_form n p further)
unfolding host_form
told_apart n p further h k = record { number_is = omega arith; place_is = omega arith; further-is = omega arith }

-- a refusal's number is none of an acceptance, and has eight bits
pub fault-number : (f : Fault) → (0 < number_of f) × (number_of f < 256)
fault-number F.StreamTooLong = (omega arith, omega arith)
fault-number F.HeaderCut = (omega arith, omega arith)
fault-number F.LongLengthTooSmall = (omega arith, omega arith)
fault-number F.BodyPastEnd = (omega arith, omega arith)
fault-number F.TagOutside = (omega arith, omega arith)
fault-number F.LevelRule = (omega arith, omega arith)
fault-number F.NoRoom = (omega arith, omega arith)
fault-number F.ParagraphHeaderShort = (omega arith, omega arith)
fault-number F.Misplaced = (omega arith, omega arith)
fault-number F.RecordAbsent = (omega arith, omega arith)
fault-number F.LengthWrong = (omega arith, omega arith)
fault-number F.TextRule = (omega arith, omega arith)
fault-number F.EntriesWrong = (omega arith, omega arith)
fault-number F.ControlsUnmatched = (omega arith, omega arith)
fault-number F.FieldHeaderShort = (omega arith, omega arith)
fault-number F.DocInfoRecord = (omega arith, omega arith)
fault-number F.DocInfoLength = (omega arith, omega arith)
fault-number F.CountUnmatched = (omega arith, omega arith)
fault-number F.ValueWrong = (omega arith, omega arith)
fault-number F.NoField = (omega arith, omega arith)
fault-number F.FieldTwice = (omega arith, omega arith)
fault-number F.FieldNotPlain = (omega arith, omega arith)
fault-number F.MarksInParagraph = (omega arith, omega arith)
fault-number F.SheetTooLong = (omega arith, omega arith)
fault-number F.BufferTooShort = (omega arith, omega arith)
fault-number F.ListTooShort = (omega arith, omega arith)
fault-number F.ParentWrong = (omega arith, omega arith)

pub answer_number : (a : Answer) → number a < 256
answer_number (Ok n) = omega arith
answer_number (Err r) = (fault-number r.fault).1

-- number 0 is an acceptance
pub zero_accepts : (a : Answer) → number a ≡ 0 → a ≡ Ok (place a)
zero_accepts (Ok n) e = refl
zero_accepts (Err r) e = absurd (omega (arith, e, (fault-number r.fault).0))
