-- The reader's statements (document 01, demand 2; document 02, A12): read accepts a stream, given room, exactly when the stream is the encoding
-- of a list of records that obeys the tag and level rules, and the table is that list; where read refuses, the stream is wrong in that way
-- and at that place. Assumes nothing.
use Rattle.std.specs.Prelude.{Err, None, Ok, Option, Some}
use Prim.Native.Nat.{ℕ, ◌+◌, ◌/◌, ◌≤◌}
use native.Mathlib.Omega.{arith}
use mathlib.Core.Path.{◌≡◌, refl, sym, ap, ◌∙◌, subst}
use mathlib.Core.Bool.{Bool, true, false, cond}
use mathlib.Core.List.{List, ◌++◌}
use lib.Dec.{ltb, leb}
use lib.ListN.{length, take, length-append}
use borrow.Author.Tests.{ltb-true, leb-false}
use Rattle.numbers.specs.Little.{Bytes}
use Rattle.records.specs.Records.{Rec, limit, encode, Encodes}
use Rattle.records.specs.Answers.{number_of, refusal, further, refused_at}
use Rattle.records.specs.Reading.{Read, read_from, read_all}
use Rattle.records.specs.Stopping.{AtFront, cut, long_cut, small, past, long_past, reserved, deep, cap_behind, Refuses, too_long, wrong, full}
use Rattle.records.specs.Table.{room_for, stopped, answer_of, read_answer}
use Rattle.records.specs.declared.fault.Fault.TheVariants as F
use Rattle.records.specs.declared.fault.Refusal.{Refusal}
use Rattle.records.proofs.ReadingLaws.{read_encode, Left, reads, encode_read}
use Rattle.records.proofs.ScanLaws.{accepted, accepts, records-bytes}

-- s is a stream of the records rs, n of them, within the limit and the room
pub record IsStream (s : List ℕ) (room n : ℕ) (rs : List Rec) : Type 0 where
  pub within : length s ≤ limit
  pub encodes : Encodes 0 s rs
  pub fits : length rs ≤ room
  pub count : n ≡ length rs

-- what read accepts is a stream, of the records that it enters
pub accepted_stream : (s : List ℕ) (room n : ℕ) → Bytes s → read_answer s room ≡ Ok n → IsStream s room n (read_all s).recs
unfolding read_all
accepted_stream s room n bs e =
    let k = accepted s room n e in
    record { within = k.small; encodes = encode_read 0 s bs k.whole; fits = k.fits; count = k.count }

-- the records of a stream are those that are read
pub stream_records : (s : List ℕ) (rs : List Rec) → Encodes 0 s rs → read_all s ≡ record { recs = rs; stop = None }
unfolding read_all
stream_records s rs k = ap (read_from 0 0) (sym k.stream) ∙ read_encode 0 rs k.lawful

-- a stream is accepted
pub stream_accepted : (s : List ℕ) (room n : ℕ) (rs : List Rec) → IsStream s room n rs → read_answer s room ≡ Ok n
stream_accepted s room n rs k =
    let e = stream_records s rs k.encodes in
    let same : (read_all s).recs ≡ rs = ap (λ (x : Read). x.recs) e in
    accepts s room k.within (ap (λ (x : Read). x.stop) e) (subst (λ (xs : List Rec). length xs ≤ room) (sym same) k.fits)
    ∙ ap Ok (ap length same ∙ sym k.count)

-- ---- what read refuses is wrong there

module _ (s : List ℕ) (room : ℕ) (bs : Bytes s) where
  refuses_room : (read_all s).stop ≡ None → (b : Bool) → leb (length (read_all s).recs) room ≡ b → (f : Refusal)
      → cond b (Ok (length (read_all s).recs)) (refused_at F.NoRoom (length (encode (take room (read_all s).recs)))) ≡ Err f → Refuses s room f
  unfolding read_all
  refuses_room e true q f g = absurd (let z : ◌≡◌ {A = ℕ} 0 1 = cc in omega arith)
  refuses_room e false q f g =
      let same : refusal F.NoRoom (length (encode (take room (read_all s).recs))) ≡ f = cc in
      subst (Refuses s room) same (full (read_all s).recs (encode_read 0 s bs e) (leb-false _ _ q))

  refuses_stop : (o : Option Refusal) → (read_all s).stop ≡ o → (f : Refusal)
      → stopped o (length (encode (read_all s).recs)) (room_for room (read_all s).recs) ≡ Err f → Refuses s room f
  unfolding stopped room_for read_all
  refuses_stop None e f g = refuses_room e (leb (length (read_all s).recs) room) refl f g
  refuses_stop (Some h) e f g =
      let k = reads 0 s bs in
      let same : further (length (encode (read_all s).recs)) h ≡ f = cc in
      subst (Refuses s room) same (wrong (read_all s).recs k.rest h k.lawful k.stream (subst (Left (cap_behind 0 (read_all s).recs) k.rest) e k.left))

  refuses_limit : (b : Bool) → ltb limit (length s) ≡ b → (f : Refusal) → cond b (refused_at F.StreamTooLong 0) (answer_of room (read_all s)) ≡ Err f → Refuses s room f
  unfolding answer_of
  refuses_limit true q f g = let same : refusal F.StreamTooLong 0 ≡ f = cc in subst (Refuses s room) same (too_long (ltb-true _ _ q))
  refuses_limit false q f g = refuses_stop (read_all s).stop refl f g

  pub refused_stream : (f : Refusal) → read_answer s room ≡ Err f → Refuses s room f
  unfolding read_answer
  refused_stream f e = refuses_limit (ltb limit (length s)) refl f e

-- 2 is at the end of the stream, whichever part of the header is cut
module _ (s : List ℕ) (room : ℕ) where
  cut_front : (rs : List Rec) (cap : ℕ) (rest : List ℕ) (f : Refusal) → encode rs ++ rest ≡ s → AtFront cap rest f → number_of f.fault ≡ 2
      → length (encode rs) + f.place.0 ≡ length s
  cut_front rs cap rest f e (cut h) n = sym (length-append (encode rs) rest) ∙ ap length e
  cut_front rs cap rest f e (long_cut z h) n = sym (length-append (encode rs) rest) ∙ ap length e
  cut_front rs cap rest f e (small z k h) n = absurd (omega arith)
  cut_front rs cap rest f e (past z h) n = absurd (omega arith)
  cut_front rs cap rest f e (long_past z h) n = absurd (omega arith)
  cut_front rs cap rest f e (reserved h) n = absurd (omega arith)
  cut_front rs cap rest f e (deep h) n = absurd (omega arith)

  pub cut_at_the_end : (f : Refusal) → Refuses s room f → number_of f.fault ≡ 2 → f.place.0 ≡ length s
  cut_at_the_end f (too_long h) n = absurd (omega arith)
  cut_at_the_end f (wrong rs rest g l e a) n = cut_front rs (cap_behind 0 rs) rest g e a n
  cut_at_the_end f (full rs e h) n = absurd (omega arith)

-- 7 is not given where each list has an entry for every four bytes of the stream
module _ (s : List ℕ) (room : ℕ) (enough : length s / 4 ≤ room) where
  front_other : (cap : ℕ) (rest : List ℕ) (f : Refusal) → AtFront cap rest f → number_of f.fault ≡ 7 → ⊥
  front_other cap rest f (cut h) n = omega arith
  front_other cap rest f (long_cut z h) n = omega arith
  front_other cap rest f (small z k h) n = omega arith
  front_other cap rest f (past z h) n = omega arith
  front_other cap rest f (long_past z h) n = omega arith
  front_other cap rest f (reserved h) n = omega arith
  front_other cap rest f (deep h) n = omega arith

  pub enough_room : (f : Refusal) → Refuses s room f → number_of f.fault ≡ 7 → ⊥
  enough_room f (too_long h) n = omega arith
  enough_room f (wrong rs rest g l e a) n = front_other (cap_behind 0 rs) rest g a n
  enough_room f (full rs e h) n = omega (arith, records-bytes rs, ap length e.stream)
