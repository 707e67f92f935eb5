-- The first pass: what a scan that has come to some place still makes of the records that are left. Assumes nothing.
use Rattle.std.specs.Prelude.{Err, None, Ok, Option, Some}
use Prim.Native.Nat.{ℕ, zero, suc, ◌+◌, ◌-◌, ◌*◌, ◌≤◌, ◌<◌}
use native.Mathlib.Omega.{arith}
use native.Mathlib.Decide.{dec_le}
use native.Mathlib.Nat.{lt_of_not-le, zero-add, add-zero, sub-zero}
use mathlib.Core.Path.{◌≡◌, refl, sym, ap, ◌∙◌, subst}
use mathlib.Core.Bool.{Bool, true, false, cond}
use mathlib.Core.List.{List, [], ◌∷◌}
use lib.Dec.{ltb, leb, eqb}
use lib.ListN.{length, take, drop, length-append}
use borrow.Author.Tests.{leb-true, ltb-false, lt-ltb, le-ltb, le-leb, lt-leb, eq-eqb, ne_eqb}
use Rattle.numbers.specs.Little.{Bytes}
use Rattle.records.specs.Records.{Rec, limit, encode, size}
use Rattle.records.specs.Answers.{refused_at, place, Answer}
use Rattle.records.specs.Reading.{Read, onto, read_from, read_all, offset}
use Rattle.records.specs.Table.{room_for, stopped, answer_of, read_answer, after_read}
use Rattle.records.specs.declared.fault.Fault.TheVariants as F
use Rattle.records.specs.declared.fault.Refusal.{Refusal}
use Rattle.records.specs.declared.header.Record.{Record}
use Rattle.records.specs.declared.fault.Offset.{Offset}
use Rattle.records.specs.declared.walk.Records.{Records}
use Rattle.records.specs.Steps.{at_place, steps_over}
use Rattle.records.proofs.StepLaws.{stepped, stopped_at, ended_at}
use Rattle.records.proofs.ReadingLaws.{length-encode_one, size_least, beyond, read_prefix, Here, Stops}

pub length-encode : (r : Rec) (rs : List Rec) → length (encode (r ∷ rs)) ≡ size r + length (encode rs)
unfolding encode
length-encode r rs = simp (length-append, length-encode_one)

-- ---- the answer, once n records are passed and `at` is reached; `over` is the first record without room if it was passed

unfoldable pub over_from : ℕ → ℕ → ℕ → ℕ → List Rec → ℕ
over_from room n over at rs = cond (ltb room n) over (at + length (encode (take (room - n) rs)))

unfoldable pub room_from : ℕ → ℕ → ℕ → ℕ → List Rec → Answer
room_from room n over at rs = cond (leb (n + length rs) room) (Ok (n + length rs)) (refused_at F.NoRoom (over_from room n over at rs))

unfoldable pub answer_from : ℕ → ℕ → ℕ → ℕ → Read → Answer
answer_from room n over at x = stopped x.stop (at + length (encode x.recs)) (room_from room n over at x.recs)

pub answer_too_long : (s : List ℕ) (room : ℕ) → limit < length s → read_answer s room ≡ refused_at F.StreamTooLong 0
unfolding read_answer
answer_too_long s room h = simp (lt-ltb limit (length s) h)

pub answer_start : (s : List ℕ) (room : ℕ) → length s ≤ limit → read_answer s room ≡ answer_from room 0 0 0 (read_from 0 0 s)
unfolding read_answer answer_of room_for answer_from room_from over_from read_all
answer_start s room h = simp (le-ltb limit (length s) h, zero-add, sub-zero, le-ltb room 0 (omega arith), cond, answer_of, room_for)

-- past one more record
over_next : (room n over at : ℕ) (r : Rec) (rs : List Rec)
    → over_from room n over at (r ∷ rs) ≡ over_from room (n + 1) (cond (eqb n room) at over) (at + size r) rs
unfolding over_from encode
over_next room n over at r rs =
    elim (dec_le room n) [
      | yes h ↦ elim (dec_le n room) [ yes g ↦ here (omega arith) | no g ↦ passed (lt_of_not-le g) ]
      | no g ↦ before (lt_of_not-le g)
    ]
  where
    here : n ≡ room → cond (ltb room n) over (at + length (encode (take (room - n) (r ∷ rs))))
        ≡ cond (ltb room (n + 1)) (cond (eqb n room) at over) (at + size r + length (encode (take (room - (n + 1)) rs)))
    here e =
        let z : room - n ≡ 0 = omega arith in
        simp (le-ltb room n (omega arith), lt-ltb room (n + 1) (omega arith), eq-eqb n room e, z) (add-zero at)

    passed : room < n → cond (ltb room n) over (at + length (encode (take (room - n) (r ∷ rs))))
        ≡ cond (ltb room (n + 1)) (cond (eqb n room) at over) (at + size r + length (encode (take (room - (n + 1)) rs)))
    passed h = simp (lt-ltb room n h, lt-ltb room (n + 1) (omega arith), ne_eqb n room (λ e. omega arith))

    before : n < room → cond (ltb room n) over (at + length (encode (take (room - n) (r ∷ rs))))
        ≡ cond (ltb room (n + 1)) (cond (eqb n room) at over) (at + size r + length (encode (take (room - (n + 1)) rs)))
    before h =
        let z : room - n ≡ suc (room - (n + 1)) = omega arith in
        simp (le-ltb room n (omega arith), le-ltb room (n + 1) (omega arith), z, length-encode) (omega arith)

room_next : (room n over at : ℕ) (r : Rec) (rs : List Rec)
    → room_from room n over at (r ∷ rs) ≡ room_from room (n + 1) (cond (eqb n room) at over) (at + size r) rs
unfolding room_from
room_next room n over at r rs =
    let e : n + suc (length rs) ≡ n + 1 + length rs = omega arith in
    simp (e, over_next room n over at r rs)

pub answer_next : (room n over at : ℕ) (r : Rec) (x : Read)
    → answer_from room n over at (onto r x) ≡ answer_from room (n + 1) (cond (eqb n room) at over) (at + size r) x
unfolding answer_from onto
answer_next room n over at r x =
    let e : at + (size r + length (encode x.recs)) ≡ at + size r + length (encode x.recs) = omega arith in
    simp (length-encode r x.recs, e, room_next room n over at r x.recs)

pub answer_stop : (room n over at : ℕ) (x : Read) (f : Refusal) → Stops x at f → Err f ≡ answer_from room n over at x
unfolding answer_from stopped encode
answer_stop room n over at x f k =
    let z : at + 0 ≡ at = add-zero at in
    sym (rw (k.reads, z) (ap Err k.is))

pub answer_fits : (room n over at : ℕ) → n ≤ room → answer_from room n over at (record { recs = []; stop = None }) ≡ Ok n
unfolding answer_from stopped room_from
answer_fits room n over at h = simp (add-zero, le-leb n room h)

pub answer_over : (room n over at : ℕ) → room < n → answer_from room n over at (record { recs = []; stop = None }) ≡ refused_at F.NoRoom over
unfolding answer_from stopped room_from over_from
answer_over room n over at h = simp (add-zero, lt-leb n room h, lt-ltb room n h)

-- where the first pass stands at its loop's head
pub record Scanning (s : List ℕ) (room at cap n over : ℕ) : Type 0 where
  pub small : length s ≤ limit
  pub inside : at ≤ length s
  pub count : 4 * n ≤ at
  pub rest : read_answer s room ≡ answer_from room n over at (read_from cap 0 (drop at s))

-- behind one more record
pub scan_next : (s : List ℕ) (room at cap n over over' : ℕ) (r : Record) → Scanning s room at cap n over → Here s at cap r
    → over' ≡ cond (eqb n room) at over → Scanning s room r.next.0 (r.level + 1) (n + 1) over'
scan_next s room at cap n over over' r k d e =
    record {
      small = k.small;
      inside = omega (arith, d.next-is, d.inside);
      count = omega (arith, k.count, d.next-is, d.size_low);
      rest =
          k.rest
          ∙ ap (answer_from room n over at) d.next
          ∙ answer_next room n over at d.rec (read_from (d.rec.level + 1) 0 (drop (at + size d.rec) s))
          ∙ rw (e, d.next-is, d.level_is);
    }

-- the same of the loop over the records: `p` is what is left of the stream, and `over` is there once a record had no room

abbrev over_place : Option Offset → ℕ
over_place None = 0
over_place (Some p) = p.0

abbrev Over : ℕ → ℕ → Option Offset → Type 0
Over room n None = n ≤ room
Over room n (Some p) = room < n

pub record Scans (s : List ℕ) (room : ℕ) (p : Records) (n : ℕ) (over : Option Offset) : Type 0 where
  pub stream_is : p.stream.now ≡ s
  pub scanning : Scanning s room p.at.0 p.cap n (over_place over)
  pub passed : Over room n over

pub scans_start : {s : List ℕ} {p : Records} (room : ℕ) → (p.stream.now ≡ s) × (p.at ≡ offset 0) × (p.cap ≡ 0) → length s ≤ limit → Scans s room p 0 None
scans_start {s} room e h =
    record {
      stream_is = e.0;
      scanning = rw (e.1, e.2) (record { small = h; inside = omega arith; count = omega arith; rest = answer_start s room h });
      passed = omega arith;
    }

module _ {s : List ℕ} {room : ℕ} {p : Records} {n : ℕ} {over : Option Offset} (k : Scans s room p n over) where
  module _ (bs : Bytes s) {q : Records} {r : Record} (g : steps_over p (Some (Ok r)) q) where
    onward : {m : ℕ} → m ≡ cond (eqb n room) p.at.0 (over_place over) → Scanning s room q.at.0 q.cap (n + 1) m
    onward {m} e =
        let d = stepped p k.stream_is bs g in
        rw (d.at-is, d.cap-is) (scan_next s room p.at.0 p.cap n (over_place over) m r k.scanning d.here e)

    -- past the first record that has no room
    pub scans_first : n ≡ room → Scans s room q (n + 1) (Some r.at)
    scans_first e =
        let d = stepped p k.stream_is bs g in
        record { stream_is = d.stream-is; scanning = onward (rw (eq-eqb n room e) d.at_r); passed = omega arith }

    -- past any other
    pub scans_next : (n ≡ room → ⊥) → Scans s room q (n + 1) over
    scans_next e =
        record { stream_is = (stepped p k.stream_is bs g).stream-is; scanning = onward (rw (ne_eqb n room e)); passed = by over k.passed }
      where
        by : (o : Option Offset) → Over room n o → Over room (n + 1) o
        by None h = omega (arith, e)
        by (Some x) h = omega arith

  pub scans_stop : {q : Records} {f : Refusal} → steps_over p (Some (Err f)) q → Err f ≡ read_answer s room
  scans_stop g = answer_stop room n _ _ _ _ (stopped_at p k.stream_is g) ∙ sym k.scanning.rest

  at_end : at_place p ≡ None → read_answer s room ≡ answer_from room n (over_place over) p.at.0 (record { recs = []; stop = None })
  at_end g = k.scanning.rest ∙ ap (answer_from room n (over_place over) p.at.0) (ended_at p k.stream_is g)

  pub scans_fits : at_place p ≡ None → over ≡ None → Ok n ≡ read_answer s room
  scans_fits g e = let h : n ≤ room = rw e at k.passed in sym (at_end g ∙ answer_fits room n _ _ h)

  pub scans_over : at_place p ≡ None → {x : Offset} → over ≡ Some x → refused_at F.NoRoom x.0 ≡ read_answer s room
  scans_over g {x} e = let h : room < n = rw e at k.passed in sym (at_end g ∙ answer_over room n _ _ h ∙ rw e)

-- ---- what an acceptance says

pub record Accepted (s : List ℕ) (room n : ℕ) : Type 0 where
  pub small : length s ≤ limit
  pub whole : (read_all s).stop ≡ None
  pub fits : length (read_all s).recs ≤ room
  pub count : n ≡ length (read_all s).recs

abbrev AcceptedIf : List ℕ → ℕ → Answer → Type 0
AcceptedIf s room (Ok n) = Accepted s room n
AcceptedIf s room (Err r) = Unit {0}

module _ (s : List ℕ) (room : ℕ) where
  accepted_room : length s ≤ limit → (read_all s).stop ≡ None → (b : Bool) → leb (length (read_all s).recs) room ≡ b
      → AcceptedIf s room (cond b (Ok (length (read_all s).recs)) (refused_at F.NoRoom (length (encode (take room (read_all s).recs)))))
  accepted_room h e true q = record { small = h; whole = e; fits = leb-true _ _ q; count = refl }
  accepted_room h e false q = tt

  accepted_stop : length s ≤ limit → (o : Option Refusal) → (read_all s).stop ≡ o
      → AcceptedIf s room (stopped o (length (encode (read_all s).recs)) (room_for room (read_all s).recs))
  unfolding stopped room_for
  accepted_stop h None e = accepted_room h e _ refl
  accepted_stop h (Some f) e = tt

  accepted_limit : (b : Bool) → ltb limit (length s) ≡ b → AcceptedIf s room (cond b (refused_at F.StreamTooLong 0) (answer_of room (read_all s)))
  unfolding answer_of
  accepted_limit true q = tt
  accepted_limit false q = accepted_stop (ltb-false _ _ q) (read_all s).stop refl

  pub accepted : (n : ℕ) → read_answer s room ≡ Ok n → Accepted s room n
  unfolding read_answer
  accepted n e = subst (AcceptedIf s room) e (accepted_limit (ltb limit (length s)) refl)

  -- and the other way round
  pub accepts : length s ≤ limit → (read_all s).stop ≡ None → length (read_all s).recs ≤ room → read_answer s room ≡ Ok (length (read_all s).recs)
  unfolding read_answer answer_of stopped room_for
  accepts h e k = simp (le-ltb limit (length s) h, e, le-leb (length (read_all s).recs) room k)

-- ---- every place is within the limit

pub records-bytes : (rs : List Rec) → 4 * length rs ≤ length (encode rs)
unfolding encode
records-bytes [] = omega arith
records-bytes (r ∷ rs) = omega (arith, length-encode r rs, size_least r, records-bytes rs)

pub take-bytes : (n : ℕ) (rs : List Rec) → length (encode (take n rs)) ≤ length (encode rs)
unfolding encode
take-bytes zero rs = omega arith
take-bytes (suc n) [] = omega arith
take-bytes (suc n) (r ∷ rs) = omega (arith, length-encode r rs, length-encode r (take n rs), take-bytes n rs)

module _ (s : List ℕ) (room : ℕ) (bs : Bytes s) where
  abbrev Small : Answer → Type 0
  Small a = place a ≤ limit

  near_room : length s ≤ limit → (b : Bool)
      → Small (cond b (Ok (length (read_all s).recs)) (refused_at F.NoRoom (length (encode (take room (read_all s).recs)))))
  unfolding read_all
  near_room h true = omega (arith, records-bytes (read_from 0 0 s).recs, read_prefix 0 s bs)
  near_room h false = omega (arith, take-bytes room (read_from 0 0 s).recs, read_prefix 0 s bs)

  near_stop : length s ≤ limit → (o : Option Refusal) → length (encode (read_all s).recs) + beyond o ≤ length s
      → Small (stopped o (length (encode (read_all s).recs)) (room_for room (read_all s).recs))
  unfolding stopped room_for
  near_stop h None k = near_room h (leb (length (read_all s).recs) room)
  near_stop h (Some f) k = omega arith

  near_limit : (b : Bool) → ltb limit (length s) ≡ b → Small (cond b (refused_at F.StreamTooLong 0) (answer_of room (read_all s)))
  unfolding answer_of read_all
  near_limit true q = omega arith
  near_limit false q = near_stop (ltb-false _ _ q) (read_all s).stop (read_prefix 0 s bs)

  pub answer_near : place (read_answer s room) ≤ limit
  unfolding read_answer
  answer_near = near_limit (ltb limit (length s)) refl

  -- the records of an accepted stream, as bytes
  pub records_near : (n : ℕ) → read_answer s room ≡ Ok n → length (encode (read_all s).recs) ≤ limit
  unfolding read_all
  records_near n e = omega (arith, (accepted s room n e).small, read_prefix 0 s bs)

-- ---- and so is that of what is judged behind read

-- a refusal, if there is one, at `end` or before it
abbrev pub Near : ℕ → Option Refusal → Type 0
Near end None = Unit {0}
Near end (Some r) = r.place.0 ≤ end

pub judged_near : (s : List ℕ) (room : ℕ) → Bytes s → (o : Option Refusal) → Near (length (encode (read_all s).recs)) o
    → place (after_read (read_answer s room) o) ≤ limit
judged_near s room bs o near = by (read_answer s room) refl o near
  where
    by : (a : Answer) → read_answer s room ≡ a → (o : Option Refusal) → Near (length (encode (read_all s).recs)) o → place (after_read a o) ≤ limit
    by (Ok n) e None near = subst (λ (a : Answer). place a ≤ limit) e (answer_near s room bs)
    by (Ok n) e (Some r) near = omega (arith, near, records_near s room bs n e)
    by (Err r) e o near = subst (λ (a : Answer). place a ≤ limit) e (answer_near s room bs)
