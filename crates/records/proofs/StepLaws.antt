-- A step over the records of a stream: it comes nearer to the end, and what is known of the record or the fault. Assumes nothing.
use Rattle.std.specs.Prelude.{Err, None, Ok, Some}
use Prim.Native.Nat.{ℕ, ◌+◌, ◌-◌, ◌/◌, ◌%◌, ◌<◌}
use native.Mathlib.Omega.{arith}
use mathlib.Core.Path.{◌≡◌, refl, sym, ap, ◌∙◌}
use mathlib.Core.Bool.{Bool, true, false, cond}
use mathlib.Core.List.{List, []}
use lib.Dec.{ltb, eqb}
use borrow.Author.Tests.{ltb-true}
use lib.ListN.{length, drop}
use Rattle.numbers.specs.Little.{Bytes}
use Rattle.records.specs.Reading.{Stands, whole, fault, body_at, long_at, word_at, stands_at, record_at, ahead_by, ahead_of, Read, read_from}
use Rattle.records.specs.declared.fault.Refusal.{Refusal}
use Rattle.records.specs.declared.header.Record.{Record}
use Rattle.records.specs.declared.walk.Records.{Records}
use Rattle.records.specs.Steps.{at_place, steps_over}
use Rattle.records.proofs.ReadingLaws.{size_least, by_guard, by_cond, Here, here, Stops, stops_here, ends_here}

-- ---- without a word about bytes: a level has ten bits, and the place moves on

abbrev LevelIf : Stands → Type 0
LevelIf (fault f) = Unit {0}
LevelIf (whole r) = r.level < 1024

module _ (tag level : ℕ) (s : List ℕ) (h : level < 1024) where
  level_body : (skip n : ℕ) → LevelIf (body_at tag level s skip n)
  unfolding body_at
  level_body skip n = by_guard LevelIf _ _ _ _ (λ _. tt) (λ _. h)

  level_long : LevelIf (long_at tag level s)
  unfolding long_at
  level_long = by_guard LevelIf _ _ _ _ (λ _. tt) (λ _. by_guard LevelIf _ _ _ _ (λ _. tt) (λ _. level_body 8 _))

level_word : (cap : ℕ) (s : List ℕ) (w : ℕ) → LevelIf (word_at cap s w)
unfolding word_at
level_word cap s w =
    let h : w / 1024 % 1024 < 1024 = omega arith in
    by_guard LevelIf _ _ _ _ (λ _. tt) (λ _. by_guard LevelIf _ _ _ _ (λ _. tt) (λ _.
    by_cond LevelIf (eqb (w / 1048576) 4095) (long_at (w % 1024) (w / 1024 % 1024) s) (body_at (w % 1024) (w / 1024 % 1024) s 4 (w / 1048576))
    (λ _. level_long (w % 1024) _ s h) (λ _. level_body (w % 1024) _ s h 4 (w / 1048576))))

level_stands : (cap : ℕ) (s : List ℕ) → LevelIf (stands_at cap s)
unfolding stands_at
level_stands cap s = by_guard LevelIf _ _ _ _ (λ _. tt) (λ _. level_word cap s _)

-- what the iterator itself needs
pub record Moves (s : List ℕ) (at : ℕ) (r : Record) : Type 0 where
  pub level_low : r.level < 1024
  pub nearer : length s - r.next.0 < length s - at

module _ (s : List ℕ) (at cap : ℕ) where
  moves_by : (b : Bool) (a : Stands) (r : Record) → ltb at (length s) ≡ b → LevelIf a → cond b (ahead_by at a) None ≡ Some (Ok r) → Moves s at r
  moves_by false a r t l e = absurd (let z : ◌≡◌ {A = ℕ} 0 1 = cc in omega arith)
  moves_by true (fault f) r t l e = absurd (let z : ◌≡◌ {A = ℕ} 0 1 = cc in omega arith)
  moves_by true (whole k) r t l e =
      let q : record_at at k ≡ r = cc in
      rw (← q) (record { level_low = l; nearer = omega (arith, size_least k, ltb-true at (length s) t) })

  pub moves : (r : Record) → ahead_of cap s at ≡ Some (Ok r) → Moves s at r
  unfolding ahead_of
  moves r e = moves_by (ltb at (length s)) (stands_at cap (drop at s)) r refl (level_stands cap (drop at s)) e

  left_by : (b : Bool) (a : Stands) (f : Refusal) → ltb at (length s) ≡ b → cond b (ahead_by at a) None ≡ Some (Err f) → length s - length s < length s - at
  left_by false a f t e = absurd (let z : ◌≡◌ {A = ℕ} 0 1 = cc in omega arith)
  left_by true a f t e = omega (arith, ltb-true at (length s) t)

  pub fault_left : (f : Refusal) → ahead_of cap s at ≡ Some (Err f) → length s - length s < length s - at
  unfolding ahead_of
  fault_left f e = left_by (ltb at (length s)) (stands_at cap (drop at s)) f refl e

-- ---- what a loop over them needs

-- a step from p gave r and left q, in the stream s
pub record Stepped (s : List ℕ) (p q : Records) (r : Record) : Type 0 where
  pub here : Here s p.at.0 p.cap r
  pub at_r : r.at.0 ≡ p.at.0
  pub stream-is : q.stream.now ≡ s
  pub at-is : q.at.0 ≡ r.next.0
  pub cap-is : q.cap ≡ r.level + 1

module _ {s : List ℕ} (p : Records) (e : p.stream.now ≡ s) where
  at_s : ahead_of p.cap s p.at.0 ≡ at_place p
  at_s = ap (λ (l : List ℕ). ahead_of p.cap l p.at.0) (sym e)

  pub stepped : {q : Records} {r : Record} → Bytes s → steps_over p (Some (Ok r)) q → Stepped s p q r
  stepped {q} {r} bs w =
      let d = here s p.at.0 p.cap bs r (at_s ∙ w.0) in
      record {
        here = d;
        at_r = ap (λ (x : Record). x.at.0) d.is;
        stream-is = ap (λ (x : Records). x.stream.now) w.1 ∙ e;
        at-is = ap (λ (x : Records). x.at.0) w.1;
        cap-is = ap (λ (x : Records). x.cap) w.1;
      }

  pub stopped_at : {q : Records} {f : Refusal} → steps_over p (Some (Err f)) q → Stops (read_from p.cap 0 (drop p.at.0 s)) p.at.0 f
  stopped_at {q} {f} w = stops_here s p.at.0 p.cap f (at_s ∙ w.0)

  pub ended_at : at_place p ≡ None → read_from p.cap 0 (drop p.at.0 s) ≡ record { recs = []; stop = None }
  ended_at w = ends_here s p.at.0 p.cap (at_s ∙ w)

  -- no record is left, in either way
  pub none_stopped : {q : Records} {f : Refusal} → steps_over p (Some (Err f)) q → (read_from p.cap 0 (drop p.at.0 s)).recs ≡ []
  none_stopped w = ap (λ (x : Read). x.recs) (stopped_at w).reads

  pub none_ended : at_place p ≡ None → (read_from p.cap 0 (drop p.at.0 s)).recs ≡ []
  none_ended w = ap (λ (x : Read). x.recs) (ended_at w)
