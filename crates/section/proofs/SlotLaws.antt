-- The leaves of the gathering pass: what an entry names, a slot judged, noted and renewed. Assumes nothing.
use Rattle.std.specs.Prelude.{Err, None, Ok, Option, Some}
use Prim.Native.Nat.{ℕ, suc, ◌+◌, ◌-◌, ◌≤◌, ◌<◌, min}
use native.Mathlib.Omega.{arith}
use mathlib.Core.Path.{◌≡◌, refl, sym, ap, ap₂, ◌∙◌}
use mathlib.Core.Logic.{◌⊎◌, inl, inr}
use mathlib.Core.Bool.{Bool, true, false, cond}
use mathlib.Core.List.{List}
use lib.ListN.{length, set, drop, length-set}
use lib.Seq.{get_or-set_same, get_or-set_other}
use borrow.Author.Tests.{lt-ltb, le-ltb, eq-eqb, ne_eqb}
use Rattle.numbers.specs.Little.{Bytes}
use Rattle.records.specs.Records.{size}
use Rattle.records.specs.Reading.{ahead_of, Ahead}
use Rattle.records.specs.declared.header.Record.{Record}
use Rattle.records.proofs.ReadingLaws.{NoRecord}
use Rattle.text.proofs.Cases.{lt_or, eq_or}
use lib.Dec.{ltb, eqb}
use Rattle.paragraph.specs.Stream.{records_in}
use Rattle.paragraph.specs.Rules.{first_fault, Finding}
use Rattle.paragraph.specs.Places.{parts_in}
use Rattle.paragraph.specs.declared.children.Parts.{Parts}
use Rattle.paragraph.proofs.StreamLaws.{Read, read_at, none_at, none_left}
use Rattle.section.specs.Windows.{between, sooner}
use Rattle.section.specs.Slots.{found_ahead, part_found, parts_of, at_fault, slot_fault, slots_fault, slot_at, Ended, fresh, noted, noted_in, taken_in, own_fault, held_in, held_slot, place_of_blamed, place_or, Known}
use Rattle.section.specs.declared.slot.Blamed.{Blamed}
use Rattle.section.specs.declared.slot.Slot.{Slot}
use Rattle.section.proofs.FirstLaws.{between_in, between_low, between_high, between_out}
use Rattle.paragraph.specs.declared.finding.Breach.{Breach}

-- ---- what an entry names

module _ (s : List ℕ) (x : ℕ) where
  pub part_none : x ≡ 0 → None ≡ part_found s x
  unfolding part_found
  part_none e = rw (eq-eqb x 0 e)

  pub fault_empty : x ≡ 0 → length s ≡ slot_fault s x
  unfolding slot_fault
  fault_empty e = rw (eq-eqb x 0 e)

  -- p is the place that the entry names
  pub part_there : (x ≡ 0 → ⊥) → (p : ℕ) → p ≡ x - 1 → (r : Record) → ahead_of 1023 s p ≡ Some (Ok r) → Some r ≡ part_found s x
  unfolding part_found
  part_there h p is r e = rw (ne_eqb x 0 h, ← is) (ap found_ahead (sym e))

  -- it names a record
  pub record Names (r : Record) : Type 0 where
    pub some : x ≡ 0 → ⊥
    pub read : Read s (x - 1) r
    pub at_r : r.at.0 ≡ x - 1

  found_as : (a : Ahead) (r : Record) → Some r ≡ found_ahead a → a ≡ Some (Ok r)
  found_as (Some (Ok q)) r e = ap (λ (k : Record). Some (Ok k)) (let z : q ≡ r = cc in z)
  found_as (Some (Err f)) r e = absurd (let z : ◌≡◌ {A = ℕ} 0 1 = cc in omega arith)
  found_as None r e = absurd (let z : ◌≡◌ {A = ℕ} 0 1 = cc in omega arith)

  pub names : (r : Record) → Bytes s → Some r ≡ part_found s x → Names r
  unfolding part_found
  names r bs e = go (eq_or x 0) e
    where
      go : (x ≡ 0) ⊎ (x ≡ 0 → ⊥) → Some r ≡ cond (eqb x 0) None (found_ahead (ahead_of 1023 s (x - 1))) → Names r
      go (inl h) e = absurd (let q = rw (eq-eqb x 0 h) at e in let z : ◌≡◌ {A = ℕ} 0 1 = cc in omega arith)
      go (inr h) e =
          let d = read_at s (x - 1) bs r (found_as _ r (rw (ne_eqb x 0 h) at e)) in
          record { some = h; read = d; at_r = ap (λ (k : Record). k.at.0) d.is }

  -- or none
  lost_as : (a : Ahead) → None ≡ found_ahead a → NoRecord a
  lost_as (Some (Ok r)) e q w = absurd (let z : ◌≡◌ {A = ℕ} 0 1 = cc in omega arith)
  lost_as (Some (Err f)) e q w = absurd (let z : ◌≡◌ {A = ℕ} 0 1 = cc in omega arith)
  lost_as None e q w = absurd (let z : ◌≡◌ {A = ℕ} 0 1 = cc in omega arith)

  -- ---- a slot judged

  pub fault_lost : None ≡ part_found s x → length s ≡ slot_fault s x
  unfolding part_found slot_fault first_fault
  fault_lost e = go (eq_or x 0) e
    where
      go : (x ≡ 0) ⊎ (x ≡ 0 → ⊥) → None ≡ cond (eqb x 0) None (found_ahead (ahead_of 1023 s (x - 1)))
          → length s ≡ cond (eqb x 0) (length s) (cond (at_fault (first_fault (records_in (drop (x - 1) s)))) (x - 1) (length s))
      go (inl h) e = rw (eq-eqb x 0 h)
      go (inr h) e = rw (ne_eqb x 0 h, none_at s (x - 1) _ refl (lost_as _ (rw (ne_eqb x 0 h) at e)))

  module _ (h : x ≡ 0 → ⊥) (y : Finding) (e : y ≡ first_fault (records_in (drop (x - 1) s))) where
    pub fault_none : y ≡ Ok tt → length s ≡ slot_fault s x
    unfolding slot_fault
    fault_none q = rw (ne_eqb x 0 h, ← e, q)

    pub fault_there : (b : Breach) → y ≡ Err b → x - 1 ≡ slot_fault s x
    unfolding slot_fault
    fault_there b q = rw (ne_eqb x 0 h, ← e, q)

-- nothing stands at the end
pub end_lawful : (s : List ℕ) → Ok tt ≡ first_fault (records_in (drop (length s) s))
unfolding first_fault
end_lawful s = rw (none_left s (length s) (omega arith))

-- what is found at a place
abbrev pub first_at : List ℕ → ℕ → Finding
first_at s p = first_fault (records_in (drop p s))

-- ---- of two at fault the one that stands first

pub known_inside : (s : List ℕ) (j : Blamed) → Known s (Some j) → j.at.0 < length s
unfolding first_fault
known_inside s j k = go (lt_or j.at.0 (length s))
  where
    go : (j.at.0 < length s) ⊎ (length s ≤ j.at.0) → j.at.0 < length s
    go (inl q) = q
    go (inr q) = absurd (let e = rw (none_left s j.at.0 q) at k in let z : ◌≡◌ {A = ℕ} 0 1 = cc in omega arith)

-- it stands at x, and what was found of it is known
abbrev pub Blames : List ℕ → Option Blamed → ℕ → Type 0
Blames s j x = (place_or (length s) j ≡ x) × Known s j

sooner_by : (s : List ℕ) (a b : Option Blamed) → Known s a → Known s b
    → Blames s (sooner place_of_blamed a b) (min (place_or (length s) a) (place_or (length s) b))
sooner_by s None None k m = (omega arith, tt)
sooner_by s None (Some y) k m = (omega (arith, known_inside s y m), m)
sooner_by s (Some x) None k m = (omega (arith, known_inside s x k), k)
sooner_by s (Some x) (Some y) k m = go (lt_or x.at.0 y.at.0)
  where
    go : (x.at.0 < y.at.0) ⊎ (y.at.0 ≤ x.at.0) → Blames s (cond (ltb x.at.0 y.at.0) (Some x) (Some y)) (min x.at.0 y.at.0)
    go (inl q) = rw (lt-ltb x.at.0 y.at.0 q) (omega arith, k)
    go (inr q) = rw (le-ltb x.at.0 y.at.0 q) (omega arith, m)

pub sooner_known : (s : List ℕ) (a b : Option Blamed) {c : Option Blamed} {x y : ℕ} → Blames s a x → Blames s b y → c ≡ sooner place_of_blamed a b
    → Blames s c (min x y)
sooner_known s a b k m e = rw (← k.0, ← m.0, e) (sooner_by s a b k.1 m.1)

-- what is noted in a slot whose paragraph has ended are its parts
pub ended_parts : (s : List ℕ) (k : Slot) {r : Record} (y : Parts) → Ended s k → (k.header ≡ 0 → ⊥) → Read s (k.header - 1) r → y ≡ parts_of s k
    → y ≡ parts_in (r.level + 1) r.next.0 (records_in (drop r.next.0 s))
ended_parts s k {r} y e h d q =
    let m : suc d.rec.level ≡ r.level + 1 = omega (arith, d.level_is) in
    let n : k.header - 1 + size d.rec ≡ r.next.0 = omega (arith, d.next-is) in
    q ∙ e d.rec (records_in (drop r.next.0 s)) h d.records ∙ ap₂ (λ (l i : ℕ). parts_in l i (records_in (drop r.next.0 s))) m n

-- ---- a record noted

module _ (k : Slot) (tag place : ℕ) where
  none_of : (tag < 67) ⊎ (71 < tag) → (n : ℕ) → 67 ≤ n → n ≤ 71 → eqb tag n ≡ false
  none_of (inl h) n a b = ne_eqb tag n (λ q. omega arith)
  none_of (inr h) n a b = ne_eqb tag n (λ q. omega arith)

  -- it is none of the parts
  pub noted_other : (tag < 67) ⊎ (71 < tag) → noted k tag place ≡ k
  unfolding noted
  noted_other t = go (eq_or k.header 0)
    where
      go : (k.header ≡ 0) ⊎ (k.header ≡ 0 → ⊥) → noted k tag place ≡ k
      go (inl e) = rw (eq-eqb k.header 0 e)
      go (inr e) =
          let z : k.controls + 0 ≡ k.controls = omega arith in
          rw (
            ne_eqb k.header 0 e,
            none_of t 67 (omega arith) (omega arith),
            none_of t 68 (omega arith) (omega arith),
            none_of t 69 (omega arith) (omega arith),
            none_of t 70 (omega arith) (omega arith),
            none_of t 71 (omega arith) (omega arith),
            z,
          )

  pub noted_header : (noted k tag place).header ≡ k.header
  unfolding noted
  noted_header = go (eq_or k.header 0)
    where
      go : (k.header ≡ 0) ⊎ (k.header ≡ 0 → ⊥) → (noted k tag place).header ≡ k.header
      go (inl e) = rw (eq-eqb k.header 0 e)
      go (inr e) = rw (ne_eqb k.header 0 e)

  pub noted_few : (noted k tag place).controls ≤ k.controls + 1
  unfolding noted
  noted_few = go (eq_or k.header 0) (eq_or tag 71)
    where
      go : (k.header ≡ 0) ⊎ (k.header ≡ 0 → ⊥) → (tag ≡ 71) ⊎ (tag ≡ 71 → ⊥) → (noted k tag place).controls ≤ k.controls + 1
      go (inl e) f = rw (eq-eqb k.header 0 e) (omega arith)
      go (inr e) (inl f) = rw (ne_eqb k.header 0 e, eq-eqb tag 71 f) (omega arith)
      go (inr e) (inr f) = rw (ne_eqb k.header 0 e, ne_eqb tag 71 f) (omega arith)

-- ---- all slots

pub slots_end : (s : List ℕ) (slots : List Slot) → length s ≡ slots_fault s slots 0
unfolding slots_fault
slots_end s slots = refl

pub slots_next : (s : List ℕ) (slots : List Slot) (i : ℕ) → min (slots_fault s slots i) (slot_fault s (slot_at slots i).header) ≡ slots_fault s slots (i + 1)
unfolding slots_fault
slots_next s slots i = let z : i + 1 ≡ suc i = omega arith in rw z

-- ---- the slots of a window: that of a level, and the others

module _ (lo : ℕ) (slots : List Slot) (tag n place : ℕ) where
  pub noted_outside : between lo (lo + 16) n ≡ false → slots ≡ noted_in lo slots tag n place
  unfolding noted_in
  noted_outside e = rw e

  pub taken_outside : between lo (lo + 16) n ≡ false → slots ≡ taken_in lo slots tag n place
  unfolding taken_in
  taken_outside e = rw e

  pub own_outside : (s : List ℕ) → between lo (lo + 16) n ≡ false → length s ≡ own_fault s lo slots n
  unfolding own_fault
  own_outside s e = rw e

  -- the window of the level n, or the slots as they are
  by_window : (C : List Slot → Type 0) (new : List Slot) → C slots → (lo ≤ n → n < lo + 16 → C new) → C (cond (between lo (lo + 16) n) new slots)
  by_window C new f g = go (lt_or n lo) (lt_or n (lo + 16))
    where
      go : (n < lo) ⊎ (lo ≤ n) → (n < lo + 16) ⊎ (lo + 16 ≤ n) → C (cond (between lo (lo + 16) n) new slots)
      go (inl a) b = rw (between_low lo (lo + 16) n a) f
      go (inr a) (inr b) = rw (between_high lo (lo + 16) n a b) f
      go (inr a) (inl b) = rw (between_in lo (lo + 16) n a b) (g a b)

  set_away : (i : ℕ) (k : Slot) → (lo + i ≡ n → ⊥) → lo ≤ n → slot_at (set slots (n - lo) k) i ≡ slot_at slots i
  set_away i k h a = get_or-set_other slots (n - lo) i k (fresh 0) (λ z. h (omega arith))

  set_here : (i : ℕ) (k : Slot) → length slots ≡ 16 → i < 16 → lo + i ≡ n → slot_at (set slots (n - lo) k) i ≡ k
  set_here i k l q e =
      let z : i ≡ n - lo = omega arith in
      ap (slot_at (set slots (n - lo) k)) z ∙ get_or-set_same slots (n - lo) k (fresh 0) (omega (arith, l))

  pub noted_away : (i : ℕ) → (lo + i ≡ n → ⊥) → slot_at (noted_in lo slots tag n place) i ≡ slot_at slots i
  unfolding noted_in
  noted_away i h = by_window (λ l. slot_at l i ≡ slot_at slots i) _ refl (λ a b. set_away i _ h a)

  pub taken_away : (i : ℕ) → (lo + i ≡ n → ⊥) → slot_at (taken_in lo slots tag n place) i ≡ slot_at slots i
  unfolding taken_in
  taken_away i h = by_window (λ l. slot_at l i ≡ slot_at slots i) _ refl (λ a b. set_away i _ h a)

  module _ (long : length slots ≡ 16) where
    pub noted_long : length (noted_in lo slots tag n place) ≡ 16
    unfolding noted_in
    noted_long = by_window (λ l. length l ≡ 16) _ long (λ a b. simp length-set long)

    pub taken_long : length (taken_in lo slots tag n place) ≡ 16
    unfolding taken_in
    taken_long = by_window (λ l. length l ≡ 16) _ long (λ a b. simp length-set long)

    module _ (i : ℕ) (q : i < 16) (e : lo + i ≡ n) where
      pub noted_here : slot_at (noted_in lo slots tag n place) i ≡ noted (slot_at slots i) tag place
      unfolding noted_in
      noted_here =
          let z : n - lo ≡ i = omega arith in
          rw (between_in lo (lo + 16) n (omega arith) (omega arith))
          (set_here i _ long q e ∙ ap (λ (j : ℕ). noted (slot_at slots j) tag place) z)

      pub taken_here : slot_at (taken_in lo slots tag n place) i ≡ fresh (cond (eqb tag 66) place 0)
      unfolding taken_in
      taken_here = rw (between_in lo (lo + 16) n (omega arith) (omega arith)) (set_here i _ long q e)

-- ---- a paragraph stands in a slot, or none

module _ (lo n : ℕ) (slots : List Slot) where
  pub held_some : {i : ℕ} → Some i ≡ held_slot lo slots n → (held_in lo slots n ≡ true) × (i ≡ n - lo)
  held_some {i} e = go (held_in lo slots n) refl e
    where
      go : (h : Bool) → held_in lo slots n ≡ h → Some i ≡ cond h (Some (n - lo)) None → (held_in lo slots n ≡ true) × (i ≡ n - lo)
      go true q e = (q, cc)
      go false q e = absurd (let z : ◌≡◌ {A = ℕ} 0 1 = cc in omega arith)

  pub held_none : None ≡ held_slot lo slots n → held_in lo slots n ≡ false
  held_none e = go (held_in lo slots n) refl e
    where
      go : (h : Bool) → held_in lo slots n ≡ h → None ≡ cond h (Some (n - lo)) None → held_in lo slots n ≡ false
      go true q e = absurd (let z : ◌≡◌ {A = ℕ} 0 1 = cc in omega arith)
      go false q e = q

  pub held_in_lem : held_in lo slots n ≡ true → (lo ≤ n) × (n < lo + 16)
  unfolding held_in
  held_in_lem e = go (lt_or n lo) (lt_or n (lo + 16))
    where
      go : (n < lo) ⊎ (lo ≤ n) → (n < lo + 16) ⊎ (lo + 16 ≤ n) → (lo ≤ n) × (n < lo + 16)
      go (inl a) b = absurd (let z : false ≡ true = sym (rw (between_low lo (lo + 16) n a)) ∙ e in let y : ◌≡◌ {A = ℕ} 0 1 = cc in omega arith)
      go (inr a) (inr b) = absurd (let z : false ≡ true = sym (rw (between_high lo (lo + 16) n a b)) ∙ e in let y : ◌≡◌ {A = ℕ} 0 1 = cc in omega arith)
      go (inr a) (inl b) = (a, b)

  pub held_fault : (s : List ℕ) → held_in lo slots n ≡ true → slot_fault s (slot_at slots (n - lo)).header ≡ own_fault s lo slots n
  unfolding own_fault
  held_fault s e = let k = held_in_lem e in rw (between_in lo (lo + 16) n k.0 k.1)

  -- where none stands, nothing is at fault
  pub unheld : (s : List ℕ) → held_in lo slots n ≡ false → own_fault s lo slots n ≡ length s
  unfolding held_in own_fault
  unheld s e = go (between lo (lo + 16) n) refl (eq_or (slot_at slots (n - lo)).header 0)
    where
      go : (b : Bool) → between lo (lo + 16) n ≡ b → ((slot_at slots (n - lo)).header ≡ 0) ⊎ ((slot_at slots (n - lo)).header ≡ 0 → ⊥)
          → cond (between lo (lo + 16) n) (slot_fault s (slot_at slots (n - lo)).header) (length s) ≡ length s
      go false q h = rw q
      go true q (inl h) = rw q (sym (fault_empty s (slot_at slots (n - lo)).header h))
      go true q (inr h) =
          absurd (let z : true ≡ false = sym (rw (q, lt-ltb 0 (slot_at slots (n - lo)).header (omega (arith, h)))) ∙ e in let y : ◌≡◌ {A = ℕ} 0 1 = cc in omega arith)

-- ---- a record outside the window

module _ (lo n : ℕ) (slots : List Slot) (tag place : ℕ) (e : between lo (lo + 16 + 1) (n + 1) ≡ false) where
  outside : (between lo (lo + 16) n ≡ false) × (between lo (lo + 16) (n + 1) ≡ false)
  outside = go (between_out lo (lo + 16 + 1) (n + 1) e)
    where
      go : (n + 1 < lo) ⊎ (lo + 16 + 1 ≤ n + 1) → (between lo (lo + 16) n ≡ false) × (between lo (lo + 16) (n + 1) ≡ false)
      go (inl h) = (between_low lo (lo + 16) n (omega arith), between_low lo (lo + 16) (n + 1) h)
      go (inr h) = (between_high lo (lo + 16) n (omega arith) (omega arith), between_high lo (lo + 16) (n + 1) (omega arith) (omega arith))

  pub far_slots : slots ≡ taken_in lo (noted_in lo slots tag n place) tag (n + 1) place
  far_slots = noted_outside lo slots tag n place outside.0 ∙ taken_outside lo (noted_in lo slots tag n place) tag (n + 1) place outside.1

  pub far_fault : (s : List ℕ) (first : ℕ) → first ≤ length s → first ≡ min first (own_fault s lo (noted_in lo slots tag n place) (n + 1))
  far_fault s first h = let z = own_outside lo (noted_in lo slots tag n place) tag (n + 1) place s outside.1 in omega (arith, z)
