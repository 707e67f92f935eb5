-- The gathering pass: each slot of its window holds a paragraph and the parts that it had so far, and what is first at fault is among those judged,
-- those held and those to come. Assumes nothing.
use Rattle.std.specs.Prelude.{None, Ok, Some}
use Prim.Native.Nat.{ℕ, zero, suc, ◌+◌, ◌-◌, ◌≤◌, ◌<◌, min}
use native.Mathlib.Omega.{arith}
use mathlib.Core.Path.{◌≡◌, refl, sym, ap, ap₂, ◌∙◌, subst}
use mathlib.Core.Logic.{◌⊎◌, inl, inr}
use mathlib.Core.Bool.{Bool, true, false, cond, ◌&&◌}
use mathlib.Core.List.{List, [], ◌∷◌}
use lib.Dec.{eqb}
use lib.ListN.{length, drop, replicate}
use borrow.Author.Tests.{eq-eqb, ne_eqb}
use Rattle.numbers.specs.Little.{Bytes}
use Rattle.records.specs.Records.{Rec, size, limit, Lawful}
use Rattle.records.specs.Reading.{ahead_of, read_all}
use Rattle.records.specs.declared.header.Record.{Record}
use Rattle.records.proofs.ReadingLaws.{encode_read}
use Rattle.text.proofs.Cases.{lt_or, eq_or}
use Rattle.paragraph.specs.Stream.{records_in}
use Rattle.paragraph.specs.Places.{parts_in, taken_as, Found}
use Rattle.paragraph.specs.Steps.{steps_over}
use Rattle.paragraph.specs.declared.children.Parts.{Parts}
use Rattle.paragraph.specs.declared.stream.RecordsFrom.{RecordsFrom}
use Rattle.paragraph.proofs.StreamLaws.{Read, Stood, in_read, read_at}
use Rattle.paragraph.proofs.ViewLaws.{side_beyond, side_deeper, side_low, side_high, side_owned}
use Rattle.paragraph.proofs.PartLaws.{Gathering, taken, nothing, gather_start, gather_beyond, gather_passed, gather_child, gather_none}
use Rattle.section.specs.Parents.{header}
use Rattle.section.specs.Windows.{between, first_in}
use Rattle.section.specs.Slots.{part_found, parts_of, below, faulty, slot_fault, slots_fault, slot_at, Ended, first_of, noted, fresh, noted_in, taken_in, own_fault, held_slot, fault_in}
use Rattle.section.specs.declared.slot.Slot.{Slot}
use Rattle.section.proofs.FirstLaws.{between_in, between_low, between_high, first_next, first_below}
use Rattle.section.proofs.SlotLaws.{held_in_lem, held_some, held_none, held_fault, unheld, far_slots, far_fault, part_none, part_there, noted_other, noted_header, noted_few, noted_away, noted_here, noted_long, taken_away, taken_here, taken_long}

-- ---- a child noted

-- an entry names a record, where it names one
pub record Shown (s : List ℕ) (x : ℕ) : Type 0 where
  pub it : Record
  pub shown : part_found s x ≡ Some it

abbrev pub Named : List ℕ → ℕ → Type 0
Named s x = (x ≡ 0) ⊎ Shown s x

-- each entry of a slot
pub record Names (s : List ℕ) (k : Slot) : Type 0 where
  pub text : Named s k.text
  pub shapes : Named s k.shapes
  pub layout : Named s k.layout
  pub marks : Named s k.marks

not_taken : (f : Found) (r : Record) → f ≡ taken_as f false r
not_taken (Some p) r = refl
not_taken None r = refl

module _ (s : List ℕ) (at : ℕ) (r : Record) (ahead : ahead_of 1023 s at ≡ Some (Ok r)) where
  at_place : Some r ≡ part_found s (at + 1)
  at_place = part_there s (at + 1) (λ z. omega arith) at (omega arith) r ahead

  -- an entry with one more record of its tag, or of another
  entry_noted : (is : Bool) (x : ℕ) → Named s x → part_found s (first_of is (at + 1) x) ≡ taken_as (part_found s x) is r
  entry_noted false x n = not_taken (part_found s x) r
  entry_noted true x n = go n (eq_or x 0)
    where
      go : Named s x → (x ≡ 0) ⊎ (x ≡ 0 → ⊥) → part_found s (cond (eqb x 0) (at + 1) x) ≡ taken_as (part_found s x) true r
      go n (inl e) = rw (eq-eqb x 0 e) (sym at_place ∙ ap (λ (f : Found). taken_as f true r) (part_none s x e))
      go (inl z) (inr e) = absurd (e z)
      go (inr w) (inr e) = rw (ne_eqb x 0 e) (w.shown ∙ ap (λ (f : Found). taken_as f true r) (sym w.shown))

  entry_named : (is : Bool) (x : ℕ) → Named s x → Named s (first_of is (at + 1) x)
  entry_named false x n = n
  entry_named true x n = go n (eq_or x 0)
    where
      go : Named s x → (x ≡ 0) ⊎ (x ≡ 0 → ⊥) → Named s (cond (eqb x 0) (at + 1) x)
      go n (inl e) = rw (eq-eqb x 0 e) (inr (record { it = r; shown = sym at_place }))
      go (inl z) (inr e) = absurd (e z)
      go (inr w) (inr e) = rw (ne_eqb x 0 e) (inr w)

  module _ (k : Slot) (h : k.header ≡ 0 → ⊥) (n : Names s k) where
    parts_noted : parts_of s (noted k r.tag (at + 1)) ≡ taken (parts_of s k) r
    unfolding parts_of taken noted
    parts_noted =
        rw (
          ne_eqb k.header 0 h,
          entry_noted (eqb r.tag 67) k.text n.text,
          entry_noted (eqb r.tag 68) k.shapes n.shapes,
          entry_noted (eqb r.tag 69) k.layout n.layout,
          entry_noted (eqb r.tag 70) k.marks n.marks,
        )

    names_noted : Names s (noted k r.tag (at + 1))
    unfolding noted
    names_noted =
        rw (ne_eqb k.header 0 h)
        (record {
          text = entry_named (eqb r.tag 67) k.text n.text;
          shapes = entry_named (eqb r.tag 68) k.shapes n.shapes;
          layout = entry_named (eqb r.tag 69) k.layout n.layout;
          marks = entry_named (eqb r.tag 70) k.marks n.marks;
        })

-- ---- what a slot holds where the pass has come to `at`

-- the parts of a paragraph whose children are at level n, from the records behind it: those up to `at` while more may come, and else all that it has
abbrev pub Parted : List ℕ → ℕ → ℕ → ℕ → Parts → ℕ → Type 0
Parted s n cap from p at = ((n ≤ cap) × Gathering s n from p at) ⊎ ((cap < n) × (p ≡ parts_in n from (records_in (drop from s))))

-- a paragraph whose children are at level n, and its parts
pub record Kept (s : List ℕ) (n cap : ℕ) (k : Slot) (at : ℕ) : Type 0 where
  pub place : ℕ
  pub is : k.header ≡ place + 1
  pub head : Rec
  pub stands : Stood s place head
  pub level_is : head.level + 1 ≡ n
  pub names : Names s k
  pub parts : Parted s n cap (place + size head) (parts_of s k) at

-- or none
abbrev pub Holds : List ℕ → ℕ → ℕ → Slot → ℕ → Type 0
Holds s n cap k at = (k.header ≡ 0) ⊎ Kept s n cap k at

module _ {s : List ℕ} {n cap : ℕ} {k : Slot} {at : ℕ} where
  -- the same paragraph with its parts as they are then
  kept_with : Kept s n cap k at → (new : Slot) (cap' at' : ℕ) → new.header ≡ k.header → Names s new
      → ((from : ℕ) → Parted s n cap from (parts_of s k) at → Parted s n cap' from (parts_of s new) at') → Kept s n cap' new at'
  kept_with h _ cap' at' e m p =
      record { place = h.place; is = e ∙ h.is; head = h.head; stands = h.stands; level_is = h.level_is; names = m; parts = p (h.place + size h.head) h.parts }

  -- all parts are there
  ended_by : (h : Kept s n cap k at) → parts_of s k ≡ parts_in n (h.place + size h.head) (records_in (drop (h.place + size h.head) s)) → Ended s k
  ended_by h e x rs m q =
      let z : k.header - 1 ≡ h.place = omega (arith, h.is) in
      let two : h.head ∷ records_in (drop (h.place + size h.head) s) ≡ x ∷ rs = sym h.stands.records ∙ ap (λ (i : ℕ). records_in (drop i s)) (sym z) ∙ q in
      let one : h.head ≡ x = cc in
      let rest : records_in (drop (h.place + size h.head) s) ≡ rs = cc in
      let n-is : n ≡ suc h.head.level = omega (arith, h.level_is) in
      e ∙ rw (n-is, rest, one, z)

  holds_by : ((h : Kept s n cap k at) → parts_of s k ≡ parts_in n (h.place + size h.head) (records_in (drop (h.place + size h.head) s)))
      → Holds s n cap k at → Ended s k
  holds_by f (inl z) = λ x rs m q. absurd (m z)
  holds_by f (inr h) = ended_by h (f h)

  -- below the levels whose children may still come
  pub holds_ended : cap < n → Holds s n cap k at → Ended s k
  holds_ended h = holds_by (λ w. go w.parts)
    where
      go : {from : ℕ} → Parted s n cap from (parts_of s k) at → parts_of s k ≡ parts_in n from (records_in (drop from s))
      go (inl (a, g)) = absurd (omega arith)
      go (inr (a, g)) = g

  -- where the stream ends
  pub holds_last : records_in (drop at s) ≡ [] → Holds s n cap k at → Ended s k
  holds_last e = holds_by (λ w. go w.parts)
    where
      go : {from : ℕ} → Parted s n cap from (parts_of s k) at → parts_of s k ≡ parts_in n from (records_in (drop from s))
      go (inl (a, g)) = gather_none g e
      go (inr (a, g)) = g

-- ---- a record is noted with its parent: each slot as it then is, with the children up to the record's level still to come

module _ (s : List ℕ) (at : ℕ) (r : Record) (d : Read s at r) (k : Slot) (cap : ℕ) (l : r.level ≤ cap) where
  -- a slot of another level
  moved : (n : ℕ) → (n ≡ r.level → ⊥) → (from : ℕ) → Parted s n cap from (parts_of s k) at → Parted s n r.level from (parts_of s k) r.next.0
  moved n h from (inr (a, g)) = inr (omega arith, g)
  moved n h from (inl (a, g)) = go (lt_or n r.level)
    where
      go : (n < r.level) ⊎ (r.level ≤ n) → Parted s n r.level from (parts_of s k) r.next.0
      go (inl b) = inl (omega arith, gather_passed g d (side_deeper n r.tag r.level b))
      go (inr b) = let c : r.level < n = omega (arith, h) in inr (c, gather_beyond g d (side_beyond n r.tag r.level c))

  holds_moved : (n : ℕ) → (n ≡ r.level → ⊥) → Holds s n cap k at → Holds s n r.level k r.next.0
  holds_moved n h (inl z) = inl z
  holds_moved n h (inr w) = inr (kept_with w k r.level r.next.0 refl w.names (moved n h))

  -- the parent's: the record is none of its parts, or one
  passed_by : (r.tag < 67) ⊎ (71 < r.tag) → (from : ℕ) → Parted s r.level cap from (parts_of s k) at → Parted s r.level r.level from (parts_of s k) r.next.0
  passed_by t from (inr (c, g)) = absurd (omega arith)
  passed_by (inl t) from (inl (c, g)) = inl (omega arith, gather_passed g d (side_low r.level r.tag r.level refl t))
  passed_by (inr t) from (inl (c, g)) = inl (omega arith, gather_passed g d (side_high r.level r.tag r.level refl (omega arith) t))

  module _ (ahead : ahead_of 1023 s at ≡ Some (Ok r)) where
    abbrev then : Slot
    then = noted k r.tag (at + 1)

    child_by : (k.header ≡ 0 → ⊥) → Names s k → 67 ≤ r.tag → r.tag ≤ 71 → (from : ℕ) → Parted s r.level cap from (parts_of s k) at
        → Parted s r.level r.level from (parts_of s then) r.next.0
    child_by h n t u from (inr (c, g)) = absurd (omega arith)
    child_by h n t u from (inl (c, g)) =
        inl (
          omega arith,
          subst (λ (p : Parts). Gathering s r.level from p r.next.0) (sym (parts_noted s at r ahead k h n)) (gather_child g d (side_owned r.level r.tag r.level refl t u)),
        )

    holds_noted : Holds s r.level cap k at → Holds s r.level r.level then r.next.0
    holds_noted (inl z) = inl (noted_header k r.tag (at + 1) ∙ z)
    holds_noted (inr w) = go (lt_or r.tag 67) (lt_or 71 r.tag)
      where
        h : k.header ≡ 0 → ⊥
        h z = omega (arith, w.is)

        other : (r.tag < 67) ⊎ (71 < r.tag) → Holds s r.level r.level then r.next.0
        other t = rw (noted_other k r.tag (at + 1) t) (inr (kept_with w k r.level r.next.0 refl w.names (passed_by t)))

        go : (r.tag < 67) ⊎ (67 ≤ r.tag) → (71 < r.tag) ⊎ (r.tag ≤ 71) → Holds s r.level r.level then r.next.0
        go (inl t) u = other (inl t)
        go (inr t) (inl u) = other (inr u)
        go (inr t) (inr u) =
            inr (kept_with w then r.level r.next.0 (noted_header k r.tag (at + 1)) (names_noted s at r ahead k h w.names) (child_by h w.names t u))

-- ---- a record takes its own slot, where the parents' are as they are

module _ (s : List ℕ) (at : ℕ) (r : Record) (d : Read s at r) where
  -- the paragraph header's place, and one more; or none
  abbrev pub own_header : ℕ
  own_header = cond (eqb r.tag 66) (at + 1) 0

  fresh_parts : (x : ℕ) → parts_of s (fresh x) ≡ nothing
  unfolding parts_of
  fresh_parts x = rw (← part_none s 0 refl)

  header_taken : r.tag ≡ 66 → Kept s (r.level + 1) (r.level + 1) (fresh (at + 1)) r.next.0
  header_taken t =
      record {
        place = at;
        is = refl;
        head = d.rec;
        stands = d.stands;
        level_is = omega (arith, d.level_is);
        names = record { text = inl refl; shapes = inl refl; layout = inl refl; marks = inl refl };
        parts =
            inl (
              omega arith,
              subst (λ (p : Parts). Gathering s (r.level + 1) (at + size d.rec) p r.next.0) (sym (fresh_parts (at + 1)))
                  (subst (λ (n : ℕ). Gathering s (r.level + 1) (at + size d.rec) nothing n) (sym d.next-is) (gather_start s (r.level + 1) (at + size d.rec))),
            );
      }

  holds_own : Holds s (r.level + 1) (r.level + 1) (fresh own_header) r.next.0
  holds_own = go (eq_or r.tag 66)
    where
      go : (r.tag ≡ 66) ⊎ (r.tag ≡ 66 → ⊥) → Holds s (r.level + 1) (r.level + 1) (fresh (cond (eqb r.tag 66) (at + 1) 0)) r.next.0
      go (inl t) = rw (eq-eqb r.tag 66 t) (inr (header_taken t))
      go (inr t) = rw (ne_eqb r.tag 66 t) (inl refl)

  -- one level more may come
  one_more_level : (n : ℕ) (p : Parts) (q : ℕ) → (n ≡ r.level + 1 → ⊥) → (from : ℕ) → Parted s n r.level from p q → Parted s n (r.level + 1) from p q
  one_more_level n p q h from (inl (a, g)) = inl (omega arith, g)
  one_more_level n p q h from (inr (a, g)) = inr (omega (arith, h), g)

  holds_more : (n : ℕ) (k : Slot) (q : ℕ) → (n ≡ r.level + 1 → ⊥) → Holds s n r.level k q → Holds s n (r.level + 1) k q
  holds_more n k q h (inl z) = inl z
  holds_more n k q h (inr w) = inr (kept_with w k (r.level + 1) q refl w.names (one_more_level n (parts_of s k) q h))

-- ---- what is first at fault

module _ (s : List ℕ) (l new : List Slot) where
  slots_same : (n : ℕ) → ((i : ℕ) → i < n → (slot_at new i).header ≡ (slot_at l i).header) → slots_fault s new n ≡ slots_fault s l n
  unfolding slots_fault
  slots_same zero e = refl
  slots_same (suc n) e = ap₂ min (slots_same n (λ i q. e i (omega arith))) (ap (slot_fault s) (e n (omega arith)))

  -- one slot changed
  slots_swap : (j n : ℕ) → j < n → ((i : ℕ) → (i ≡ j → ⊥) → (slot_at new i).header ≡ (slot_at l i).header)
      → min (slot_fault s (slot_at l j).header) (slots_fault s new n) ≡ min (slot_fault s (slot_at new j).header) (slots_fault s l n)
  unfolding slots_fault
  slots_swap j zero h e = absurd (omega arith)
  slots_swap j (suc n) h e = go (eq_or n j) (λ q. slots_swap j n q e)
    where
      go : (n ≡ j) ⊎ (n ≡ j → ⊥)
          → (j < n → min (slot_fault s (slot_at l j).header) (slots_fault s new n) ≡ min (slot_fault s (slot_at new j).header) (slots_fault s l n))
          → min (slot_fault s (slot_at l j).header) (slots_fault s new (suc n)) ≡ min (slot_fault s (slot_at new j).header) (slots_fault s l (suc n))
      go (inl q) ih =
          let a : slots_fault s new n ≡ slots_fault s l n = slots_same n (λ i w. e i (λ z. omega arith)) in
          rw (a, q) (omega arith)
      go (inr q) ih =
          let a : slot_fault s (slot_at new n).header ≡ slot_fault s (slot_at l n).header = ap (slot_fault s) (e n q) in
          omega (arith, a, ih (omega (arith, q)))

slots_below : (s : List ℕ) (l : List Slot) (n : ℕ) → slots_fault s l n ≤ length s
unfolding slots_fault
slots_below s l zero = omega arith
slots_below s l (suc n) = omega (arith, slots_below s l n)

slots_empty : (s : List ℕ) (l : List Slot) (n : ℕ) → ((i : ℕ) → slot_at l i ≡ fresh 0) → slots_fault s l n ≡ length s
unfolding slots_fault slot_fault
slots_empty s l zero e = refl
slots_empty s l (suc n) e = rw (slots_empty s l n e, e n) (omega arith)

-- one that was to come is judged or held
join : (a b c : ℕ) → min (min a b) c ≡ min a (min b c)
join a b c = omega arith

turn : (a b c : ℕ) → min a (min b c) ≡ min (min b a) c
turn a b c = omega arith

exchange : (first held one still own new first' : ℕ) {F : ℕ} → F ≡ min first (min held (min one still)) → min own new ≡ min one held → first' ≡ min first own
    → F ≡ min first' (min new still)
exchange first held one still own new first' r e f =
    r
    ∙ ap (min first) (turn held one still ∙ ap (λ (n : ℕ). min n still) (sym e) ∙ join own new still)
    ∙ sym (join first own (min new still))
    ∙ ap (λ (n : ℕ). min n (min new still)) (sym f)

-- a record of the window, and its new entry
module _ (s : List ℕ) (at : ℕ) (r : Record) (d : Read s at r) (earlier : List Rec) where
  abbrev left : List Rec
  left = records_in (drop r.next.0 s)

  new_fault : slot_fault s (cond (eqb r.tag 66) (at + 1) 0) ≡ cond (faulty earlier d.rec left) at (length s)
  unfolding slot_fault header
  new_fault = go (eq_or r.tag 66)
    where
      go : (r.tag ≡ 66) ⊎ (r.tag ≡ 66 → ⊥) → slot_fault s (cond (eqb r.tag 66) (at + 1) 0) ≡ cond (faulty earlier d.rec left) at (length s)
      go (inl t) =
          let z : at + 1 - 1 ≡ at = omega arith in
          let t' : d.rec.tag ≡ 66 = sym d.tag_is ∙ t in
          rw (eq-eqb r.tag 66 t, eq-eqb d.rec.tag 66 t', ne_eqb (at + 1) 0 (λ q. omega arith), z, d.records)
      go (inr t) = rw (ne_eqb r.tag 66 t, ne_eqb d.rec.tag 66 (λ q. t (d.tag_is ∙ q)))

  -- one of the window, judged or held, in place of one to come
  module _ (lo : ℕ) (slots : List Slot) (long : length slots ≡ 16) where
    abbrev own_new : List Slot
    own_new = taken_in lo slots r.tag (r.level + 1) (at + 1)

    abbrev next_one : ℕ
    next_one = cond (between lo (lo + 16) (below d.rec) && faulty earlier d.rec left) at (length s)

    outside : between lo (lo + 16) (r.level + 1) ≡ false → min (own_fault s lo slots (r.level + 1)) (slots_fault s own_new 16) ≡ min next_one (slots_fault s slots 16)
    unfolding own_fault taken_in
    outside e = let w : between lo (lo + 16) (d.rec.level + 1) ≡ false = ap (λ (n : ℕ). between lo (lo + 16) (n + 1)) (sym d.level_is) ∙ e in rw (e, w)

    inside_by : (lo ≤ r.level + 1) → r.level + 1 < lo + 16 → between lo (lo + 16) (r.level + 1) ≡ true
        → min (own_fault s lo slots (r.level + 1)) (slots_fault s own_new 16) ≡ min next_one (slots_fault s slots 16)
    unfolding own_fault
    inside_by a b e =
        let w : between lo (lo + 16) (d.rec.level + 1) ≡ true = ap (λ (n : ℕ). between lo (lo + 16) (n + 1)) (sym d.level_is) ∙ e in
        let j = r.level + 1 - lo in
        let x = cond (eqb r.tag 66) (at + 1) 0 in
        let k = slots_swap s slots own_new j 16 (omega arith) (λ i h. ap (λ (q : Slot). q.header) (taken_away lo slots r.tag (r.level + 1) (at + 1) i (λ z. h (omega arith)))) in
        let q : (slot_at own_new j).header ≡ x = ap (λ (q : Slot). q.header) (taken_here lo slots r.tag (r.level + 1) (at + 1) long j (omega arith) (omega arith)) in
        rw (e, w) (k ∙ ap (λ (y : ℕ). min (slot_fault s y) (slots_fault s slots 16)) q ∙ ap (λ (y : ℕ). min y (slots_fault s slots 16)) new_fault)

    pub exchanged : min (own_fault s lo slots (r.level + 1)) (slots_fault s own_new 16) ≡ min next_one (slots_fault s slots 16)
    exchanged = go (lt_or (r.level + 1) lo) (lt_or (r.level + 1) (lo + 16))
      where
        go : (r.level + 1 < lo) ⊎ (lo ≤ r.level + 1) → (r.level + 1 < lo + 16) ⊎ (lo + 16 ≤ r.level + 1)
            → min (own_fault s lo slots (r.level + 1)) (slots_fault s own_new 16) ≡ min next_one (slots_fault s slots 16)
        go (inl a) b = outside (between_low lo (lo + 16) (r.level + 1) a)
        go (inr a) (inr b) = outside (between_high lo (lo + 16) (r.level + 1) a b)
        go (inr a) (inl b) = inside_by a b (between_in lo (lo + 16) (r.level + 1) a b)

-- ---- where the pass stands at its loop's head

pub record Gathers (s : List ℕ) (lo : ℕ) (slots : List Slot) (at first : ℕ) : Type 0 where
  pub small : length s ≤ limit
  pub inside : at ≤ length s
  pub first_low : first ≤ length s
  pub long : length slots ≡ 16
  pub few : (i : ℕ) → i < 16 → (slot_at slots i).controls ≤ at
  pub cap : ℕ
  pub earlier : List Rec
  pub lawful : Lawful cap (records_in (drop at s))
  pub slot : (i : ℕ) → i < 16 → Holds s (lo + i) cap (slot_at slots i) at
  pub rest : fault_in lo (lo + 16) s
      ≡ min first (min (slots_fault s slots 16) (first_in below faulty lo (lo + 16) (length s) at earlier (records_in (drop at s))))

pub empty_slots : (n : ℕ) (k : Slot) → k ≡ fresh 0 → (i : ℕ) → slot_at (replicate {A = Slot} n k) i ≡ fresh 0
empty_slots zero k e i = refl
empty_slots (suc n) k e zero = e
empty_slots (suc n) k e (suc i) = empty_slots n k e i

pub gathers_start : (s : List ℕ) (lo : ℕ) (slots : List Slot) → Bytes s → length s ≤ limit → (read_all s).stop ≡ None → length slots ≡ 16
    → ((i : ℕ) → slot_at slots i ≡ fresh 0) → Gathers s lo slots 0 (length s)
unfolding fault_in read_all
gathers_start s lo slots bs h e n z =
    record {
      small = h;
      inside = omega arith;
      first_low = omega arith;
      long = n;
      few = λ i _. omega (arith, ap (λ (k : Slot). k.controls) (z i));
      cap = 0;
      earlier = [];
      lawful = subst (Lawful 0) (sym (in_read s bs e)) (encode_read 0 s bs e).lawful;
      slot = λ i q. inl (ap (λ (k : Slot). k.header) (z i));
      rest = let b = first_below below faulty lo (lo + 16) (length s) 0 [] (records_in s) in omega (arith, slots_empty s slots 16 z, b);
    }

-- the record that a step gives
pub record Given (s : List ℕ) (at : ℕ) (r : Record) : Type 0 where
  pub ahead : ahead_of 1023 s at ≡ Some (Ok r)
  pub read : Read s at r
  pub at_r : r.at.0 ≡ at

pub given : {s : List ℕ} {p q : RecordsFrom} {r : Record} → Bytes s → p.stream.now ≡ s → steps_over p (Some r) q → Given s p.at.0 r
given {s} {p} {q} {r} bs e w =
    let d = read_at s p.at.0 bs r (rw e at w.0) in
    record { ahead = rw e at w.0; read = d; at_r = ap (λ (x : Record). x.at.0) d.is }

module _ {s : List ℕ} {lo : ℕ} {slots : List Slot} {at first : ℕ} {r : Record} (k : Gathers s lo slots at first) (g : Given s at r) where
  abbrev d : Read s at r
  d = g.read

  obeyed : Lawful k.cap (d.rec ∷ records_in (drop r.next.0 s))
  obeyed = subst (Lawful k.cap) d.records k.lawful

  level_low : r.level ≤ k.cap
  level_low = omega (arith, obeyed.0.level_cap, d.level_is)

  abbrev pub noted_slots : List Slot
  noted_slots = noted_in lo slots r.tag r.level (at + 1)

  pub noted_room : length noted_slots ≡ 16
  noted_room = noted_long lo slots r.tag r.level (at + 1) k.long

  noted_slot : (i : ℕ) → i < 16 → Holds s (lo + i) r.level (slot_at noted_slots i) r.next.0
  noted_slot i q = go (eq_or (lo + i) r.level)
    where
      go : (lo + i ≡ r.level) ⊎ (lo + i ≡ r.level → ⊥) → Holds s (lo + i) r.level (slot_at noted_slots i) r.next.0
      go (inl e) =
          rw (noted_here lo slots r.tag r.level (at + 1) k.long i q e, e)
          (holds_noted s at r d (slot_at slots i) k.cap level_low g.ahead (subst (λ (n : ℕ). Holds s n k.cap (slot_at slots i) at) e (k.slot i q)))
      go (inr e) = rw (noted_away lo slots r.tag r.level (at + 1) i e) (holds_moved s at r d (slot_at slots i) k.cap level_low (lo + i) e (k.slot i q))

  few_noted : (i : ℕ) → i < 16 → (slot_at noted_slots i).controls ≤ at + 1
  few_noted i q = go (eq_or (lo + i) r.level)
    where
      go : (lo + i ≡ r.level) ⊎ (lo + i ≡ r.level → ⊥) → (slot_at noted_slots i).controls ≤ at + 1
      go (inl e) = rw (noted_here lo slots r.tag r.level (at + 1) k.long i q e) (omega (arith, noted_few (slot_at slots i) r.tag (at + 1), k.few i q))
      go (inr e) = rw (noted_away lo slots r.tag r.level (at + 1) i e) (omega (arith, k.few i q))

  noted_heads : (i : ℕ) → i < 16 → (slot_at noted_slots i).header ≡ (slot_at slots i).header
  noted_heads i q = go (eq_or (lo + i) r.level)
    where
      go : (lo + i ≡ r.level) ⊎ (lo + i ≡ r.level → ⊥) → (slot_at noted_slots i).header ≡ (slot_at slots i).header
      go (inl e) = rw (noted_here lo slots r.tag r.level (at + 1) k.long i q e) (noted_header (slot_at slots i) r.tag (at + 1))
      go (inr e) = rw (noted_away lo slots r.tag r.level (at + 1) i e)

  abbrev pub taken_slots : List Slot
  taken_slots = taken_in lo noted_slots r.tag (r.level + 1) (at + 1)

  taken_slot : (i : ℕ) → i < 16 → Holds s (lo + i) (r.level + 1) (slot_at taken_slots i) r.next.0
  taken_slot i q = go (eq_or (lo + i) (r.level + 1))
    where
      go : (lo + i ≡ r.level + 1) ⊎ (lo + i ≡ r.level + 1 → ⊥) → Holds s (lo + i) (r.level + 1) (slot_at taken_slots i) r.next.0
      go (inl e) = rw (taken_here lo noted_slots r.tag (r.level + 1) (at + 1) noted_room i q e, e) (holds_own s at r d)
      go (inr e) =
          rw (taken_away lo noted_slots r.tag (r.level + 1) (at + 1) i e)
          (holds_more s at r d (lo + i) (slot_at noted_slots i) r.next.0 e (noted_slot i q))

  few_taken : (i : ℕ) → i < 16 → (slot_at taken_slots i).controls ≤ at + 1
  few_taken i q = go (eq_or (lo + i) (r.level + 1))
    where
      go : (lo + i ≡ r.level + 1) ⊎ (lo + i ≡ r.level + 1 → ⊥) → (slot_at taken_slots i).controls ≤ at + 1
      go (inl e) = rw (taken_here lo noted_slots r.tag (r.level + 1) (at + 1) noted_room i q e) (omega arith)
      go (inr e) = rw (taken_away lo noted_slots r.tag (r.level + 1) (at + 1) i e) (few_noted i q)

  -- the paragraph in the record's own slot has ended
  gathers_ended : lo ≤ r.level + 1 → r.level + 1 < lo + 16 → Ended s (slot_at noted_slots (r.level + 1 - lo))
  gathers_ended a b = holds_ended {cap = r.level} {at = r.next.0} (omega arith) (noted_slot (r.level + 1 - lo) (omega arith))

  abbrev still : ℕ
  still = first_in below faulty lo (lo + 16) (length s) r.next.0 (d.rec ∷ k.earlier) (records_in (drop r.next.0 s))

  to_come : first_in below faulty lo (lo + 16) (length s) at k.earlier (records_in (drop at s)) ≡ min (next_one s at r d k.earlier lo noted_slots noted_room) still
  to_come =
      ap (first_in below faulty lo (lo + 16) (length s) at k.earlier) d.records
      ∙ first_next below faulty lo (lo + 16) (length s) at k.earlier d.rec (records_in (drop r.next.0 s))
      ∙ ap (λ (n : ℕ). min (next_one s at r d k.earlier lo noted_slots noted_room) (first_in below faulty lo (lo + 16) (length s) n (d.rec ∷ k.earlier) (records_in (drop r.next.0 s)))) (sym d.next-is)

  gathers_next : (own first' : ℕ) → own ≡ own_fault s lo noted_slots (r.level + 1) → first' ≡ min first own → Gathers s lo taken_slots r.next.0 first'
  gathers_next own first' o f =
      record {
        small = k.small;
        inside = omega (arith, d.stands.inside, d.next-is);
        first_low = omega (arith, k.first_low, f);
        long = taken_long lo noted_slots r.tag (r.level + 1) (at + 1) noted_room;
        few = λ i q. omega (arith, d.next-is, d.least, few_taken i q);
        cap = r.level + 1;
        earlier = d.rec ∷ k.earlier;
        lawful = subst (λ (n : ℕ). Lawful (n + 1) (records_in (drop r.next.0 s))) (sym d.level_is) obeyed.1;
        slot = taken_slot;
        rest =
            let a : slots_fault s noted_slots 16 ≡ slots_fault s slots 16 = slots_same s slots noted_slots 16 noted_heads in
            let b = exchanged s at r d k.earlier lo noted_slots noted_room in
            exchange first (slots_fault s slots 16) (next_one s at r d k.earlier lo noted_slots noted_room) still own (slots_fault s taken_slots 16) first'
            (k.rest ∙ ap (λ (n : ℕ). min first (min (slots_fault s slots 16) n)) to_come) (ap (λ (n : ℕ). min n (slots_fault s taken_slots 16)) o ∙ b ∙ ap (min (next_one s at r d k.earlier lo noted_slots noted_room)) a) f;
      }

  -- the same by the slots as the calls left them, and what was judged
  gathers_step : (two : List Slot) (first' : ℕ) → first' ≡ min first (own_fault s lo noted_slots (r.level + 1)) → two ≡ taken_slots → Gathers s lo two r.next.0 first'
  gathers_step two first' f t =
      subst (λ (l : List Slot). Gathers s lo l r.next.0 first') (sym t) (gathers_next (own_fault s lo noted_slots (r.level + 1)) first' refl f)

  -- where the paragraph in the record's own slot is judged, and where none stands there
  module _ {one : List Slot} (n : one ≡ noted_in lo slots r.tag r.level (r.at.0 + 1)) where
    noted_as : one ≡ noted_slots
    noted_as = n ∙ ap (λ (p : ℕ). noted_in lo slots r.tag r.level (p + 1)) g.at_r

    -- where it is judged, it has ended
    pub gathers_ready : {i : ℕ} → Some i ≡ held_slot lo one (r.level + 1) → (i < 16) × Ended s (slot_at one i)
    gathers_ready {i} h =
        let w = held_some lo (r.level + 1) one h in
        let q = held_in_lem lo (r.level + 1) one w.0 in
        rw (w.1, noted_as) (omega (arith, q.0, q.1), gathers_ended q.0 q.1)

    module _ {two : List Slot} (t : two ≡ taken_in lo one r.tag (r.level + 1) (r.at.0 + 1)) where
      taken_as_one : two ≡ taken_slots
      taken_as_one =
          t ∙ ap (λ (p : ℕ). taken_in lo one r.tag (r.level + 1) (p + 1)) g.at_r
          ∙ ap (λ (l : List Slot). taken_in lo l r.tag (r.level + 1) (at + 1)) noted_as

      pub gathers_held : {i judged first' : ℕ} → Some i ≡ held_slot lo one (r.level + 1) → judged ≡ slot_fault s (slot_at one i).header
          → first' ≡ min first judged → Gathers s lo two r.next.0 first'
      gathers_held {i} {judged} {first'} h j f =
          let w = held_some lo (r.level + 1) one h in
          let q : judged ≡ slot_fault s (slot_at one (r.level + 1 - lo)).header = j ∙ ap (λ (i : ℕ). slot_fault s (slot_at one i).header) w.1 in
          gathers_step two first'
          (f ∙ ap (min first) (q ∙ held_fault lo (r.level + 1) one s w.0 ∙ ap (λ (l : List Slot). own_fault s lo l (r.level + 1)) noted_as)) taken_as_one

      pub gathers_unheld : None ≡ held_slot lo one (r.level + 1) → Gathers s lo two r.next.0 first
      gathers_unheld h =
          let z = ap (λ (l : List Slot). own_fault s lo l (r.level + 1)) (sym noted_as) ∙ unheld lo (r.level + 1) one s (held_none lo (r.level + 1) one h) in
          gathers_step two first (omega (arith, z, k.first_low)) taken_as_one

  -- a record outside the window
  pub gathers_far : between lo (lo + 16 + 1) (r.level + 1) ≡ false → Gathers s lo slots r.next.0 first
  gathers_far e = gathers_step slots first (far_fault lo r.level slots r.tag (at + 1) e s first k.first_low) (far_slots lo r.level slots r.tag (at + 1) e)

  -- its numbers are small
  pub gathers_place : r.at.0 < 16777216
  gathers_place = omega (arith, k.small, d.stands.inside, d.least, g.at_r)

  pub gathers_level : r.level < 1024
  gathers_level = omega (arith, d.level_is, d.stands.level_high)

module _ {s : List ℕ} {lo : ℕ} {slots : List Slot} {at first : ℕ} (k : Gathers s lo slots at first) (e : records_in (drop at s) ≡ []) where
  pub gathers_last : (i : ℕ) → i < 16 → Ended s (slot_at slots i)
  gathers_last i q = holds_last e (k.slot i q)

  pub gathers_first : (x : ℕ) → x ≡ slots_fault s slots 16 → min first x ≡ fault_in lo (lo + 16) s
  unfolding first_in
  gathers_first x q =
      let z : first_in below faulty lo (lo + 16) (length s) at k.earlier (records_in (drop at s)) ≡ length s = ap (first_in below faulty lo (lo + 16) (length s) at k.earlier) e in
      omega (arith, k.rest, z, q, slots_below s slots 16)
