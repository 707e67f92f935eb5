-- A pass of rule 9 over a window of levels: what is still to be judged where it has come to some place. Assumes nothing.
use Rattle.std.specs.Prelude.{None, Some}
use Prim.Native.Nat.{ℕ, ◌+◌, ◌≤◌, ◌<◌}
use native.Mathlib.Omega.{arith}
use mathlib.Core.Path.{◌≡◌, refl, sym, ap, ap₂, ◌∙◌, subst}
use mathlib.Core.Logic.{◌⊎◌, inl, inr}
use mathlib.Core.Bool.{Bool, true, false, cond, ◌&&◌}
use mathlib.Core.List.{List, [], ◌∷◌}
use lib.ListN.{length, get_or, set, drop, length-set, get_or-eq_default}
use lib.Seq.{get_or-set_same, get_or-set_other}
use borrow.Author.Tests.{lt-ltb, le-ltb}
use Rattle.records.specs.Records.{Rec, size}
use Rattle.records.specs.Reading.{Read, offset, onto, read_from, read_all}
use Rattle.records.specs.declared.fault.Offset.{Offset}
use Rattle.records.specs.declared.header.Record.{Record}
use Rattle.records.proofs.ReadingLaws.{Here}
use Rattle.text.proofs.Cases.{lt_or, eq_or}
use Rattle.section.specs.Parents.{misplaced, leaf}
use Rattle.section.specs.Seats.{own_code, bit_of, seat_of, Seat}
use Rattle.section.specs.Windows.{between, first_in}
use Rattle.section.specs.Sweeps.{index_in, is_stray, seat_in, seated_by, seated_in, stray_in, found_at, stray_at}
use Rattle.section.proofs.SeatLaws.{Speaks, speaks_start, speaks_skip, speaks_own, Seating, strays, sits, seating, seat_free}
use Rattle.section.proofs.FirstLaws.{between_in, between_low, between_high, between_out, first_miss, first_hit}

-- ---- a record is named exactly where its level is in the window and rule 9 names it

abbrev named : ℕ → Rec → List Rec → Bool
named lo r earlier = between lo (lo + 200) r.level && misplaced r earlier

data Judging (lo code : ℕ) (r : Rec) (earlier : List Rec) : Type 0 where
  names : seat_of code r.tag ≡ None → named lo r earlier ≡ true → Judging lo code r earlier
  passes : (c : ℕ) → seat_of code r.tag ≡ Some c → named lo r earlier ≡ false
      → (index_in lo r.level < 200 → Speaks c r.level (r ∷ earlier)) → Judging lo code r earlier

module _ (lo : ℕ) (table : List ℕ) (r : Rec) (earlier : List Rec) (long : length table ≡ 200) where
  abbrev code : ℕ
  code = get_or table (index_in lo r.level) 0

  judged_in : between lo (lo + 200) r.level ≡ true → Seating code r earlier → Judging lo code r earlier
  judged_in b (strays e m) = names e (rw b m)
  judged_in b (sits c e m w) = passes c e (rw b m) (λ _. w)

  -- outside the window the number is 0
  judged_out : between lo (lo + 200) r.level ≡ false → 200 ≤ index_in lo r.level → Judging lo code r earlier
  judged_out b h =
      passes (cond (leaf r.tag) (bit_of r.tag) 0)
      (ap (λ (c : ℕ). seat_of c r.tag) (get_or-eq_default table 0 (omega arith)) ∙ seat_free r.tag) (rw b) (λ q. absurd (omega arith))

  judging : (index_in lo r.level < 200 → Speaks code r.level earlier) → Judging lo code r earlier
  judging speaks = go (lt_or r.level lo) (lt_or r.level (lo + 200))
    where
      go : (r.level < lo) ⊎ (lo ≤ r.level) → (r.level < lo + 200) ⊎ (lo + 200 ≤ r.level) → Judging lo code r earlier
      go (inl a) b = judged_out (between_low lo (lo + 200) r.level a) (omega arith)
      go (inr a) (inl b) = judged_in (between_in lo (lo + 200) r.level a b) (seating code r earlier (speaks (omega arith)))
      go (inr a) (inr b) = judged_out (between_high lo (lo + 200) r.level a b) (omega arith)

  -- the numbers after a record
  module _ (c own : ℕ) where
    abbrev seated : List ℕ
    seated = set table (index_in lo r.level) c

    abbrev after : List ℕ
    after = set seated (index_in lo (r.level + 1)) own

    after_below : (l : ℕ) → index_in lo l < 200 → l < r.level → get_or after (index_in lo l) 0 ≡ get_or table (index_in lo l) 0
    after_below l a q =
        get_or-set_other seated (index_in lo (r.level + 1)) (index_in lo l) own 0 (λ z. omega arith)
        ∙ get_or-set_other table (index_in lo r.level) (index_in lo l) c 0 (λ z. omega arith)

    after_here : index_in lo r.level < 200 → get_or after (index_in lo r.level) 0 ≡ c
    after_here a =
        get_or-set_other seated (index_in lo (r.level + 1)) (index_in lo r.level) own 0 (λ z. omega arith)
        ∙ get_or-set_same table (index_in lo r.level) c 0 (omega arith)

    after_own : index_in lo (r.level + 1) < 200 → get_or after (index_in lo (r.level + 1)) 0 ≡ own
    after_own a = get_or-set_same seated (index_in lo (r.level + 1)) own 0 (omega (arith, length-set table (index_in lo r.level) c))

    after_speaks : own ≡ own_code r.tag → (index_in lo r.level < 200 → Speaks c r.level (r ∷ earlier))
        → ((l : ℕ) → index_in lo l < 200 → l < r.level → Speaks (get_or table (index_in lo l) 0) l earlier)
        → (l : ℕ) → index_in lo l < 200 → l ≤ r.level + 1 → Speaks (get_or after (index_in lo l) 0) l (r ∷ earlier)
    after_speaks e here before l a q = go (lt_or l r.level) (eq_or l r.level)
      where
        go : (l < r.level) ⊎ (r.level ≤ l) → (l ≡ r.level) ⊎ (l ≡ r.level → ⊥) → Speaks (get_or after (index_in lo l) 0) l (r ∷ earlier)
        go (inl k) w = subst (λ (x : ℕ). Speaks x l (r ∷ earlier)) (sym (after_below l a k)) (speaks_skip r k (before l a k))
        go (inr k) (inl w) =
            subst (λ (m : ℕ). Speaks (get_or after (index_in lo m) 0) m (r ∷ earlier)) (sym w)
            (let i : index_in lo r.level < 200 = subst (λ (m : ℕ). index_in lo m < 200) w a in
            subst (λ (x : ℕ). Speaks x r.level (r ∷ earlier)) (sym (after_here i)) (here i))
        go (inr k) (inr w) =
            let z : l ≡ r.level + 1 = omega arith in
            subst (λ (m : ℕ). Speaks (get_or after (index_in lo m) 0) m (r ∷ earlier)) (sym z)
            (subst (λ (x : ℕ). Speaks x (r.level + 1) (r ∷ earlier)) (sym (after_own (subst (λ (m : ℕ). index_in lo m < 200) z a) ∙ e)) (speaks_own r earlier))

-- the numbers keep their count
seated_long : (x : Seat) (lo : ℕ) (table : List ℕ) (tag level : ℕ) → length (seated_by x lo table tag level) ≡ length table
seated_long None lo table tag level = refl
seated_long (Some c) lo table tag level = simp length-set

pub table_long : (lo : ℕ) (table : List ℕ) (tag level : ℕ) → length (seated_in lo table tag level) ≡ length table
table_long lo table tag level = seated_long (seat_in lo table tag level) lo table tag level

-- ---- what a place says, where e is the end

pub found_before : (e x : ℕ) → x < e → Some (offset x) ≡ found_at e x
found_before e x h = rw (lt-ltb x e h)

pub found_end : (e x : ℕ) → e ≤ x → None ≡ found_at e x
found_end e x h = rw (le-ltb x e h)

-- ---- where the pass stands at its loop's head

pub record Placing (s : List ℕ) (lo : ℕ) (table : List ℕ) (at cap : ℕ) : Type 0 where
  pub earlier : List Rec
  pub long : length table ≡ 200
  pub speaks : (l : ℕ) → index_in lo l < 200 → l ≤ cap → Speaks (get_or table (index_in lo l) 0) l earlier
  pub rest : stray_in lo (lo + 200) (length s) 0 [] (read_all s).recs
      ≡ stray_in lo (lo + 200) (length s) at earlier (read_from cap 0 (drop at s)).recs

pub placing_start : (s : List ℕ) (lo : ℕ) (table : List ℕ) {at cap : ℕ} → at ≡ 0 → cap ≡ 0 → length table ≡ 200 → get_or table 0 0 ≡ 16
    → Placing s lo table at cap
unfolding read_all
placing_start s lo table p c h e =
    rw (p, c)
    (record {
      earlier = [];
      long = h;
      speaks =
          λ l a q.
          let z : l ≡ 0 = omega arith in
          let y : index_in lo l ≡ 0 = omega arith in
          subst (λ (m : ℕ). Speaks (get_or table (index_in lo l) 0) m []) (sym z)
          (subst (λ (c : ℕ). Speaks c 0 []) (sym (ap (λ (i : ℕ). get_or table i 0) y ∙ e)) speaks_start);
      rest = refl;
    })

module _ {s : List ℕ} {lo : ℕ} {table : List ℕ} {at cap : ℕ} {h : Record} (k : Placing s lo table at cap) (d : Here s at cap h) where
  abbrev behind : List Rec
  behind = (read_from (d.rec.level + 1) 0 (drop (at + size d.rec) s)).recs

  here : stray_in lo (lo + 200) (length s) 0 [] (read_all s).recs ≡ stray_in lo (lo + 200) (length s) at k.earlier (d.rec ∷ behind)
  unfolding onto
  here = k.rest ∙ ap (λ (x : Read). stray_in lo (lo + 200) (length s) at k.earlier x.recs) d.next

  abbrev its_seat : Seat
  its_seat = seat_in lo table d.rec.tag d.rec.level

  judged : Judging lo (get_or table (index_in lo d.rec.level) 0) d.rec k.earlier
  judged = judging lo table d.rec k.earlier k.long (λ a. k.speaks d.rec.level a d.obeys.level_cap)

  -- behind a record that is not named, by the numbers that are kept then
  step : (new : List ℕ) → length new ≡ 200 → named lo d.rec k.earlier ≡ false
      → ((l : ℕ) → index_in lo l < 200 → l ≤ d.rec.level + 1 → Speaks (get_or new (index_in lo l) 0) l (d.rec ∷ k.earlier))
      → Placing s lo new (at + size d.rec) (d.rec.level + 1)
  step new h m speaks =
      record {
        earlier = d.rec ∷ k.earlier;
        long = h;
        speaks = speaks;
        rest = here ∙ first_miss _ _ lo (lo + 200) (length s) at k.earlier d.rec behind m;
      }

  stray_by : Judging lo (get_or table (index_in lo d.rec.level) 0) d.rec k.earlier → is_stray its_seat ≡ true
      → at ≡ stray_in lo (lo + 200) (length s) 0 [] (read_all s).recs
  stray_by (names a m) e = sym (here ∙ first_hit _ _ lo (lo + 200) (length s) at k.earlier d.rec behind (omega (arith, d.left)) m)
  stray_by (passes c a m w) e = absurd (let z : false ≡ true = ap is_stray (sym a) ∙ e in let y : ◌≡◌ {A = ℕ} 0 1 = cc in omega arith)

  next_by : Judging lo (get_or table (index_in lo d.rec.level) 0) d.rec k.earlier → is_stray its_seat ≡ false
      → Placing s lo (seated_in lo table d.rec.tag d.rec.level) (at + size d.rec) (d.rec.level + 1)
  next_by (names a m) e = absurd (let z : true ≡ false = ap is_stray (sym a) ∙ e in let y : ◌≡◌ {A = ℕ} 0 1 = cc in omega arith)
  next_by (passes c a m w) e =
      rw a
      (step (after lo table d.rec k.earlier k.long c (own_code d.rec.tag)) (simp length-set k.long) m
      (after_speaks lo table d.rec k.earlier k.long c (own_code d.rec.tag) refl w (λ l p i. k.speaks l p (omega (arith, d.obeys.level_cap)))))

  far_by : (d.rec.level + 1 < lo) ⊎ (lo + 200 + 1 ≤ d.rec.level + 1) → Placing s lo table (at + size d.rec) (d.rec.level + 1)
  far_by (inl q) =
      step table k.long (rw (between_low lo (lo + 200) d.rec.level (omega arith))) (λ l p i. absurd (omega arith))
  far_by (inr q) =
      step table k.long (rw (between_high lo (lo + 200) d.rec.level (omega arith) (omega arith)))
      (λ l p i. let z : l < d.rec.level = omega arith in speaks_skip d.rec z (k.speaks l p (omega (arith, d.obeys.level_cap))))

  -- by what the code's steps gave: whether the record sits, and the numbers then
  module _ (b : Bool) (is : b ≡ is_stray (seat_in lo table h.tag h.level)) where
    stray_as : is_stray its_seat ≡ b
    stray_as = sym (is ∙ ap₂ (λ (t l : ℕ). is_stray (seat_in lo table t l)) d.tag_is d.level_is)

    pub placing_stray : b ≡ true → (p : Offset) → p.0 ≡ at → Some p ≡ stray_at lo (lo + 200) s
    unfolding stray_at
    placing_stray e p q =
        ap (λ (n : ℕ). Some (offset n)) q ∙ found_before (length s) at (omega (arith, d.left))
        ∙ ap (found_at (length s)) (stray_by judged (stray_as ∙ e))

    pub placing_next : (new : List ℕ) → new ≡ seated_in lo table h.tag h.level → b ≡ false → Placing s lo new h.next.0 (h.level + 1)
    placing_next new e q = rw (e, d.next-is, d.level_is, d.tag_is) (next_by judged (stray_as ∙ q))

  -- a record outside: neither its level nor its children's is in the window
  pub placing_far : between lo (lo + 200 + 1) (h.level + 1) ≡ false → Placing s lo table h.next.0 (h.level + 1)
  placing_far e =
      rw (d.next-is, d.level_is)
      (far_by (between_out lo (lo + 200 + 1) (d.rec.level + 1) (ap (λ (l : ℕ). between lo (lo + 200 + 1) (l + 1)) (sym d.level_is) ∙ e)))

pub placing_end : {s : List ℕ} {lo : ℕ} {table : List ℕ} {at cap : ℕ} → Placing s lo table at cap → (read_from cap 0 (drop at s)).recs ≡ []
    → None ≡ stray_at lo (lo + 200) s
unfolding first_in stray_at
placing_end {s} {lo} {table} {at} {cap} k e =
    found_end (length s) (length s) (omega arith)
    ∙ ap (found_at (length s)) (sym (k.rest ∙ ap (stray_in lo (lo + 200) (length s) at k.earlier) e))
