-- The first pass: what is read so far, the earliest stray of the first window, and how deep the records go. Assumes nothing.
use Rattle.std.specs.Prelude.{Err, None, Ok, Option, Some}
use Rattle.std.specs.Option.{option_or}
use Prim.Native.Nat.{ℕ, ◌+◌, ◌≤◌, ◌<◌, max}
use native.Mathlib.Omega.{arith}
use mathlib.Core.Path.{◌≡◌, refl, sym, ap, ◌∙◌}
use mathlib.Core.Bool.{true, false, cond}
use mathlib.Core.List.{List, []}
use lib.Dec.{eqb}
use lib.ListN.{length, drop, get_or}
use Rattle.records.specs.Records.{limit}
use Rattle.records.specs.Reading.{Read, onto, read_from, read_all}
use Rattle.records.specs.Table.{read_answer}
use Rattle.records.specs.declared.fault.Offset.{Offset}
use Rattle.records.specs.declared.header.Record.{Record}
use Rattle.records.specs.declared.fault.Refusal.{Refusal}
use Rattle.records.proofs.ReadingLaws.{Here, Stops}
use Rattle.records.proofs.ScanLaws.{Scanning, answer_from, answer_start, scan_next, answer_stop, answer_fits, accepted}
use Rattle.section.specs.Windows.{deepest_from}
use Rattle.section.specs.Sweeps.{is_stray, seat_in, seated_in, stray_at, Opens}
use Rattle.section.proofs.StrayLaws.{table_long, Placing, placing_start, placing_stray, placing_next, placing_end}

-- ---- no stray so far, or the earliest

pub data Watching (s table : List ℕ) (at cap : ℕ) (stray : Option Offset) : Type 0 where
  watches : stray ≡ None → Placing s 0 table at cap → Watching s table at cap stray
  knows : (p : Offset) → stray ≡ Some p → stray ≡ stray_at 0 200 s → Watching s table at cap stray

module _ {s table : List ℕ} {at cap : ℕ} {h : Record} (d : Here s at cap h) (new : List ℕ) where
  seated_by_lem : {stray : Option Offset} → Watching s table at cap stray → false ≡ is_stray (seat_in 0 table h.tag h.level)
      → new ≡ seated_in 0 table h.tag h.level → Watching s new h.next.0 (h.level + 1) stray
  seated_by_lem (watches e k) b q = watches e (placing_next k d false b new q refl)
  seated_by_lem (knows p e w) b q = knows p e w

  stray_by : {stray : Option Offset} → Watching s table at cap stray → h.at.0 ≡ at → true ≡ is_stray (seat_in 0 table h.tag h.level)
      → Watching s new h.next.0 (h.level + 1) (option_or stray (Some h.at))
  stray_by (watches e k) a b = rw e (knows h.at refl (placing_stray k d true b refl h.at a))
  stray_by (knows p e w) a b = rw e (knows p refl (sym e ∙ w))

watching_end : {s table : List ℕ} {at cap : ℕ} {stray : Option Offset} → Watching s table at cap stray → (read_from cap 0 (drop at s)).recs ≡ []
    → stray ≡ stray_at 0 200 s
watching_end (watches e k) q = e ∙ placing_end k q
watching_end (knows p e w) q = w

-- ---- where the pass stands at its loop's head

pub record Opening (s table : List ℕ) (at cap n : ℕ) (stray : Option Offset) (deepest : ℕ) : Type 0 where
  pub scans : (room : ℕ) → (over : ℕ) × Scanning s room at cap n over
  pub long : length table ≡ 200
  pub watch : Watching s table at cap stray
  pub deep : deepest_from 0 (read_all s).recs ≡ deepest_from deepest (read_from cap 0 (drop at s)).recs

pub opening_start : (s table : List ℕ) {at cap : ℕ} → at ≡ 0 → cap ≡ 0 → length s ≤ limit → length table ≡ 200 → get_or table 0 0 ≡ 16
    → Opening s table at cap 0 None 0
unfolding read_all
opening_start s table p c h l e =
    rw (p, c)
    (record {
      scans = λ room. (0, record { small = h; inside = omega arith; count = omega arith; rest = answer_start s room h });
      long = l;
      watch = watches refl (placing_start s 0 table refl refl l e);
      deep = refl;
    })

module _ {s table : List ℕ} {at cap n deepest : ℕ} {stray : Option Offset} (k : Opening s table at cap n stray deepest) where
  pub opening_few : n < 16777216
  opening_few = omega (arith, (k.scans 0).1.small, (k.scans 0).1.inside, (k.scans 0).1.count)

  module _ {h : Record} (d : Here s at cap h) (a : h.at.0 ≡ at) (new : List ℕ) (deep : ℕ) (m : deep ≡ max deepest h.level)
      (q : new ≡ seated_in 0 table h.tag h.level) where
    further : {stray : Option Offset} → Watching s new h.next.0 (h.level + 1) stray → Opening s new h.next.0 (h.level + 1) (n + 1) stray deep
    unfolding deepest_from onto
    further w =
        record {
          scans = λ room. (cond (eqb n room) at (k.scans room).0, scan_next s room at cap n (k.scans room).0 _ h (k.scans room).1 d refl);
          long = ap length q ∙ table_long 0 table h.tag h.level ∙ k.long;
          watch = w;
          deep = k.deep ∙ ap (λ (x : Read). deepest_from deepest x.recs) d.next ∙ rw (m, d.next-is, d.level_is);
        }

    pub opening_seated : false ≡ is_stray (seat_in 0 table h.tag h.level) → Opening s new h.next.0 (h.level + 1) (n + 1) stray deep
    opening_seated b = further (seated_by_lem d new k.watch b q)

    pub opening_stray : true ≡ is_stray (seat_in 0 table h.tag h.level) → Opening s new h.next.0 (h.level + 1) (n + 1) (option_or stray (Some h.at)) deep
    opening_stray b = further (stray_by d new k.watch a b)

  pub opening_stop : (f : Refusal) → Stops (read_from cap 0 (drop at s)) at f → Opens s (Err f)
  opening_stop f z room = (k.scans room).1.rest ∙ sym (answer_stop room n (k.scans room).0 at (read_from cap 0 (drop at s)) f z)

  module _ (e : read_from cap 0 (drop at s) ≡ record { recs = []; stop = None }) where
    pub opening_read : (room : ℕ) → n ≤ room → read_answer s room ≡ Ok n
    opening_read room h = (k.scans room).1.rest ∙ ap (answer_from room n (k.scans room).0 at) e ∙ answer_fits room n (k.scans room).0 at h

    pub opening_first : stray ≡ stray_at 0 200 s
    opening_first = watching_end k.watch (ap (λ (x : Read). x.recs) e)

    pub opening_small : length s ≤ limit
    opening_small = (k.scans 0).1.small

    pub opening_ends : (read_all s).stop ≡ None
    opening_ends = (accepted s n n (opening_read n (omega arith))).whole

    pub opening_depth : deepest ≡ deepest_from 0 (read_all s).recs
    unfolding deepest_from
    opening_depth = sym (k.deep ∙ ap (λ (x : Read). deepest_from deepest x.recs) e)
