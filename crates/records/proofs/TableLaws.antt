-- The second pass: entering the table into five lists, column by column; and the promise of a read. Assumes nothing.
use Rattle.std.specs.Prelude.{Err, None, Ok, Some}
use Rattle.records.specs.Answers.{Answer}
use Prim.Native.Nat.{ℕ, suc, ◌+◌, ◌-◌, ◌*◌, ◌≤◌, ◌<◌}
use native.Mathlib.Omega.{arith}
use native.Mathlib.Nat.{zero-add, sub-zero}
use native.Mathlib.Numerals.{add-one}
use mathlib.Core.Path.{◌≡◌, refl, sym, ap, ◌∙◌}
use mathlib.Core.List.{List, [], ◌∷◌, map}
use lib.ListN.{length, take, drop, set, length-set, length-map, length-take}
use lib.Seq.{sets, sets-eq, take_all, take-nil}
use borrow.Author.Tests.{le-ltb}
use Rattle.records.specs.Records.{Rec, limit, lead_of, size}
use Rattle.records.specs.Parents.{parent_index}
use Rattle.records.specs.Reading.{onto, read_from, read_all, offset}
use Rattle.records.specs.Table.{read_answer, entered, tag_of, level_of, length_of, places_from, parents_from, written, Lists, lists, tabled, room_in, fitting}
use Rattle.records.specs.Climbing.{Held, Behind, ParentBehind}
use Rattle.records.specs.Steps.{at_place, steps_over}
use Rattle.records.specs.Promise.{Promised}
use Rattle.records.specs.declared.header.Record.{Record}
use Rattle.records.specs.declared.walk.Records.{Records}
use Rattle.numbers.specs.Little.{Bytes}
use Rattle.records.proofs.StepLaws.{stepped, none_stopped, none_ended}
use Rattle.records.specs.declared.fault.Refusal.{Refusal}
use Rattle.records.proofs.ReadingLaws.{Here}
use Rattle.records.proofs.ScanLaws.{accepted}
use Rattle.records.proofs.ClimbLaws.{length-parents_from, index_low, held_next}

-- ---- one list, where its column `all` is entered from the front: `left` are the values from index i on, l₀ the list as it came, l as it is

pub record Left (all left : List ℕ) (i : ℕ) (l₀ l : List ℕ) : Type 0 where
  pub fits : i + length left ≤ length l
  pub long : length l ≡ length l₀
  pub rest : sets l₀ 0 all ≡ sets l i left

pub left_start : (all l₀ : List ℕ) → length all ≤ length l₀ → Left all all 0 l₀ l₀
left_start all l₀ h = record { fits = omega arith; long = refl; rest = refl }

pub left_next : (all : List ℕ) (v : ℕ) (vs : List ℕ) (i : ℕ) (l₀ l : List ℕ) → Left all (v ∷ vs) i l₀ l → Left all vs (i + 1) l₀ (set l i v)
left_next all v vs i l₀ l k =
    record {
      fits = simp length-set (omega (arith, k.fits));
      long = length-set l i v ∙ k.long;
      rest = k.rest ∙ simp add-one;
    }

pub left_end : (all : List ℕ) (i : ℕ) (l₀ l : List ℕ) → length all ≤ length l₀ → Left all [] i l₀ l → l ≡ written all l₀
left_end all i l₀ l h k = sym k.rest ∙ sets-eq all l₀ 0 (omega arith) ∙ simp zero-add

pub length-places_from : (at : ℕ) (rs : List Rec) → length (places_from at rs) ≡ length rs
unfolding places_from
length-places_from at [] = refl
length-places_from at (r ∷ rs) = ap suc (length-places_from (at + size r) rs)

-- ---- where the second pass stands at its loop's head: `all` are the records to be entered, rs those from `at` on, `earlier` those before them

pub record Entering (all rs earlier : List Rec) (at i : ℕ) (k₀ k : Lists) : Type 0 where
  pub in_tags : Left (map tag_of all) (map tag_of rs) i k₀.tags k.tags
  pub in_levels : Left (map level_of all) (map level_of rs) i k₀.levels k.levels
  pub in_places : Left (places_from 0 all) (places_from at rs) i k₀.places k.places
  pub in_lengths : Left (map length_of all) (map length_of rs) i k₀.lengths k.lengths
  pub in_parents : Left (parents_from [] all) (parents_from earlier rs) i k₀.parents k.parents
  pub count : length earlier ≡ i
  pub held : Held k.levels k.parents earlier

-- there is room at an index in each list
pub record Room (i : ℕ) (k : Lists) : Type 0 where
  pub tags_room : i < length k.tags
  pub levels_room : i < length k.levels
  pub places_room : i < length k.places
  pub lengths_room : i < length k.lengths
  pub parents_room : i < length k.parents

-- the lists with a record at an index
abbrev pub lined : ℕ → ℕ → ℕ → ℕ → ℕ → ℕ → Lists → Lists
lined i tag level place len parent k =
    lists (set k.tags i tag) (set k.levels i level) (set k.places i place) (set k.lengths i len) (set k.parents i parent)

same_lists : {t l p n q t' l' p' n' q' : List ℕ} → t ≡ t' → l ≡ l' → p ≡ p' → n ≡ n' → q ≡ q' → lists t l p n q ≡ lists t' l' p' n' q'
same_lists a b c d e = rw (a, b, c, d, e)

module _ (all : List Rec) (k₀ : Lists) where
  pub enter_start : length all ≤ room_in k₀ → Entering all all [] 0 0 k₀ k₀
  enter_start h =
      record {
        in_tags = left_start _ _ (omega (arith, length-map all tag_of));
        in_levels = left_start _ _ (omega (arith, length-map all level_of));
        in_places = left_start _ _ (omega (arith, length-places_from 0 all));
        in_lengths = left_start _ _ (omega (arith, length-map all length_of));
        in_parents = left_start _ _ (omega (arith, length-parents_from [] all));
        count = refl;
        held = tt;
      }

  pub enter_room : (r : Rec) (rs earlier : List Rec) (at i : ℕ) (k : Lists) → Entering all (r ∷ rs) earlier at i k₀ k → Room i k
  unfolding places_from parents_from
  enter_room r rs earlier at i k e =
      record {
        tags_room = omega (arith, e.in_tags.fits);
        levels_room = omega (arith, e.in_levels.fits);
        places_room = omega (arith, e.in_places.fits);
        lengths_room = omega (arith, e.in_lengths.fits);
        parents_room = omega (arith, e.in_parents.fits);
      }

  pub enter_next : (r : Rec) (rs earlier : List Rec) (at i : ℕ) (k : Lists) → Entering all (r ∷ rs) earlier at i k₀ k
      → Entering all rs (r ∷ earlier) (at + size r) (i + 1) k₀ (lined i r.tag r.level (at + lead_of (length r.body)) (length r.body) (parent_index r.level earlier) k)
  unfolding places_from parents_from
  enter_next r rs earlier at i k e =
      let m = enter_room r rs earlier at i k e in
      record {
        in_tags = left_next _ _ _ _ _ _ e.in_tags;
        in_levels = left_next _ _ _ _ _ _ e.in_levels;
        in_places = left_next _ _ _ _ _ _ e.in_places;
        in_lengths = left_next _ _ _ _ _ _ e.in_lengths;
        in_parents = left_next _ _ _ _ _ _ e.in_parents;
        count = omega (arith, e.count);
        held = held_next k.levels k.parents i r earlier e.count m.levels_room m.parents_room e.held;
      }

  pub enter_end : (earlier : List Rec) (at i : ℕ) (t l p n q : List ℕ) → length all ≤ room_in k₀ → Entering all [] earlier at i k₀ (lists t l p n q)
      → lists t l p n q ≡ tabled all k₀
  unfolding places_from parents_from
  enter_end earlier at i t l p n q h e =
      same_lists (left_end _ _ _ _ (omega (arith, length-map all tag_of)) e.in_tags)
      (left_end _ _ _ _ (omega (arith, length-map all level_of)) e.in_levels)
      (left_end _ _ _ _ (omega (arith, length-places_from 0 all)) e.in_places)
      (left_end _ _ _ _ (omega (arith, length-map all length_of)) e.in_lengths)
      (left_end _ _ _ _ (omega (arith, length-parents_from [] all)) e.in_parents)

-- ---- over the stream: the records that have room. `p` is what is left of the stream at the loop's head

pub record Passing (s : List ℕ) (k₀ k : Lists) (p : Records) (room i : ℕ) : Type 0 where
  pub room_is : room ≡ room_in k₀
  pub stream_is : p.stream.now ≡ s
  pub small : length s ≤ limit
  pub inside : p.at.0 ≤ length s
  pub low : 4 * i ≤ p.at.0
  pub earlier : List Rec
  pub entering : Entering (take (room_in k₀) (read_all s).recs) (take (room_in k₀ - i) (read_from p.cap 0 (drop p.at.0 s)).recs) earlier p.at.0 i k₀ k

-- at a record r that has room: what may be stored of it at index j, and the loop's head behind it
pub record Entry (s : List ℕ) (k₀ k : Lists) (r : Record) (q : Records) (room next j : ℕ) : Type 0 where
  pub place_small : r.body.0 < 4294967296
  pub length_small : r.len < 4294967296
  pub parent_small : {n : ℕ} → ParentBehind k.levels k.parents j r.level n → n < 4294967296
  pub onward : {n : ℕ} → ParentBehind k.levels k.parents j r.level n → Passing s k₀ (lined j r.tag r.level r.body.0 r.len n k) q room next

abbrev all : List ℕ → Lists → List Rec
all s k₀ = take (room_in k₀) (read_all s).recs

roomy : (s : List ℕ) (k₀ : Lists) → length (all s k₀) ≤ room_in k₀
roomy s k₀ = omega (arith, length-take (room_in k₀) (read_all s).recs)

module _ {s : List ℕ} {k₀ : Lists} where
  pub pass_start : {room : ℕ} {p : Records} → room ≡ room_in k₀ → (p.stream.now ≡ s) × (p.at ≡ offset 0) × (p.cap ≡ 0) → length s ≤ limit → Passing s k₀ k₀ p room 0
  unfolding read_all
  pass_start {room} {p} e f h =
      rw (f.1, f.2)
      (record { room_is = e; stream_is = f.0; small = h; inside = omega arith; low = omega arith; earlier = []; entering = simp sub-zero (enter_start (all s k₀) k₀ (roomy s k₀)) })

  module _ {k : Lists} {p : Records} {room i : ℕ} (w : Passing s k₀ k p room i) where
    module _ (h : i < room) {r : Record} (d : Here s p.at.0 p.cap r) where
      abbrev rest : List Rec
      rest = take (room_in k₀ - (i + 1)) (read_from (d.rec.level + 1) 0 (drop (p.at.0 + size d.rec) s)).recs

      -- at a record the lists are those of the next one and the rest
      at_record : Entering (all s k₀) (d.rec ∷ rest) w.earlier p.at.0 i k₀ k
      unfolding onto
      at_record = let e : room_in k₀ - i ≡ suc (room_in k₀ - (i + 1)) = omega (arith, w.room_is) in rw (d.next, e) at w.entering

      behind_it : {q : Records} {n : ℕ} → q.stream.now ≡ s → q.at.0 ≡ r.next.0 → q.cap ≡ r.level + 1 → n ≡ parent_index r.level w.earlier
          → Passing s k₀ (lined i r.tag r.level r.body.0 r.len n k) q room (i + 1)
      behind_it e a c f =
          record {
            room_is = w.room_is;
            stream_is = e;
            small = w.small;
            inside = omega (arith, a, d.next-is, d.inside);
            low = omega (arith, w.low, a, d.next-is, d.size_low);
            earlier = d.rec ∷ w.earlier;
            entering =
                rw (f, a, c, d.next-is, d.tag_is, d.level_is, d.body_is, d.length-is)
                (enter_next (all s k₀) k₀ d.rec rest w.earlier p.at.0 i k at_record);
          }

      there : Room i k
      there = enter_room (all s k₀) k₀ d.rec rest w.earlier p.at.0 i k at_record

    -- the loop's step: index j and a record
    pub pass_at : {room' next j : ℕ} {r : Record} {q : Records} → Bytes s
        → ((room' ≡ room) × ((0 < room - i) × (j ≡ i) × (next ≡ i + 1))) × steps_over p (Some (Ok r)) q → Entry s k₀ k r q room' next j
    pass_at {room'} {next} {j} {r} {q} bs g =
        let h : i < room = omega (arith, g.0.1.0) in
        let x = stepped p w.stream_is bs g.1 in
        let d = x.here in
        let m = there h d in
        let b : Behind k.levels k.parents i =
        record {
          earlier = w.earlier;
          count = w.entering.count;
          held = w.entering.held;
          in_levels = omega (arith, m.levels_room);
          in_parents = omega (arith, m.parents_room);
        } in
        rw (g.0.0, g.0.1.1, g.0.1.2)
        (record {
          place_small = omega (arith, d.body_end, d.next-is, d.inside, w.small);
          length_small = omega (arith, d.body_end, d.next-is, d.inside, w.small);
          parent_small = λ e. omega (arith, e b, index_low r.level w.earlier, w.entering.count, w.low, w.inside, w.small);
          onward = λ e. behind_it h d x.stream-is x.at-is x.cap-is (e b);
        })

  -- where no record is left, or none has room, the table is entered
  module _ {t l p n q : List ℕ} {u : Records} {room i : ℕ} (w : Passing s k₀ (lists t l p n q) u room i) where
    entered_all : take (room_in k₀ - i) (read_from u.cap 0 (drop u.at.0 s)).recs ≡ [] → lists t l p n q ≡ tabled (all s k₀) k₀
    entered_all e = enter_end (all s k₀) k₀ w.earlier u.at.0 i t l p n q (roomy s k₀) (rw e at w.entering)

    no_more : (read_from u.cap 0 (drop u.at.0 s)).recs ≡ [] → lists t l p n q ≡ tabled (all s k₀) k₀
    no_more e = entered_all (ap (take (room_in k₀ - i)) e ∙ take-nil (room_in k₀ - i))

    pub pass_stop : {f : Refusal} {v : Records} → steps_over u (Some (Err f)) v → lists t l p n q ≡ tabled (all s k₀) k₀
    pass_stop g = no_more (none_stopped u w.stream_is g)

    pub pass_end : at_place u ≡ None → lists t l p n q ≡ tabled (all s k₀) k₀
    pass_end g = no_more (none_ended u w.stream_is g)

    pub pass_full : room ≤ i → lists t l p n q ≡ tabled (all s k₀) k₀
    pass_full h = entered_all (let e : room_in k₀ - i ≡ 0 = omega (arith, w.room_is) in ap (λ (m : ℕ). take m (read_from u.cap 0 (drop u.at.0 s)).recs) e)

-- ---- the promise of a read

-- all records of a stream that read accepts have room
pub fitting_all : (s : List ℕ) (room n : ℕ) → read_answer s room ≡ Ok n → fitting s room ≡ (read_all s).recs
unfolding fitting
fitting_all s room n e =
    let k = accepted s room n e in
    simp (le-ltb limit (length s) k.small, take_all room (read_all s).recs k.fits)

-- of a read that accepts nothing but what read accepts, the table of its answer is what it promises
module _ (answers : List ℕ → ℕ → Answer) (s : List ℕ) (k : Lists) (stricter : (n : ℕ) → answers s (room_in k) ≡ Ok n → read_answer s (room_in k) ≡ Ok n) where
  all_entered : (a : Answer) → a ≡ answers s (room_in k) → entered a (fitting s (room_in k)) ≡ entered a (read_all s).recs
  all_entered (Ok n) e = fitting_all s (room_in k) n (stricter n (sym e))
  all_entered (Err r) e = refl

  pub promised : (a : Answer) (k' : Lists) → a ≡ answers s (room_in k) → k' ≡ tabled (entered a (fitting s (room_in k))) k → Promised answers s k a k'
  promised a k' e q = record { answer = e; table = q ∙ ap (λ (rs : List Rec). tabled rs k) (all_entered a e) }
