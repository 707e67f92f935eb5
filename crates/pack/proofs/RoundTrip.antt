-- Reading and packing undo each other, stated over the promises of the two calls. Assumes nothing.
use Rattle.std.specs.Prelude.{Ok}
use Rattle.records.specs.Answers.{Answer}
use Prim.Native.Nat.{ℕ, ◌≤◌}
use native.Mathlib.Omega.{arith}
use mathlib.Core.Path.{◌≡◌, refl, sym, ap, ap₂, ◌∙◌}
use mathlib.Core.List.{List, [], map}
use lib.ListN.{length, take, drop, length-map}
use lib.Seq.{take_at}
use Rattle.numbers.specs.Little.{Bytes}
use Rattle.records.specs.Records.{Rec, encode}
use Rattle.records.specs.Reading.{Read, read_all}
use Rattle.records.specs.Table.{read_answer, entered, tag_of, level_of, length_of, places_from, parents_from, written, Lists, tabled, room_in}
use Rattle.records.specs.Promise.{Promised}
use Rattle.records.proofs.TableLaws.{length-places_from}
use Rattle.records.proofs.ClimbLaws.{length-parents_from}
use Rattle.records.proofs.Reader.{IsStream, accepted_stream, stream_records, stream_accepted}
use Rattle.pack.specs.Rows.{rows_in, pointed, records}
use Rattle.pack.specs.Packing.{pack_answer, leaves, Accepts, Packed}
use Rattle.pack.specs.Promise.{Packs}
use Rattle.pack.proofs.Reader.{accepted, accepts, sound_inside}
use Rattle.pack.proofs.RowLaws.{Listed, listed_in, length-rows, packed_levels}
use Rattle.pack.proofs.RoundLaws.{rows_of, table_of, longer, point_back, sound_back, packed_columns, lawful_packed, column}

-- ---- read, then pack

module _ (s : List ℕ) (k₀ k : Lists) (out : List ℕ) (n : ℕ) (bytes : Bytes s) (read : Promised read_answer s k₀ (Ok n) k) where
  abbrev all : List Rec
  all = (read_all s).recs

  stream_is : IsStream s (room_in k₀) n all
  stream_is = accepted_stream s (room_in k₀) n bytes (sym read.answer)

  table_is : rows_in n k ≡ rows_of 0 all
  table_is = table_of n all k₀ k stream_is.count read.table

  records_are : records s (rows_in n k) ≡ all
  records_are = ap (records s) table_is ∙ point_back s 0 all (sym stream_is.encodes.stream)

  listed_back : n ≤ room_in k
  listed_back =
      omega (
        arith,
        stream_is.count,
        longer (map tag_of all) k₀.tags k.tags (ap (λ (x : Lists). x.tags) read.table),
        length-map all tag_of,
        longer (map level_of all) k₀.levels k.levels (ap (λ (x : Lists). x.levels) read.table),
        length-map all level_of,
        longer (places_from 0 all) k₀.places k.places (ap (λ (x : Lists). x.places) read.table),
        length-places_from 0 all,
        longer (map length_of all) k₀.lengths k.lengths (ap (λ (x : Lists). x.lengths) read.table),
        length-map all length_of,
        longer (parents_from [] all) k₀.parents k.parents (ap (λ (x : Lists). x.parents) read.table),
        length-parents_from [] all,
      )

  parents_back : take n k.parents ≡ parents_from [] (records s (rows_in n k))
  parents_back =
      column (parents_from [] all) k₀.parents k.parents n (length-parents_from [] all ∙ sym stream_is.count) (ap (λ (x : Lists). x.parents) read.table)
      ∙ ap (parents_from []) (sym records_are)

  -- the buffer has the stream, and what stood behind it
  pub read_then_pack : (a : Packed) (out' : List ℕ) → length s ≤ length out → Packs n k s out a out'
      → (a ≡ Ok (length s)) × (out' ≡ written s out)
  read_then_pack a out' room packs =
      let stream : encode (records s (rows_in n k)) ≡ s = ap encode records_are ∙ stream_is.encodes.stream in
      let answer : pack_answer n k s (length out) ≡ Ok (length s)
      = accepts n k s (length out) (length s)
      (record {
        listed = listed_back;
        sound = rw table_is (sound_back s 0 0 all (sym stream_is.encodes.stream) stream_is.encodes.lawful);
        parents_are = parents_back;
        length-is = sym (ap length stream);
        limited = stream_is.within;
        roomy = room;
      }) in (
        packs.answer_is ∙ answer,
        packs.out_is ∙ ap (λ (x : Packed). leaves x (records s (rows_in n k)) out) answer ∙ ap (λ (b : List ℕ). written b out) stream,
      )

-- ---- pack, then read

-- a stream s that is accepted, with a table of the tags, levels, lengths and parents that were packed, which points to the same records
pub record ReadsBack (count : ℕ) (k : Lists) (bytes s : List ℕ) (r : Answer) (k' : Lists) : Type 0 where
  pub accepted : r ≡ Ok count
  pub tags : take count k'.tags ≡ take count k.tags
  pub levels : take count k'.levels ≡ take count k.levels
  pub lengths : take count k'.lengths ≡ take count k.lengths
  pub parents : take count k'.parents ≡ take count k.parents
  pub bodies : records s (rows_in count k') ≡ records bytes (rows_in count k)

module _ (count : ℕ) (k : Lists) (bytes out : List ℕ) (n : ℕ) (out' : List ℕ) (pack : Packs count k bytes out (Ok n) out')
    (k₀ k' : Lists) (room : count ≤ room_in k₀) where
  abbrev recs : List Rec
  recs = records bytes (rows_in count k)

  accept : Accepts count k bytes (length out) n
  accept = accepted count k bytes (length out) n (sym pack.answer_is)

  listed : Listed count k
  listed = listed_in count k accept.listed

  wrote : take n out' ≡ encode recs
  wrote =
      ap (take n) (pack.out_is ∙ ap (λ (x : Packed). leaves x recs out) (sym pack.answer_is))
      ∙ take_at (encode recs) (drop (length (encode recs)) out) n (sym accept.length-is)

  count_is : count ≡ length recs
  count_is = sym (length-map (rows_in count k) (pointed bytes) ∙ length-rows count k.tags k.levels k.places k.lengths)

  is_stream : IsStream (encode recs) (room_in k₀) count recs
  is_stream =
      record {
        within = omega (arith, accept.length-is, accept.limited);
        encodes = record { lawful = lawful_packed bytes 0 (rows_in count k) accept.sound (omega (arith, accept.length-is, accept.limited)); stream = refl };
        fits = omega (arith, count_is);
        count = count_is;
      }

  read_recs : (read_all (take n out')).recs ≡ recs
  read_recs = ap (λ (x : List ℕ). (read_all x).recs) wrote ∙ ap (λ (x : Read). x.recs) (stream_records (encode recs) recs is_stream.encodes)

  pub pack_then_read : (r : Answer) → Promised read_answer (take n out') k₀ r k' → ReadsBack count k bytes (take n out') r k'
  pack_then_read r read =
      let answer : r ≡ Ok count
      = read.answer
      ∙ ap (λ (x : List ℕ). read_answer x (room_in k₀)) wrote
      ∙ stream_accepted (encode recs) (room_in k₀) count recs is_stream in
      let table : k' ≡ tabled recs k₀ = read.table ∙ ap (λ (rs : List Rec). tabled rs k₀) (ap₂ entered answer read_recs) in
      let packed = packed_columns bytes count k.tags k.levels k.places k.lengths listed.in_tags listed.in_lengths (sound_inside 0 (length bytes) (rows_in count k) accept.sound) in
      record {
        accepted = answer;
        tags = column (map tag_of recs) k₀.tags k'.tags count (length-map recs tag_of ∙ sym count_is) (ap (λ (x : Lists). x.tags) table) ∙ packed.0;
        levels =
            column (map level_of recs) k₀.levels k'.levels count (length-map recs level_of ∙ sym count_is) (ap (λ (x : Lists). x.levels) table)
            ∙ packed_levels bytes count k.tags k.levels k.places k.lengths listed.in_levels;
        lengths =
            column (map length_of recs) k₀.lengths k'.lengths count (length-map recs length_of ∙ sym count_is) (ap (λ (x : Lists). x.lengths) table) ∙ packed.1;
        parents =
            column (parents_from [] recs) k₀.parents k'.parents count (length-parents_from [] recs ∙ sym count_is) (ap (λ (x : Lists). x.parents) table)
            ∙ sym accept.parents_are;
        bodies = ap₂ records wrote (table_of count recs k₀ k' count_is table) ∙ point_back (encode recs) 0 recs refl;
      }
