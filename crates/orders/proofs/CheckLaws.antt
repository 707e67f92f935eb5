-- Check accepts a stream exactly if it is the encoding of the records of an accepted section. Assumes nothing.
use Rattle.std.specs.Prelude.{None, Ok}
use mathlib.Core.Path.{◌≡◌, refl}
use Prim.Native.Nat.{ℕ}
use mathlib.Core.List.{List, [], ◌∷◌, ◌++◌}
use lib.ListN.{length}
use lib.Seq.{drop_at, take_at}
use Rattle.numbers.specs.Little.{Bytes}
use Rattle.numbers.proofs.LittleLaws.{bytes_drop, bytes_take}
use Rattle.records.specs.Records.{Rec, header_of, encode_one, encode}
use Rattle.records.specs.Reading.{read_all}
use Rattle.records.proofs.Reader.{stream_records}
use Rattle.section.specs.Section.{check_answer}
use Rattle.acceptance.proofs.SectionReader.{accepted_section, section_is_accepted}
use Rattle.filling.specs.Accepted.{AllBodies, Accepted}

-- ---- a stream of bytes is a list of bodies of bytes

bytes-behind : (a b : List ℕ) → Bytes (a ++ b) → Bytes b
bytes-behind a b h = rw (drop_at a b (length a) refl) at (bytes_drop (length a) (a ++ b) h)

bytes_before : (a b : List ℕ) → Bytes (a ++ b) → Bytes a
bytes_before a b h = rw (take_at a b (length a) refl) at (bytes_take (length a) (a ++ b) h)

bodies_bytes : (rs : List Rec) → Bytes (encode rs) → AllBodies Bytes rs
unfolding encode encode_one
bodies_bytes [] h = tt
bodies_bytes (r ∷ rs) h = (
  bytes-behind (header_of r.tag r.level (length r.body)) r.body (bytes_before (encode_one r) (encode rs) h),
  bodies_bytes rs (bytes-behind (encode_one r) (encode rs) h),
)

-- ---- both ways

pub record Checked (s : List ℕ) : Type 0 where
  pub accepted : Accepted (read_all s).recs
  pub stream : encode (read_all s).recs ≡ s

pub checked : (s : List ℕ) (n : ℕ) → Bytes s → check_answer s ≡ Ok n → Checked s
checked s n bs e =
    let k = accepted_section s n bs e in
    record {
      accepted = record {
        bytes = bodies_bytes (read_all s).recs (rw k.encodes.stream bs);
        section = record {
          within = rw k.encodes.stream k.within;
          encodes = record { lawful = k.encodes.lawful; stream = refl };
          count = refl;
          obeys = k.obeys;
        };
      };
      stream = k.encodes.stream;
    }

pub read_back : (rs : List Rec) → Accepted rs → read_all (encode rs) ≡ record { recs = rs; stop = None }
read_back rs a = stream_records (encode rs) rs a.section.encodes

pub checks : (rs : List Rec) → Accepted rs → check_answer (encode rs) ≡ Ok (length rs)
checks rs a = section_is_accepted (encode rs) (length rs) rs a.section
