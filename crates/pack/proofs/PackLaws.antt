-- What the second pass of pack asks. Assumes nothing.
use Rattle.std.specs.Prelude.{Ok}
use Prim.Native.Nat.{ℕ, ◌≤◌}
use native.Mathlib.Omega.{arith}
use mathlib.Core.Path.{◌≡◌, sym}
use lib.ListN.{length}
use Rattle.records.specs.Records.{encode}
use Rattle.records.specs.Table.{shortest}
use Rattle.pack.specs.declared.table.Table.{Table}
use Rattle.pack.specs.Rows.{lists_of, rows_in, records, Inside}
use Rattle.pack.specs.Packing.{pack_answer}
use Rattle.pack.proofs.Reader.{accepted, sound_inside}

pub may_lay : (t : Table) (room n : ℕ) → Ok n ≡ pack_answer t.count (lists_of t) t.bytes.now room
    → (t.count ≤ shortest t.tags.now t.levels.now t.places.now t.lengths.now)
    × (Inside (length t.bytes.now) (rows_in t.count (lists_of t)) × (length (encode (records t.bytes.now (rows_in t.count (lists_of t)))) ≤ room))
may_lay t room n e =
    let a = accepted t.count (lists_of t) t.bytes.now room n (sym e) in
    (omega (arith, a.listed), (sound_inside 0 (length t.bytes.now) (rows_in t.count (lists_of t)) a.sound, omega (arith, a.length-is, a.roomy)))
