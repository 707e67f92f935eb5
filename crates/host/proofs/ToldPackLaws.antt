-- A pack that keeps its promise tells its answer, an accepted length in full. Assumes nothing.
use Rattle.std.specs.Prelude.{Err, Ok}
use Prim.Native.Nat.{ℕ}
use mathlib.Core.Path.{◌≡◌, refl, sym, ap, ◌∙◌}
use mathlib.Core.List.{List}
use lib.ListN.{length}
use Rattle.records.specs.Answers.{place_bits, host_form}
use Rattle.records.specs.Table.{Lists}
use Rattle.records.proofs.AnswerLaws.{in_full}
use Rattle.pack.specs.Packing.{number, place, Packed}
use Rattle.pack.specs.Promise.{Packs}
use Rattle.pack.proofs.Reader.{accepted}
use Rattle.host.specs.ToldPack.{pack_sum, ToldPack}

module _ {count : ℕ} {k : Lists} {bytes out out' : List ℕ} where
  sum_of_lem : (a : Packed) → Packs count k bytes out a out' → host_form (number a) (place_bits (place a)) 0 ≡ pack_sum a
  sum_of_lem (Ok n) w =
      ap (λ (x : ℕ). host_form 0 x 0) (in_full (accepted count k bytes (length out) n (sym w.answer_is)).limited)
  sum_of_lem (Err r) w = refl

  pub tells_pack : {a : Packed} {told : ℕ} → Packs count k bytes out a out' → told ≡ host_form (number a) (place_bits (place a)) 0
      → ToldPack count k bytes out told out'
  tells_pack {a} {told} w e = record { answer = a; packs = w; sum = e ∙ sum_of_lem a w }
