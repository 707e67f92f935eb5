-- What pack tells: an answer and a buffer that pack promises, and the answer's sum; and that it leaves no choice. Assumes nothing.
use Rattle.pack.specs.Packing.{Packed}
use Rattle.std.specs.Prelude.{ℕ, ◌≡◌, List, Err, Ok}
use Rattle.std.proofs.Common.{sym, ap, ◌∙◌}
use Rattle.records.specs.Answers.{number_of, place_bits, host_form}
use Rattle.records.specs.Table.{Lists}
use Rattle.pack.specs.Promise.{Packs, determined}

-- a length stands in full; an index of more than 28 bits, which only lists of more than 268,435,455 entries have, as the largest
abbrev pub pack_sum : Packed → ℕ
pack_sum (Ok n) = host_form 0 n 0
pack_sum (Err r) = host_form (number_of r.fault) (place_bits r.index.0) 0

module _ (count : ℕ) (k : Lists) (bytes out : List ℕ) where
  pub record ToldPack (told : ℕ) (out' : List ℕ) : Type 0 where
    pub answer : Packed
    pub packs : Packs count k bytes out answer out'
    pub sum : told ≡ pack_sum answer

  pub pack_told : {m₁ m₂ : ℕ} {o₁ o₂ : List ℕ} → ToldPack m₁ o₁ → ToldPack m₂ o₂ → (m₁ ≡ m₂) × (o₁ ≡ o₂)
  pack_told a b = let d = determined count k bytes out a.packs b.packs in (a.sum ∙ ap pack_sum d.0 ∙ sym b.sum, d.1)
