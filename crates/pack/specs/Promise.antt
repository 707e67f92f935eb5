-- What pack promises leaves no choice: two outcomes that it allows are equal. Assumes nothing.
use Rattle.std.specs.Prelude.{ℕ, ◌≡◌, List, length}
use Rattle.std.proofs.Common.{sym, ◌∙◌}
use Rattle.records.specs.Table.{Lists}
use Rattle.pack.specs.Rows.{rows_in, records}
use Rattle.pack.specs.Packing.{pack_answer, leaves, Packed}

module _ (count : ℕ) (k : Lists) (bytes out : List ℕ) where
  -- the promise of pack, at an answer and the buffer afterwards
  pub record Packs (answer : Packed) (out' : List ℕ) : Type 0 where
    pub answer_is : answer ≡ pack_answer count k bytes (length out)
    pub out_is : out' ≡ leaves (pack_answer count k bytes (length out)) (records bytes (rows_in count k)) out

  pub determined : {a b : Packed} {x y : List ℕ} → Packs a x → Packs b y → (a ≡ b) × (x ≡ y)
  determined k m = (k.answer_is ∙ sym m.answer_is, k.out_is ∙ sym m.out_is)
