-- Bytes put into a buffer one behind the other (document 01, 'bytes past the new length stay').
use Rattle.std.specs.Prelude.{ℕ, ◌+◌, ◌≤◌, min, ◌≡◌, List, length}
use Rattle.std.proofs.lemmas.List.Edits.{sets}

-- the largest number of 64 bits
abbrev pub largest : ℕ
largest = 18446744073709551615

-- bs put at `at` into a buffer: those that have room are stored, all else in it stays, and the next place is behind all of them
pub record Puts (out : List ℕ) (at : ℕ) (bs : List ℕ) (next : ℕ) (after : List ℕ) : Type 0 where
  pub room : length out ≤ largest
  pub next-is : next ≡ min largest (at + length bs)
  pub after_is : after ≡ sets out at bs

-- a list whose length has 32 bits
abbrev pub Narrow : List ℕ → Type 0
Narrow s = length s ≤ 4294967295
