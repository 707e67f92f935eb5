-- The laws of a header's length, and of the body behind it. Assumes nothing.
use Prim.Native.Nat.{ℕ, ◌+◌, ◌≤◌, ◌<◌}
use native.Mathlib.Omega.{arith}
use native.Mathlib.Decide.{dec_le}
use native.Mathlib.Nat.{lt_of_not-le}
use mathlib.Core.Path.{◌≡◌}
use mathlib.Core.List.{List}
use lib.ListN.{length, take, drop, length-drop}
use lib.Seq.{length-take-le}
use borrow.Author.Tests.{lt-ltb, le-ltb}
use Rattle.records.specs.Records.{lead_of}

pub lead_short : (n : ℕ) → n < 4095 → lead_of n ≡ 4
unfolding lead_of
lead_short n h = simp (lt-ltb n 4095 h)

pub lead_long : (n : ℕ) → 4095 ≤ n → lead_of n ≡ 8
unfolding lead_of
lead_long n h = simp (le-ltb n 4095 h)

pub lead_bounds : (n : ℕ) → (4 ≤ lead_of n) × (lead_of n ≤ 8)
lead_bounds n =
    elim (dec_le 4095 n) [
      | yes h ↦ let e = lead_long n h in (omega arith, omega arith)
      | no h ↦ let e = lead_short n (lt_of_not-le h) in (omega arith, omega arith)
    ]

pub length_part : (s : List ℕ) (skip n : ℕ) → skip + n ≤ length s → length (take n (drop skip s)) ≡ n
length_part s skip n h = length-take-le n (drop skip s) (simp length-drop (omega arith))
