-- The laws of a view: how a record stands to a parent, case by case. Assumes nothing.
use Prim.Native.Nat.{ℕ, ◌≤◌, ◌<◌}
use native.Mathlib.Omega.{arith}
use mathlib.Core.Path.{◌≡◌}
use borrow.Author.Tests.{lt-ltb, le-ltb, le-leb, lt-leb, eq-eqb, ne_eqb}
use Rattle.paragraph.specs.View.{side}
use Rattle.paragraph.specs.declared.view.Side.TheVariants as S

module _ (n tag level : ℕ) where
  pub side_beyond : level < n → side n tag level ≡ S.Beyond
  unfolding side
  side_beyond h = simp (lt-ltb level n h)

  pub side_deeper : n < level → side n tag level ≡ S.Passed
  unfolding side
  side_deeper h = simp (le-ltb level n (omega arith), ne_eqb level n (λ e. omega arith))

  pub side_low : level ≡ n → tag < 67 → side n tag level ≡ S.Passed
  unfolding side
  side_low e t = simp (le-ltb level n (omega arith), eq-eqb level n e, lt-leb 67 tag t)

  pub side_high : level ≡ n → 67 ≤ tag → 71 < tag → side n tag level ≡ S.Passed
  unfolding side
  side_high e t u = simp (le-ltb level n (omega arith), eq-eqb level n e, le-leb 67 tag t, lt-leb tag 71 u)

  pub side_owned : level ≡ n → 67 ≤ tag → tag ≤ 71 → side n tag level ≡ S.Owned
  unfolding side
  side_owned e t u = simp (le-ltb level n (omega arith), eq-eqb level n e, le-leb 67 tag t, le-leb tag 71 u)
