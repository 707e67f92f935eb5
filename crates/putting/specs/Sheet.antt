-- Bytes put onto a sheet, which still lends the buffer that it lent.
use Rattle.std.specs.Prelude.{ℕ, List, ◌≡◌}
use Rattle.putting.specs.Putting.{Puts}
use Rattle.putting.specs.declared.put.Sheet.{Sheet}

pub record Put (s : Sheet) (bs : List ℕ) (t : Sheet) : Type 0 where
  pub same : t.out.ghost_name ≡ s.out.ghost_name
  pub puts : Puts s.out.now s.at.0 bs t.at.0 t.out.now
