-- The five lent lists that stand in a struct, and that it still holds those that it held.
use Rattle.std.specs.Prelude.{◌≡◌}
use Rattle.records.specs.Table.{Lists, lists}
use Rattle.records.specs.declared.table.Columns.{Columns}

-- the lists as they are
abbrev pub lists_of : Columns → Lists
lists_of t = lists t.tags.now t.levels.now t.places.now t.lengths.now t.parents.now

-- no list was exchanged for another
pub record Same (t u : Columns) : Type 0 where
  pub tags : u.tags.ghost_name ≡ t.tags.ghost_name
  pub levels : u.levels.ghost_name ≡ t.levels.ghost_name
  pub places : u.places.ghost_name ≡ t.places.ghost_name
  pub lengths : u.lengths.ghost_name ≡ t.lengths.ghost_name
  pub parents : u.parents.ghost_name ≡ t.parents.ghost_name
