use Rattle.std.proofs.Common.{◌≡◌}
use Rattle.changing.specs.Child.{field_at}
use Rattle.writing.proofs.BehindLaws.{Behind}
use Rattle.writing.proofs.behind.put_behind.Given as goal

abbrev pub invariant-loop-r : goal.invariant-loop-r
invariant-loop-r l = record {
  stream-is : l.r-iterator.stream.now ≡ l.s.bytes.now;
  at-is : l.r-iterator.at.0 ≡ l.end.0;
  level-is : l.children.n ≡ l.n;
  behind : Behind l.initial.sheet (field_at l.fill.spot) l.fill.value.bytes.now l.n l.s.bytes.now l.initial.end.0 l.end.0 l.children.nth l.sheet;
}
