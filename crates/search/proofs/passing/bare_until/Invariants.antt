use Rattle.std.proofs.Common.{◌≡◌}
use Rattle.search.proofs.BareLaws.{Baring}
use Rattle.search.proofs.passing.bare_until.Given as goal

abbrev pub invariant-loop-r : goal.invariant-loop-r
invariant-loop-r l = (l.r-iterator.stream.now ≡ l.s) × (l.end ≡ l.r-iterator.at) × Baring l.s l.n l.fn.from.0 l.r-iterator.at.0
