use Rattle.std.proofs.Common.{◌≡◌}
use Rattle.section.proofs.OpeningLaws.{Opening}
use Rattle.section.proofs.opening.first_pass.Given as goal

abbrev pub invariant-loop-item : goal.invariant-loop-item
invariant-loop-item l =
    (l.item-iterator.stream.now ≡ l.s) × Opening l.s l.table l.item-iterator.at.0 l.item-iterator.cap l.n l.stray l.deepest
