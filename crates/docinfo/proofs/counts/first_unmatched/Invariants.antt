use Rattle.records.specs.Parents.{children}
use Rattle.docinfo.proofs.WalkLaws.{rest}
use Rattle.docinfo.proofs.CountLaws.{Matching}
use Rattle.docinfo.proofs.counts.first_unmatched.Given as goal

abbrev pub invariant-loop-g : goal.invariant-loop-g
invariant-loop-g g l = Matching g.row.N l.body (children 1 (rest 1 l.s l.behind.0)) l.g-items l.g-index
