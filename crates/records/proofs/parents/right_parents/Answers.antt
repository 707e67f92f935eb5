-- The list of parents is compared with the parents that are climbed to. Assumes nothing.
use Rattle.std.proofs.Common.{arith, sym, ◌∙◌}
use Rattle.records.proofs.ClimbLaws.{agrees_start, agrees_behind, agrees_next, agrees_stop, agrees_end}
use Rattle.records.proofs.parents.right_parents.Goals as goal

pub loop-i-init : goal.loop-i-init
loop-i-init c = agrees_start

pub parent_at-requires : goal.parent_at-requires
parent_at-requires c = agrees_behind c.loop-i.invariant (omega arith) c.loop-i-test.true

pub loop-i-preserved : goal.loop-i-preserved
loop-i-preserved c = agrees_next c.loop-i.invariant (omega arith) c.loop-i-test.true c.parent_at.ensures (sym c.wide.ensures.0 ∙ c.if-wide-parent_at.false)

pub returns-then-wide-parent_at : goal.returns-then-wide-parent_at
returns-then-wide-parent_at c =
    agrees_stop c.loop-i.invariant (omega arith) c.loop-i-test.true c.parent_at.ensures (λ q. c.if-wide-parent_at.true (c.wide.ensures.0 ∙ q))

pub returns : goal.returns
returns c = agrees_end c.loop-i.invariant (omega arith) (omega arith)
